use Rattle.std.proofs.Common.{◌≡◌, drop}
use Rattle.base_numerals.specs.Numerals.{with_digits, decimal_value}
use Rattle.clause_words.proofs.numbers.small_value.Given as goal

abbrev pub invariant-loop-digit : goal.invariant-loop-digit
invariant-loop-digit l = with_digits l.value (drop l.digit-index l.digits) ≡ decimal_value l.digits
