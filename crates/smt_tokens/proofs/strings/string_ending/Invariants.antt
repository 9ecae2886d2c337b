use Rattle.std.proofs.Common.{◌≡◌, drop}
use Rattle.smt_tokens.specs.Lexemes.{ending_from, string_ending_of}
use Rattle.smt_tokens.proofs.strings.string_ending.Given as goal

abbrev pub invariant-loop-i : goal.invariant-loop-i
invariant-loop-i l = ending_from l.i l.quote (drop l.i l.text) ≡ string_ending_of l.text
