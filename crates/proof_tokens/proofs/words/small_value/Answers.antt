use Rattle.std.proofs.Common.{◌^◌}
use Rattle.base_numerals.proofs.Digits.{too_great}
use Rattle.proof_tokens.proofs.words.small_value.Goals as goal

pub returns-in_err-value : goal.returns-in_err-value
returns-in_err-value c = record {
  exact = rw c.from_residual.ensures
      (too_great (2 ^ 32) c.loop-digit.value c.loop-digit.digit-index c.args.digits.now c.loop-digit-test.true c.loop-digit.invariant c.in_err-value.ensures.exact);
}
