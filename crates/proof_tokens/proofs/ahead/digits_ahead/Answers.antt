use Rattle.std.proofs.Common.{rules}
use Rattle.proof_tokens.proofs.Fronts.{more_count, too_many}
use Rattle.proof_tokens.proofs.ahead.digits_ahead.Goals as goal

pub loop-digit-preserved : goal.loop-digit-preserved
loop-digit-preserved c =
    more_count c.args.text.now c.loop-digit.rest.now c.in-Some.more.now c.loop-digit.value c.in_ok-value.value c.in-Some.digit.now (search rules) (search rules) c.in_ok-value.ensures.exact c.loop-digit.invariant

pub returns-in_err-value : goal.returns-in_err-value
returns-in_err-value c =
    rw c.from_residual.ensures (too_many c.args.text.now c.loop-digit.rest.now c.in-Some.more.now c.loop-digit.value c.in-Some.digit.now (search rules) (search rules) c.in_err-value.ensures.exact c.loop-digit.invariant)
