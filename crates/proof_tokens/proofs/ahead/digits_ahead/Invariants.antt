use Rattle.std.proofs.Common.{length}
use Rattle.proof_tokens.proofs.Fronts.{Counts}
use Rattle.proof_tokens.proofs.ahead.digits_ahead.Given as goal

abbrev pub invariant-loop-digit : goal.invariant-loop-digit
invariant-loop-digit l = Counts l.text l.value l.rest

abbrev pub decreases-loop-digit : goal.decreases-loop-digit
decreases-loop-digit l = length l.rest
