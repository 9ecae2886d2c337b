use Rattle.std.proofs.Common.{length}
use Rattle.proof_constraint.proofs.Further.{Named}
use Rattle.proof_constraint.proofs.names.take_names.Given as goal

abbrev pub invariant-loop-minus : goal.invariant-loop-minus
invariant-loop-minus l = Named l.fn.draft l.draft l.text l.rest

abbrev pub decreases-loop-minus : goal.decreases-loop-minus
decreases-loop-minus l = length l.rest
