use Rattle.std.proofs.Common.{length}
use Rattle.proof_constraint.specs.Places.{state_of}
use Rattle.proof_constraint.proofs.Gives.{Stands}
use Rattle.proof_constraint.proofs.reading.any_given.Given as goal

abbrev pub invariant-tokens : goal.invariant-tokens
invariant-tokens l = Stands (state_of l.place l.draft) l.text l.rest

abbrev pub decreases-tokens : goal.decreases-tokens
decreases-tokens l = length l.rest
