use Rattle.std.proofs.Common.{length}
use Rattle.formula.specs.Tree.{form}
use Rattle.model_refuting.proofs.Body.{IsAbove}
use Rattle.model_refuting.proofs.below.body_of.Given as goal

abbrev pub invariant-loop-sort : goal.invariant-loop-sort
invariant-loop-sort l = IsAbove l.problem l.types (form l.f)

abbrev pub decreases-loop-sort : goal.decreases-loop-sort
decreases-loop-sort l = length l.types
