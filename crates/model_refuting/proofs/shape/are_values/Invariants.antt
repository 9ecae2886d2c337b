use Rattle.std.proofs.Common.{◌≡◌, length}
use Rattle.model_refuting.specs.Tests as tests
use Rattle.model_refuting.proofs.shape.are_values.Given as goal

abbrev pub invariant-loop-sort : goal.invariant-loop-sort
invariant-loop-sort l = tests.are_values l.types l.values ≡ tests.are_values l.fn.types l.fn.values

abbrev pub decreases-loop-sort : goal.decreases-loop-sort
decreases-loop-sort l = length l.types
