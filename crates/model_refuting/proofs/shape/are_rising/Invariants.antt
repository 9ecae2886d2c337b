use Rattle.std.proofs.Common.{◌≡◌, length, map}
use Rattle.model_refuting.specs.Tests as tests
use Rattle.model_refuting.proofs.shape.are_rising.Given as goal

abbrev pub invariant-loop-row : goal.invariant-loop-row
invariant-loop-row g l = tests.are_rising (map g.R.Row.at l.rows) ≡ tests.are_rising (map g.R.Row.at l.fn.rows)

abbrev pub decreases-loop-row : goal.decreases-loop-row
decreases-loop-row g l = length l.rows
