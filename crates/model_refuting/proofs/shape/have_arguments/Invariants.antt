use Rattle.std.proofs.Common.{◌≡◌, length, map}
use Rattle.model_refuting.specs.Tests as tests
use Rattle.model_refuting.proofs.shape.have_arguments.Given as goal

abbrev pub invariant-loop-row : goal.invariant-loop-row
invariant-loop-row g l = tests.have_arguments l.n (map g.R.Row.at l.rows) ≡ tests.have_arguments l.n (map g.R.Row.at l.fn.rows)

abbrev pub decreases-loop-row : goal.decreases-loop-row
decreases-loop-row g l = length l.rows
