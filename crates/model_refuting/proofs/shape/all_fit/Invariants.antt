use Rattle.std.proofs.Common.{◌≡◌, length, map}
use Rattle.model_refuting.specs.Tests as tests
use Rattle.model_refuting.proofs.shape.all_fit.Given as goal

abbrev pub invariant-loop-table : goal.invariant-loop-table
invariant-loop-table g l = tests.all_fit l.symbols (map g.T.Rows.places l.tables) ≡ tests.all_fit l.fn.symbols (map g.T.Rows.places l.fn.tables)

abbrev pub decreases-loop-table : goal.decreases-loop-table
decreases-loop-table g l = length l.tables
