use Rattle.std.proofs.Common.{drop, take}
use Rattle.model_formulas.proofs.Chosen.{GuardsSo}
use Rattle.model_formulas.proofs.choosing.by_rows.Given as goal

abbrev pub invariant-loop-i : goal.invariant-loop-i
invariant-loop-i l = GuardsSo l.arguments l.rows (take l.i l.rows) (drop l.i l.rows) l.function.default l.out l.apart
