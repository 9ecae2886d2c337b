use Rattle.std.proofs.Common.{◌≡◌, drop}
use Rattle.model_table.specs.Models.{value_in}
use Rattle.model_table.proofs.model.FunctionModel.value.Given as goal

abbrev pub invariant-loop-row : goal.invariant-loop-row
invariant-loop-row l = value_in l.self.rows l.self.default l.xs ≡ value_in (drop l.row-index l.self.rows) l.self.default l.xs
