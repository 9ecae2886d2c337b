use Rattle.std.proofs.Common.{◌≡◌, drop}
use Rattle.model_table.specs.Models.{truth_in}
use Rattle.model_table.proofs.model.PredicateModel.truth.Given as goal

abbrev pub invariant-loop-row : goal.invariant-loop-row
invariant-loop-row l = truth_in l.self.rows l.self.default l.xs ≡ truth_in (drop l.row-index l.self.rows) l.self.default l.xs
