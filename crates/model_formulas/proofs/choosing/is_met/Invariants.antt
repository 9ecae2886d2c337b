use Rattle.std.proofs.Common.{◌≡◌, drop}
use Rattle.model_formulas.specs.Choices.{is_met}
use Rattle.model_formulas.proofs.choosing.is_met.Given as goal

abbrev pub invariant-loop-row : goal.invariant-loop-row
invariant-loop-row l = is_met l.rows l.xs ≡ is_met (drop l.row-index l.rows) l.xs
