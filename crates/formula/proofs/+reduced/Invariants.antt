use Rattle.formula.proofs.Knowing.{FormulasBefore}
use Rattle.formula.proofs.+reduced.Given as goal

abbrev pub invariant-reduced::know_formulas-loop-f : goal.invariant-reduced::know_formulas-loop-f
invariant-reduced::know_formulas-loop-f l = FormulasBefore l.formulas l.f-index
