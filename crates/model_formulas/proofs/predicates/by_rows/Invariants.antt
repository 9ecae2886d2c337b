use Rattle.formula.specs.Tree.{form}
use Rattle.model_formulas.proofs.Firsts.{TruthSo}
use Rattle.model_formulas.proofs.predicates.by_rows.Given as goal

abbrev pub invariant-loop-i : goal.invariant-loop-i
invariant-loop-i l = TruthSo l.arguments l.rows l.predicate.default l.i (form l.g)
