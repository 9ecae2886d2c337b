use Rattle.std.proofs.Common.{map, drop}
use Rattle.base_budget.proofs.Charging.{Left}
use Rattle.formula.specs.Duals.{duals}
use Rattle.formula.specs.Tree.{form, forms_of}
use Rattle.formula.proofs.Negating.{rest}
use Rattle.formula.proofs.negation.+dual.Given as goal

abbrev pub invariant-dual_all-loop-f : goal.invariant-dual_all-loop-f
invariant-dual_all-loop-f l = Left (rest (map form l.out) (forms_of (drop l.f-index l.formulas))) (duals (forms_of l.formulas))
