use Rattle.base_budget.specs.Trace.{just}
use Rattle.formula.specs.Form.{at_least}
use Rattle.formula.specs.Tree.{form}
use Rattle.formula.proofs.Building.{form-Geq}
use Rattle.formula.proofs.Making.{made_ok, made_err, made_just}
use Rattle.function_encoding.proofs.bounds.at_most.Goals as goal

pub returns-in_err-below : goal.returns-in_err-below
returns-in_err-below c = made_err (λ u. u) form _ _ _ c.from_residual.ensures.1 c.in_err-below.ensures

pub returns : goal.returns
returns c = made_ok (λ u. u) form _ (λ u. just (at_least u)) c.in_ok-below.ensures (made_just form _ _ (form-Geq _))
