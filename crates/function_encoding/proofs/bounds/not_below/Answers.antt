use Rattle.base_budget.specs.Trace.{just}
use Rattle.formula.specs.Form.{at_least}
use Rattle.formula.specs.Tree.{form}
use Rattle.formula.proofs.Building.{form-Geq}
use Rattle.formula.proofs.Making.{made_ok, made_err, made_just}
use Rattle.function_encoding.proofs.bounds.not_below.Goals as goal

pub returns-in_err-beyond : goal.returns-in_err-beyond
returns-in_err-beyond c = made_err (λ u. u) form _ _ _ c.from_residual.ensures.1 c.in_err-beyond.ensures

pub returns : goal.returns
returns c = made_ok (λ u. u) form _ (λ u. just (at_least u)) c.in_ok-beyond.ensures (made_just form _ _ (form-Geq _))
