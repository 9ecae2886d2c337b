use Rattle.base_budget.specs.Trace.{just}
use Rattle.formula.specs.Form.{at_least}
use Rattle.formula.specs.Tree.{form}
use Rattle.formula.proofs.Building.{form-Geq}
use Rattle.formula.proofs.Making.{made_ok, made_err, made_just}
use Rattle.function_encoding.proofs.atoms.at_least.Goals as goal

pub returns-in_err-difference : goal.returns-in_err-difference
returns-in_err-difference c = made_err (λ u. u) form _ _ _ c.from_residual.ensures.1 c.in_err-difference.ensures

pub returns : goal.returns
returns c = made_ok (λ u. u) form _ (λ d. just (at_least d)) c.in_ok-difference.ensures (made_just form _ _ (form-Geq _))
