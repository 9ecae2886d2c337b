use Rattle.formula.proofs.Stability.{form_stable}
use Rattle.formula.proofs.laws.stability_law.Goals as goal

pub returns : goal.returns
returns c = form_stable
