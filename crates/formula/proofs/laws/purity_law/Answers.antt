use Rattle.formula.proofs.Anywhere.{truth_anywhere}
use Rattle.formula.proofs.laws.purity_law.Goals as goal

pub returns : goal.returns
returns c = truth_anywhere
