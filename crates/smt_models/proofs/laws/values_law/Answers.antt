use Rattle.smt_models.proofs.Truths.{truth_found}
use Rattle.smt_models.proofs.laws.values_law.Goals as goal

pub returns : goal.returns
returns c = truth_found
