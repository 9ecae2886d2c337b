use Rattle.model_refuting.proofs.Refuted.{body_fails, refuted, root_fails}
use Rattle.model_refuting.proofs.laws.refuting_law.Goals as goal

pub returns-clause-root : goal.returns-clause-root
returns-clause-root c = root_fails

pub returns-clause-body : goal.returns-clause-body
returns-clause-body c = body_fails

pub returns-clause-refuted : goal.returns-clause-refuted
returns-clause-refuted c = refuted
