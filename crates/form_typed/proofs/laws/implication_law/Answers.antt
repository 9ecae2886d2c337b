use Rattle.form_typed.proofs.Connectives.{implication}
use Rattle.form_typed.proofs.laws.implication_law.Goals as goal

pub returns-clause-implication : goal.returns-clause-implication
returns-clause-implication c = implication
