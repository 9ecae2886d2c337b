use Rattle.form_typed.proofs.Connectives.{conjunction, not_every}
use Rattle.form_typed.proofs.laws.conjunction_law.Goals as goal

pub returns-clause-members : goal.returns-clause-members
returns-clause-members c = conjunction

pub returns-clause-de_morgan : goal.returns-clause-de_morgan
returns-clause-de_morgan c = not_every
