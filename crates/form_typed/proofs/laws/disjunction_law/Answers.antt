use Rattle.form_typed.proofs.Connectives.{disjunction, disjunct, not_some}
use Rattle.form_typed.proofs.laws.disjunction_law.Goals as goal

pub returns-clause-members : goal.returns-clause-members
returns-clause-members c = disjunction

pub returns-clause-one_member : goal.returns-clause-one_member
returns-clause-one_member c = disjunct

pub returns-clause-de_morgan : goal.returns-clause-de_morgan
returns-clause-de_morgan c = not_some
