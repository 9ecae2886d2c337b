use Rattle.form_typed.proofs.Connectives.{not_for_all}
use Rattle.form_typed.proofs.laws.quantifier_law.Goals as goal

pub returns-clause-not_for_all : goal.returns-clause-not_for_all
returns-clause-not_for_all c = not_for_all
