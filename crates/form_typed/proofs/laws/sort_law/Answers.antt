use Rattle.form_typed.proofs.Connectives.{all_integers, naturals, empty_range}
use Rattle.form_typed.proofs.laws.sort_law.Goals as goal

pub returns-clause-integers : goal.returns-clause-integers
returns-clause-integers c = all_integers

pub returns-clause-naturals : goal.returns-clause-naturals
returns-clause-naturals c = naturals

pub returns-clause-empty : goal.returns-clause-empty
returns-clause-empty c = empty_range
