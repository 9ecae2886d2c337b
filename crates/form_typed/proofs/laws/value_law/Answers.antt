use Rattle.form_typed.proofs.Connectives.{one_value, some_value}
use Rattle.form_typed.proofs.laws.value_law.Goals as goal

pub returns-clause-one_value : goal.returns-clause-one_value
returns-clause-one_value c = one_value

pub returns-clause-some_value : goal.returns-clause-some_value
returns-clause-some_value c = some_value
