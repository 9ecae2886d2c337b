use Rattle.model_table.proofs.Rows.{first_value, default_value, first_truth, default_truth}
use Rattle.model_table.proofs.laws.model_law.Goals as goal

pub returns-clause-first_value : goal.returns-clause-first_value
returns-clause-first_value c = first_value

pub returns-clause-default_value : goal.returns-clause-default_value
returns-clause-default_value c = default_value

pub returns-clause-first_truth : goal.returns-clause-first_truth
returns-clause-first_truth c = first_truth

pub returns-clause-default_truth : goal.returns-clause-default_truth
returns-clause-default_truth c = default_truth
