use Rattle.model_trees.proofs.Tables.{evaluated-value, table_sorted}
use Rattle.model_trees.proofs.laws.rows_law.Goals as goal

pub returns-clause-truths : goal.returns-clause-truths
returns-clause-truths c = λ stop. (table_sorted stop).0

pub returns-clause-values : goal.returns-clause-values
returns-clause-values c = λ stop. (table_sorted stop).1

pub returns-clause-term : goal.returns-clause-term
returns-clause-term c = evaluated-value
