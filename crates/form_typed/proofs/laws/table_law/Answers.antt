use Rattle.form_typed.proofs.Rows.{is_true_at_row-row, is_true_at_row-none, value_at_row-row, value_at_row-none}
use Rattle.form_typed.proofs.laws.table_law.Goals as goal

pub returns-clause-row_true : goal.returns-clause-row_true
returns-clause-row_true c = is_true_at_row-row

pub returns-clause-no_row_false : goal.returns-clause-no_row_false
returns-clause-no_row_false c = is_true_at_row-none

pub returns-clause-first_row_value : goal.returns-clause-first_row_value
returns-clause-first_row_value c = value_at_row-row

pub returns-clause-no_row_zero : goal.returns-clause-no_row_zero
returns-clause-no_row_zero c = value_at_row-none
