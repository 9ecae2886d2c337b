use Rattle.form_closures.proofs.Values.{put_over, put_value}
use Rattle.form_closures.proofs.laws.put_law.Goals as goal

pub returns-clause-value : goal.returns-clause-value
returns-clause-value c = put_value

pub returns-clause-over : goal.returns-clause-over
returns-clause-over c = put_over
