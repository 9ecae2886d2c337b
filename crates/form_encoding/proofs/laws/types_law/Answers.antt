use Rattle.form_encoding.proofs.Conditions.{pointwise}
use Rattle.form_encoding.proofs.laws.types_law.Goals as goal

pub returns : goal.returns
returns c = pointwise
