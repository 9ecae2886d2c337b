use Rattle.form_encoding.proofs.Extents.{extent_is}
use Rattle.form_encoding.proofs.laws.extent_law.Goals as goal

pub returns : goal.returns
returns c = extent_is
