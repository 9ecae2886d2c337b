use Rattle.model_formulas.proofs.Readings.{name_is}
use Rattle.model_formulas.proofs.reading.is_name.Goals as goal

pub returns : goal.returns
returns c = λ h. name_is c.args.t.now c.name.result c.args.n c.compare.result c.is_eq.result c.name.ensures c.compare.ensures c.is_eq.ensures h
