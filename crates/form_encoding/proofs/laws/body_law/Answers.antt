use Rattle.form_encoding.proofs.Problems.{over_constants_is}
use Rattle.form_typed.specs.Formula.{formula}
use Rattle.form_encoding.proofs.laws.body_law.Goals as goal

pub returns : goal.returns
returns c = λ w p e formed l. over_constants_is w p (formula p.formula) e formed.products l
