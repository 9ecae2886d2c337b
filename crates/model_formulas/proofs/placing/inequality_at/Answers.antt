use Rattle.formula.specs.Tree.{form}
use Rattle.model_formulas.proofs.Placed.{geq_at}
use Rattle.model_formulas.proofs.placing.inequality_at.Goals as goal

pub returns : goal.returns
returns c = geq_at c.args.t.now c.in_ok-u.u c.args.ts.now (form c.inequality.result) c.in_ok-u.ensures c.inequality.ensures
