use Rattle.formula.specs.Tree.{form}
use Rattle.model_formulas.proofs.Placed.{neq_at}
use Rattle.model_formulas.proofs.placing.inequation_at.Goals as goal

pub returns : goal.returns
returns c = neq_at c.args.t.now c.in_ok-u.u c.args.ts.now (form c.inequation.result) c.in_ok-u.ensures c.inequation.ensures
