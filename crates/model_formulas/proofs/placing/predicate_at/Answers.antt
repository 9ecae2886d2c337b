use Rattle.formula.specs.Tree.{form}
use Rattle.model_formulas.proofs.Placed.{pred_at}
use Rattle.model_formulas.proofs.placing.predicate_at.Goals as goal

pub returns : goal.returns
returns c = pred_at c.args.model.now c.args.p c.args.us.now c.in_ok-arguments.arguments c.as_slice.result.now c.args.ts.now (form c.in_ok-g.g) c.in_ok-arguments.ensures c.as_slice.ensures c.in_ok-g.ensures
