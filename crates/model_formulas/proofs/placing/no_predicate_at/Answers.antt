use Rattle.formula.specs.Tree.{form}
use Rattle.model_formulas.proofs.Placed.{not_pred_at}
use Rattle.model_formulas.proofs.placing.no_predicate_at.Goals as goal

pub returns : goal.returns
returns c = not_pred_at c.args.model.now c.args.p c.args.us.now c.args.ts.now c.in_ok-g.g c.in_ok-h.h c.in_ok-g.ensures c.in_ok-h.ensures
