use Rattle.formula.specs.Tree.{form}
use Rattle.model_formulas.proofs.Placed.{fun_at}
use Rattle.model_formulas.proofs.placing.differing_at.Goals as goal

pub returns : goal.returns
returns c = fun_at c.args.model.now c.args.f c.args.us.now c.in_ok-arguments.arguments c.as_slice.result.now c.args.u.now c.in_ok-value.value c.in_ok-guards.guards c.as_slice-2.result.now c.args.ts.now (form c.in_ok-g.g) c.in_ok-arguments.ensures c.as_slice.ensures c.in_ok-guards.ensures c.as_slice-2.ensures c.in_ok-value.ensures c.in_ok-g.ensures
