use Rattle.formula.specs.Tree.{form}
use Rattle.model_formulas.proofs.Placed.{eq_at}
use Rattle.model_formulas.proofs.placing.equation_at.Goals as goal

pub returns : goal.returns
returns c = eq_at c.args.t.now c.in_ok-u.u c.args.ts.now (form c.equation.result) c.in_ok-u.ensures c.equation.ensures
