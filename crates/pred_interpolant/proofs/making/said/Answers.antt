use Rattle.std.proofs.Common.{sym, subst}
use Rattle.form_typed.specs.Formula.{formula}
use Rattle.pred_interpolant.specs.Fit.{IsFitFormula}
use Rattle.pred_interpolant.specs.Middle.{IsOverProblem}
use Rattle.pred_interpolant.proofs.Standing.{over_fit}
use Rattle.pred_interpolant.proofs.Tables.{if_ok}
use Rattle.pred_interpolant.proofs.making.said.Goals as goal

pub returns-in-General-clause-fit : goal.returns-in-General-clause-fit
returns-in-General-clause-fit c =
    if_ok c.copy.result _ _ (λ f e. subst (λ z. IsFitFormula c.args.p.now (formula z)) (sym e) (over_fit c.args.p.now _ (subst (IsOverProblem c.args.p.now) c.in-General.is c.requires.over))) c.copy.ensures
