use Rattle.std.proofs.Common.{◌+◌, sym, subst}
use Rattle.form_typed.specs.Formula.{formula}
use Rattle.pred_interpolant.specs.Fit.{IsFitFormula}
use Rattle.pred_interpolant.proofs.NormalForms.{dnf_fit, dnf_is}
use Rattle.pred_interpolant.proofs.Tables.{if_ok}
use Rattle.pred_interpolant.proofs.normal_form.dnf_as_formula.Goals as goal

pub returns-clause-fit : goal.returns-clause-fit
returns-clause-fit c =
    let p = c.args.p.now in
    if_ok c.normal_form.result _ _ (λ f e.
    subst (IsFitFormula p) (sym (dnf_is p c.args.d.now c.clauses-2.result.now _ (formula f) c.clauses-2.ensures (λ i. c.len.ensures i + c.len-2.ensures i) e))
    (dnf_fit p c.args.d.now c.clauses.result.now c.clauses.ensures c.know_clauses.ensures c.requires.over)) c.normal_form.ensures
