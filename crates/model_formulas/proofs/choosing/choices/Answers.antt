use Rattle.std.proofs.Common.{rules, ◌≡◌, ℤ, List, Result, Ok, Err, IfOk, subst, to_z-of_z}
use Rattle.std.specs.Prelude.{IfSome}
use mir.Syntax.{w128}
use mir.Val.{SFits}
use Rattle.formula.specs.Form.{values_of}
use Rattle.model_table.specs.Models.{value_at, value_in}
use Rattle.model_formulas.specs.Choices.{AreChoices}
use Rattle.model_formulas.proofs.Chosen.{choices_missing, choices_known, choices_rows, if_ok}
use Rattle.model_formulas.proofs.choosing.choices.Goals as goal

pub returns-in_ok-single-in-None : goal.returns-in_ok-single-in-None
returns-in_ok-single-in-None c =
    choices_missing c.in_ok-single-in-None.field-0 c.args.model.now.functions c.as_slice.result.now c.args.f c.at.result c.args.arguments.now c.as_slice.ensures c.at.ensures c.in-None.is c.in_ok-single-in-None.ensures

pub returns-in_ok-single-in-Some-2 : goal.returns-in_ok-single-in-Some-2
returns-in_ok-single-in-Some-2 c =
    let f : SFits w128 c.value-value.result = search rules in
    let values : (e : List ℤ) → values_of c.args.arguments.now e ≡ c.in-Some-2.xs
    = subst (λ o. IfSome o (λ xs. (e : List ℤ) → values_of c.args.arguments.now e ≡ xs)) c.in-Some-2.is c.in_ok-xs-in-Some.ensures in
    choices_known c.in_ok-single-in-Some-2.field-0 c.args.model.now.functions c.as_slice.result.now c.args.f c.at.result c.in-Some.function c.args.arguments.now c.in-Some-2.xs c.as_slice-in-Some-2.result.now c.value-value.result
    c.as_slice.ensures c.at.ensures c.in-Some.is values c.as_slice-in-Some-2.ensures c.value-value.ensures (simp to_z-of_z at c.in_ok-single-in-Some-2.ensures)

pub returns-in-None-2 : goal.returns-in-None-2
returns-in-None-2 c =
    if_ok c.by_rows.result (λ gs. AreChoices gs (λ e. value_in c.in-Some.function.now.rows c.in-Some.function.now.default (values_of c.args.arguments.now e)))
    (λ gs. AreChoices gs (λ e. value_at c.args.model.now.functions c.args.f (values_of c.args.arguments.now e)))
    (λ gs h. choices_rows gs c.args.model.now.functions c.as_slice.result.now c.args.f c.at.result c.in-Some.function c.args.arguments.now c.as_slice.ensures c.at.ensures c.in-Some.is h) c.by_rows.ensures
