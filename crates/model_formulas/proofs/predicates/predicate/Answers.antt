use Rattle.std.proofs.Common.{◌≡◌, ℤ, List, true, subst}
use Rattle.std.specs.Prelude.{IfSome}
use Rattle.formula.specs.Form.{values_of}
use Rattle.formula.specs.Tree.{form}
use Rattle.model_table.specs.Models.{truth_at, truth_in}
use Rattle.model_formulas.specs.Expansions.{Tells}
use Rattle.model_formulas.proofs.Chosen.{if_ok}
use Rattle.model_formulas.proofs.Firsts.{holds_missing, holds_known, holds_rows}
use Rattle.model_formulas.proofs.predicates.predicate.Goals as goal

pub returns-in-None : goal.returns-in-None
returns-in-None c =
    holds_missing (form c.truth.result) c.args.model.now.predicates c.as_slice.result.now c.args.p c.at.result c.args.arguments.now c.as_slice.ensures c.at.ensures c.in-None.is c.truth.ensures

pub returns-in-Some-2 : goal.returns-in-Some-2
returns-in-Some-2 c =
    let values : (e : List ℤ) → values_of c.args.arguments.now e ≡ c.in-Some-2.xs
    = subst (λ o. IfSome o (λ xs. (e : List ℤ) → values_of c.args.arguments.now e ≡ xs)) c.in-Some-2.is c.in_ok-xs-in-Some.ensures in
    holds_known (form c.truth-in-Some-2.result) c.args.model.now.predicates c.as_slice.result.now c.args.p c.at.result c.in-Some.predicate c.args.arguments.now c.in-Some-2.xs c.as_slice-in-Some-2.result.now c.truth-b.result
    c.as_slice.ensures c.at.ensures c.in-Some.is values c.as_slice-in-Some-2.ensures c.truth-b.ensures c.truth-in-Some-2.ensures

pub returns-in-None-2 : goal.returns-in-None-2
returns-in-None-2 c =
    if_ok c.by_rows.result (λ g. Tells (form g) (λ e. truth_in c.in-Some.predicate.now.rows c.in-Some.predicate.now.default (values_of c.args.arguments.now e) ≡ true))
    (λ g. Tells (form g) (λ e. truth_at c.args.model.now.predicates c.args.p (values_of c.args.arguments.now e) ≡ true))
    (λ g h. holds_rows (form g) c.args.model.now.predicates c.as_slice.result.now c.args.p c.at.result c.in-Some.predicate c.args.arguments.now c.as_slice.ensures c.at.ensures c.in-Some.is h) c.by_rows.ensures
