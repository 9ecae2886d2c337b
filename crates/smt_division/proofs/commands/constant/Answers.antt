use Rattle.std.proofs.Common.{rules, ℕ, ◌≡◌, ◌∙◌, ◌++◌, ◌∷◌, [], length, map, sym, ap, subst, IfOk, Option, Some, None}
use Rattle.smt_lists.specs.declared.tree.Sexp.TheVariants as s
use Rattle.smt_lists.specs.Expressions.{Expr, Exprs, exprs, list, and_expr, no_expr, expr, exprs_of}
use Rattle.smt_lists.proofs.Folds.{expr-List}
use Rattle.smt_division.specs.declared.commands.Task.TheVariants as task
use Rattle.smt_division.specs.Commands.{body_of, formula_of, term_of, task_of, undivided_by, undivided_list}
use Rattle.smt_division.specs.Terms.{closed_all}
use Rattle.smt_division.proofs.CommandForms.{constant_none, constant_left, constant_made}
use Rattle.smt_division.proofs.commands.constant.Goals as goal

pub returns-in_default : goal.returns-in_default
returns-in_default c =
    let none : length c.args.rest.now ≡ 0 = search rules in
    subst (λ z. IfOk c.kept.result (λ x. expr x ≡ z)) (sym (constant_none c.args.at (expr c.args.head.now) c.args.rest.now none)) c.kept.ensures

pub returns-in_default-pair : goal.returns-in_default-pair
returns-in_default-pair c =
    subst (λ z. IfOk c.kept-in_default-pair.result (λ x. expr x ≡ z)) (sym (constant_left c.args.at (expr c.args.head.now) c.args.rest.now c.in-Some.name.now c.in-Some.behind.now c.in-Some.ensures.cases.0 c.in_default-pair.ensures)) c.kept-in_default-pair.ensures

pub returns : goal.returns
returns c =
    let parts : map expr c.push.new.self ≡ expr c.in-Some.name.now ∷ expr c.in-Some-pair.sort.now ∷ term_of (expr c.in-Some-pair.sort.now) (expr c.in-Some-pair.term.now) ∷ [] = search rules in
    subst (λ z. IfOk c.headed.result (λ x. expr x ≡ z))
    (ap (λ z. list c.args.at (and_expr (expr c.args.head.now) (exprs z))) parts
    ∙ sym (constant_made c.args.at (expr c.args.head.now) c.args.rest.now c.in-Some.name.now c.in-Some.behind.now c.in-Some-pair.sort.now c.in-Some-pair.term.now c.in-Some.ensures.cases.0 c.in-Some-pair.ensures)) c.headed.ensures
