use Rattle.std.proofs.Common.{rules, ℕ, ◌≡◌, ◌∙◌, ◌++◌, ◌∷◌, [], length, map, sym, ap, subst, IfOk, Option, Some, None}
use Rattle.smt_lists.specs.Expressions.{Expr, Exprs, exprs, list, and_expr, no_expr, expr, exprs_of}
use Rattle.smt_division.specs.declared.commands.Task.TheVariants as task
use Rattle.smt_division.specs.Commands.{body_of, formula_of, term_of, task_of, undivided_by, undivided_list}
use Rattle.smt_division.specs.Terms.{closed_all}
use Rattle.smt_division.proofs.CommandForms.{assert_left, assert_made}
use Rattle.smt_division.proofs.commands.assertion.Goals as goal

pub returns-in_default : goal.returns-in_default
returns-in_default c = subst (λ z. IfOk c.kept.result (λ x. expr x ≡ z)) (sym (assert_left c.args.at (expr c.args.head.now) (exprs_of c.args.rest.now) c.in_default.ensures)) c.kept.ensures

pub returns : goal.returns
returns c =
    subst (λ z. IfOk c.headed.result (λ x. expr x ≡ z))
    (ap (λ z. list c.args.at (and_expr (expr c.args.head.now) (exprs_of z))) c.in_ok-one.ensures ∙ ap (λ z. list c.args.at (and_expr (expr c.args.head.now) (and_expr z no_expr))) c.in_ok-formula.ensures
    ∙ sym (assert_made c.args.at (expr c.args.head.now) c.args.rest.now c.in-Some.term.now c.in-Some.ensures)) c.headed.ensures
