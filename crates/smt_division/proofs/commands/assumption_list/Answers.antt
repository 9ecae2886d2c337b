use Rattle.std.proofs.Common.{rules, ℕ, ◌≡◌, ◌∙◌, ◌++◌, ◌∷◌, [], length, map, sym, ap, subst, IfOk, Option, Some, None}
use Rattle.smt_lists.specs.declared.tree.Sexp.TheVariants as s
use Rattle.smt_lists.specs.Expressions.{Expr, Exprs, exprs, list, and_expr, no_expr, expr, exprs_of}
use Rattle.smt_lists.proofs.Folds.{expr-List}
use Rattle.smt_division.specs.declared.commands.Task.TheVariants as task
use Rattle.smt_division.specs.Commands.{body_of, formula_of, term_of, task_of, undivided_by, undivided_list}
use Rattle.smt_division.specs.Terms.{closed_all}
use Rattle.smt_division.proofs.CommandForms.{assume_left, assume_atom, assume_made}
use Rattle.smt_division.proofs.commands.assumption_list.Goals as goal

pub returns-in_default : goal.returns-in_default
returns-in_default c =
    subst (λ z. IfOk c.kept.result (λ x. expr x ≡ z)) (sym (assume_left c.args.at (expr c.args.head.now) (exprs_of c.args.rest.now) c.in_default.ensures)) c.kept.ensures

pub returns-in-Atom : goal.returns-in-Atom
returns-in-Atom c =
    subst (λ z. IfOk c.kept-in-Atom.result (λ x. expr x ≡ z)) (sym (assume_atom c.args.at (expr c.args.head.now) c.args.rest.now c.in-Some.terms.now c.in-Atom.field-0 c.in-Some.ensures c.in-Atom.is)) c.kept-in-Atom.ensures

pub returns-in_ok-one-in-List : goal.returns-in_ok-one-in-List
returns-in_ok-one-in-List c =
    let made = expr-List c.in-List.inner c.in_ok-formulas-in-List.formulas ∙ ap (λ z. list c.in-List.inner (exprs z)) (c.in_ok-formulas-in-List.ensures ∙ ap (λ z. closed_all (exprs_of z)) c.as_slice.ensures) in
    subst (λ z. IfOk c.headed.result (λ x. expr x ≡ z))
    (ap (λ z. list c.args.at (and_expr (expr c.args.head.now) (exprs_of z))) c.in_ok-one-in-List.ensures ∙ ap (λ z. list c.args.at (and_expr (expr c.args.head.now) (and_expr z no_expr))) made
    ∙ sym (assume_made c.args.at (expr c.args.head.now) c.args.rest.now c.in-Some.terms.now c.in-List.inner c.in-List.members c.in-Some.ensures c.in-List.is)) c.headed.ensures
