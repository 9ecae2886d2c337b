use Rattle.std.proofs.Common.{rules, ℕ, ◌≡◌, ◌∙◌, ◌++◌, ◌∷◌, [], length, map, sym, ap, subst, IfOk, Option, Some, None}
use Rattle.smt_lists.specs.Expressions.{Expr, Exprs, exprs, list, and_expr, no_expr, expr, exprs_of}
use Rattle.smt_division.specs.declared.commands.Task.TheVariants as task
use Rattle.smt_division.specs.Commands.{body_of, formula_of, term_of, task_of, undivided_by, undivided_list}
use Rattle.smt_division.specs.Terms.{closed_all}
use Rattle.smt_division.proofs.CommandForms.{copied, listed_atom, listed_empty, listed_made}
use Rattle.smt_division.proofs.commands.undivided_list.Goals as goal

pub returns-in-Atom : goal.returns-in-Atom
returns-in-Atom c = subst (λ z. IfOk c.copy.result (λ x. expr x ≡ z)) (listed_atom c.args.e.now c.in-Atom.field-0 c.in-Atom.is) (copied c.args.e.now c.copy.result c.copy.ensures)

pub returns-in-Some : goal.returns-in-Some
returns-in-Some c =
    subst (λ z. IfOk c.undivided_members.result (λ x. expr x ≡ z))
    (sym (listed_made c.args.e.now c.in-List.at c.in-List.members c.in-Some.head.now c.in-Some.rest.now c.in-List.is (sym c.as_slice.ensures ∙ c.in-Some.ensures.cases.0))) c.undivided_members.ensures
