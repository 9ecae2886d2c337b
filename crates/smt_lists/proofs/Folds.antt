-- The tree of an atom and of a list: one equation for each, since a fold does not compute by itself.
use Rattle.std.proofs.Common.{◌≡◌, ℕ, List, ap, ◌∙◌, sym}
use Rattle.smt_lists.specs.declared.tree.Atom.{Atom}
use Rattle.smt_lists.specs.declared.tree.Sexp.{Sexp}
use Rattle.smt_lists.specs.declared.tree.Sexp.TheVariants as s
use Rattle.smt_lists.specs.declared.tree.Sexp.TheVariants.{rolls-Atom, rolls-List}
use Rattle.smt_lists.specs.declared.tree.Sexp.TheOpen as o
use Rattle.smt_lists.specs.declared.tree.Sexp.TheFolds.{fold-roll-Sexp}
use Rattle.smt_lists.specs.Expressions.{Expr, expr, exprs_of, expr_step, atom, list}

pub expr-Atom : (a : Atom) → expr (s.Atom a) ≡ atom a
expr-Atom a = ap expr (sym (rolls-Atom a)) ∙ fold-roll-Sexp Expr expr_step (o.Atom a)

pub expr-List : (at : ℕ) (es : List Sexp) → expr (s.List at es) ≡ list at (exprs_of es)
expr-List at es = ap expr (sym (rolls-List at es)) ∙ fold-roll-Sexp Expr expr_step (o.List at es)
