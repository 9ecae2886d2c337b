-- The numerals of commands without division are in the range of coefficients, where those of the commands are.
use Rattle.std.proofs.Common.{◌≡◌, ◌≤◌, ◌∙◌, ap, refl, length, take, take_all, ℕ, Bool, true, false, List, [], ◌∷◌, map, if◌then◌else◌}
use Rattle.std.specs.Prelude.{codes}
use Rattle.std.specs.List.{AllByRecursion}
use Rattle.smt_lists.specs.declared.tree.Sexp.{Sexp}
use Rattle.smt_lists.specs.Expressions.{expr, Expr, Exprs, atom, list, no_expr, and_expr, exprs, place_of}
use Rattle.smt_division.specs.declared.commands.Task.{Task}
use Rattle.smt_division.specs.declared.commands.Task.TheVariants as task
use Rattle.smt_division.specs.Forms.{bind_operators, is_word}
use Rattle.smt_division.specs.Terms.{closed_all, reduct}
use Rattle.smt_division.specs.Commands.{body_of, formula_of, mentions, task_of, term_by, term_of, undivided, undivided_by, undivided_list, undivided_script}
use Rattle.smt_shorthand.specs.Ranged.{IsRangedExpr, AreRangedExprs}
use Rattle.smt_division.proofs.Ranged.{AreRanged, IsRangedReduct, ranged-closed, ranged-closed_all, ranged-exprs, ranged-reduct}

ranged-formula : (t : Expr) → IsRangedExpr t → IsRangedExpr (formula_of t)
ranged-formula t a = ranged-closed (place_of t) (reduct t) (ranged-reduct t a)

ranged-choice : (w : Bool) (x y : Expr) → IsRangedExpr x → IsRangedExpr y → IsRangedExpr (if w then x else y)
ranged-choice true x y a b = a
ranged-choice false x y a b = b

ranged-term_by : (t u : Expr) (xs : List Expr) → IsRangedExpr t → IsRangedExpr u → IsRangedExpr (term_by t u xs)
ranged-term_by t u [] a b = b
ranged-term_by t u (x ∷ xs) a b = a

ranged-term : (q t : Expr) → IsRangedExpr t → IsRangedExpr (term_of q t)
ranged-term q t a =
    ranged-choice (is_word (codes "Bool") q) (formula_of t) (term_by t (reduct t).term (reduct t).variables) (ranged-formula t a)
    (ranged-term_by t (reduct t).term (reduct t).variables a (ranged-reduct t a).term)

ranged-body : (xs q t : Expr) → IsRangedExpr t → IsRangedExpr (body_of xs q t)
ranged-body (atom x) q t a = a
ranged-body (list c xs) q t a = ranged-choice (bind_operators xs) t (term_of q t) a (ranged-term q t a)

ranged-by : (w : Task) (at : ℕ) (h : Expr) (es : Exprs) → IsRangedExpr h → AreRangedExprs es → IsRangedExpr (undivided_by w at h es)
ranged-by task.Assert at h no_expr a b = (a, b)
ranged-by task.Assert at h (and_expr t no_expr) a b = (a, (ranged-formula t b.0, tt))
ranged-by task.Assert at h (and_expr t (and_expr u us)) a b = (a, b)
ranged-by task.Assume at h no_expr a b = (a, b)
ranged-by task.Assume at h (and_expr (atom x) us) a b = (a, b)
ranged-by task.Assume at h (and_expr (list c ts) no_expr) a b = (a, (ranged-exprs (closed_all ts) (ranged-closed_all ts b.0), tt))
ranged-by task.Assume at h (and_expr (list c ts) (and_expr u us)) a b = (a, b)
ranged-by task.Constant at h no_expr a b = (a, b)
ranged-by task.Constant at h (and_expr x no_expr) a b = (a, b)
ranged-by task.Constant at h (and_expr x (and_expr q no_expr)) a b = (a, b)
ranged-by task.Constant at h (and_expr x (and_expr q (and_expr t no_expr))) a b = (a, (b.0, (b.1.0, (ranged-term q t b.1.1.0, tt))))
ranged-by task.Constant at h (and_expr x (and_expr q (and_expr t (and_expr u us)))) a b = (a, b)
ranged-by task.Function at h no_expr a b = (a, b)
ranged-by task.Function at h (and_expr f no_expr) a b = (a, b)
ranged-by task.Function at h (and_expr f (and_expr xs no_expr)) a b = (a, b)
ranged-by task.Function at h (and_expr f (and_expr xs (and_expr q no_expr))) a b = (a, b)
ranged-by task.Function at h (and_expr f (and_expr xs (and_expr q (and_expr t no_expr)))) a b = (a, (b.0, (b.1.0, (b.1.1.0, (ranged-body xs q t b.1.1.1.0, tt)))))
ranged-by task.Function at h (and_expr f (and_expr xs (and_expr q (and_expr t (and_expr u us))))) a b = (a, b)
ranged-by task.Other at h es a b = (a, b)

ranged-list : (e : Expr) → IsRangedExpr e → IsRangedExpr (undivided_list e)
ranged-list (atom x) a = a
ranged-list (list at no_expr) a = a
ranged-list (list at (and_expr h es)) a = ranged-by (task_of h) at h es a.0 a.1

ranged-command : (e : Expr) → IsRangedExpr e → IsRangedExpr (undivided e)
ranged-command e a = ranged-choice (mentions e) (undivided_list e) e (ranged-list e a) a

pub ranged_script : (es : List Expr) → AllByRecursion IsRangedExpr es → AllByRecursion IsRangedExpr (undivided_script es)
ranged_script [] a = tt
ranged_script (e ∷ es) a = (ranged-command e a.0, ranged_script es a.1)

all_undivided : (es : List Sexp) → map (λ e. undivided (expr e)) es ≡ undivided_script (map expr es)
all_undivided [] = refl
all_undivided (e ∷ es) = ap (λ z. undivided (expr e) ∷ z) (all_undivided es)

pub script_made : (cs : List Expr) (es items : List Sexp) (i : ℕ) → items ≡ es → length items ≤ i → cs ≡ map (λ e. undivided (expr e)) (take i items) → cs ≡ undivided_script (map expr es)
script_made cs es items i same h k =
    k ∙ ap (map (λ e. undivided (expr e))) (take_all i items h) ∙ ap (map (λ e. undivided (expr e))) same ∙ all_undivided es
