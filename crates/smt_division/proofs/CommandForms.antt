-- The commands without division of each form.
use Rattle.std.proofs.Common.{ℕ, ◌≡◌, List, [], ◌∷◌, length, refl, sym, ap, ◌∙◌, arith, Option, Some, None, Result, Ok, Err, IfOk}
use Rattle.linear_term.specs.declared.range.Memory.{Memory}
use Rattle.smt_lists.specs.declared.tree.Atom.{Atom}
use Rattle.smt_lists.specs.declared.tree.Sexp.{Sexp}
use Rattle.smt_lists.specs.declared.tree.Sexp.TheVariants as s
use Rattle.smt_lists.specs.Expressions.{Expr, Exprs, atom, list, no_expr, and_expr, exprs, expr, exprs_of}
use Rattle.smt_lists.proofs.Folds.{expr-Atom, expr-List}
use Rattle.smt_division.specs.declared.commands.Task.TheVariants as task
use Rattle.smt_division.specs.Forms.{pair_of, single_of}
use Rattle.smt_division.specs.Terms.{closed_all}
use Rattle.smt_division.specs.Commands.{body_of, formula_of, task_of, term_of, undivided_by, undivided_list}

pub assert_left : (at : ℕ) (h : Expr) (es : Exprs) → single_of es ≡ None → undivided_by task.Assert at h es ≡ list at (and_expr h es)
assert_left at h no_expr e = refl
assert_left at h (and_expr x no_expr) e = absurd (cc)
assert_left at h (and_expr x (and_expr y ys)) e = refl

pub assert_made : (at : ℕ) (h : Expr) (es : List Sexp) (t : Sexp) → es ≡ t ∷ [] → undivided_by task.Assert at h (exprs_of es) ≡ list at (exprs (h ∷ formula_of (expr t) ∷ []))
assert_made at h es t e = ap (λ z. undivided_by task.Assert at h (exprs_of z)) e

pub assume_left : (at : ℕ) (h : Expr) (es : Exprs) → single_of es ≡ None → undivided_by task.Assume at h es ≡ list at (and_expr h es)
assume_left at h no_expr e = refl
assume_left at h (and_expr x no_expr) e = absurd (cc)
assume_left at h (and_expr (atom a) (and_expr y ys)) e = refl
assume_left at h (and_expr (list b bs) (and_expr y ys)) e = refl

pub assume_atom : (at : ℕ) (h : Expr) (es : List Sexp) (t : Sexp) (a : Atom) → es ≡ t ∷ [] → t ≡ s.Atom a → undivided_by task.Assume at h (exprs_of es) ≡ list at (and_expr h (exprs_of es))
assume_atom at h es t a e is =
    let known : exprs_of es ≡ and_expr (atom a) no_expr = ap exprs_of e ∙ ap (λ z. and_expr z no_expr) (ap expr is ∙ expr-Atom a) in
    ap (undivided_by task.Assume at h) known ∙ ap (λ z. list at (and_expr h z)) (sym known)

pub assume_made : (at : ℕ) (h : Expr) (es : List Sexp) (t : Sexp) (b : ℕ) (ts : List Sexp) → es ≡ t ∷ [] → t ≡ s.List b ts
    → undivided_by task.Assume at h (exprs_of es) ≡ list at (exprs (h ∷ list b (exprs (closed_all (exprs_of ts))) ∷ []))
assume_made at h es t b ts e is = ap (undivided_by task.Assume at h) (ap exprs_of e ∙ ap (λ z. and_expr z no_expr) (ap expr is ∙ expr-List b ts))

constant_short : (at : ℕ) (h x : Expr) (es : Exprs) → pair_of es ≡ None → undivided_by task.Constant at h (and_expr x es) ≡ list at (and_expr h (and_expr x es))
constant_short at h x no_expr e = refl
constant_short at h x (and_expr a no_expr) e = refl
constant_short at h x (and_expr a (and_expr b no_expr)) e = absurd (cc)
constant_short at h x (and_expr a (and_expr b (and_expr d ds))) e = refl

pub constant_left : (at : ℕ) (h : Expr) (es : List Sexp) (x : Sexp) (more : List Sexp) → es ≡ x ∷ more → pair_of (exprs_of more) ≡ None
    → undivided_by task.Constant at h (exprs_of es) ≡ list at (and_expr h (exprs_of es))
constant_left at h es x more e k =
    ap (λ z. undivided_by task.Constant at h (exprs_of z)) e ∙ constant_short at h (expr x) (exprs_of more) k ∙ ap (λ z. list at (and_expr h (exprs_of z))) (sym e)

pub constant_made : (at : ℕ) (h : Expr) (es : List Sexp) (x : Sexp) (more : List Sexp) (q t : Sexp) → es ≡ x ∷ more → more ≡ q ∷ t ∷ []
    → undivided_by task.Constant at h (exprs_of es) ≡ list at (exprs (h ∷ expr x ∷ expr q ∷ term_of (expr q) (expr t) ∷ []))
constant_made at h es x more q t e k = ap (λ z. undivided_by task.Constant at h (exprs_of z)) (e ∙ ap (λ z. x ∷ z) k)

function_short : (at : ℕ) (h f xs : Expr) (es : Exprs) → pair_of es ≡ None → undivided_by task.Function at h (and_expr f (and_expr xs es)) ≡ list at (and_expr h (and_expr f (and_expr xs es)))
function_short at h f xs no_expr e = refl
function_short at h f xs (and_expr a no_expr) e = refl
function_short at h f xs (and_expr a (and_expr b no_expr)) e = absurd (cc)
function_short at h f xs (and_expr a (and_expr b (and_expr d ds))) e = refl

pub function_left : (at : ℕ) (h : Expr) (es : List Sexp) (f : Sexp) (behind : List Sexp) (xs : Sexp) (more : List Sexp) → es ≡ f ∷ behind → behind ≡ xs ∷ more → pair_of (exprs_of more) ≡ None
    → undivided_by task.Function at h (exprs_of es) ≡ list at (and_expr h (exprs_of es))
function_left at h es f behind xs more e g k =
    let parts : es ≡ f ∷ xs ∷ more = e ∙ ap (λ z. f ∷ z) g in
    ap (λ z. undivided_by task.Function at h (exprs_of z)) parts ∙ function_short at h (expr f) (expr xs) (exprs_of more) k ∙ ap (λ z. list at (and_expr h (exprs_of z))) (sym parts)

pub function_made : (at : ℕ) (h : Expr) (es : List Sexp) (f : Sexp) (behind : List Sexp) (xs : Sexp) (more : List Sexp) (q t : Sexp) → es ≡ f ∷ behind → behind ≡ xs ∷ more → more ≡ q ∷ t ∷ []
    → undivided_by task.Function at h (exprs_of es) ≡ list at (exprs (h ∷ expr f ∷ expr xs ∷ expr q ∷ body_of (expr xs) (expr q) (expr t) ∷ []))
function_made at h es f behind xs more q t e g k = ap (λ z. undivided_by task.Function at h (exprs_of z)) (e ∙ ap (λ z. f ∷ z) (g ∙ ap (λ z. xs ∷ z) k))

pub constant_none : (at : ℕ) (h : Expr) (es : List Sexp) → length es ≡ 0 → undivided_by task.Constant at h (exprs_of es) ≡ list at (and_expr h (exprs_of es))
constant_none at h [] e = refl
constant_none at h (x ∷ es) e = absurd (grind arith)

pub function_none : (at : ℕ) (h : Expr) (es : List Sexp) → length es ≡ 0 → undivided_by task.Function at h (exprs_of es) ≡ list at (and_expr h (exprs_of es))
function_none at h [] e = refl
function_none at h (x ∷ es) e = absurd (grind arith)

one_only : (at : ℕ) (h f : Expr) (es : List Sexp) → length es ≡ 0 → undivided_by task.Function at h (and_expr f (exprs_of es)) ≡ list at (and_expr h (and_expr f (exprs_of es)))
one_only at h f [] e = refl
one_only at h f (x ∷ es) e = absurd (grind arith)

pub function_one : (at : ℕ) (h : Expr) (es : List Sexp) (f : Sexp) (behind : List Sexp) → es ≡ f ∷ behind → length behind ≡ 0 → undivided_by task.Function at h (exprs_of es) ≡ list at (and_expr h (exprs_of es))
function_one at h es f behind e k =
    ap (λ z. undivided_by task.Function at h (exprs_of z)) e ∙ one_only at h (expr f) behind k ∙ ap (λ z. list at (and_expr h (exprs_of z))) (sym e)

empty_list : (ms : List Sexp) → length ms ≡ 0 → ms ≡ []
empty_list [] h = refl
empty_list (e ∷ es) h = absurd (grind arith)

pub listed_atom : (e : Sexp) (a : Atom) → e ≡ s.Atom a → expr e ≡ undivided_list (expr e)
listed_atom e a is = let known : expr e ≡ atom a = ap expr is ∙ expr-Atom a in known ∙ ap undivided_list (sym known)

pub listed_empty : (e : Sexp) (at : ℕ) (ms : List Sexp) → e ≡ s.List at ms → length ms ≡ 0 → expr e ≡ undivided_list (expr e)
listed_empty e at ms is h =
    let known : expr e ≡ list at no_expr = ap expr is ∙ expr-List at ms ∙ ap (λ z. list at (exprs_of z)) (empty_list ms h) in
    known ∙ ap undivided_list (sym known)

pub listed_made : (e : Sexp) (at : ℕ) (ms : List Sexp) (h : Sexp) (rest : List Sexp) → e ≡ s.List at ms → ms ≡ h ∷ rest
    → undivided_list (expr e) ≡ undivided_by (task_of (expr h)) at (expr h) (exprs_of rest)
listed_made e at ms h rest is parts = ap undivided_list (ap expr is ∙ expr-List at ms ∙ ap (λ z. list at (exprs_of z)) parts)

pub copied : (e : Sexp) (r : Result Sexp Memory) → IfOk r (λ x. x ≡ e) → IfOk r (λ x. expr x ≡ expr e)
copied e (Ok x) h = ap expr h
copied e (Err m) h = tt
