-- What the forms of lists say of their members.
use Rattle.std.proofs.Common.{ℕ, ◌≡◌, ◌==◌, Bool, true, false, List, [], ◌∷◌, ◌++◌, length, map, refl, sym, ap, subst, ◌∙◌, IsTrue, Option, Some, None}
use Rattle.smt_lists.specs.declared.tree.Sexp.{Sexp}
use Rattle.smt_lists.specs.declared.tree.Sexp.TheVariants as s
use Rattle.smt_lists.specs.Expressions.{Expr, Exprs, atom, list, no_expr, and_expr, expr, exprs_of}
use Rattle.smt_lists.proofs.Folds.{expr-List}
use Rattle.smt_division.specs.Forms.{pair_of, single_of}
use Rattle.smt_division.specs.Terms.{Reduct, closing, quantified, divided_all, divided_some}

nonempty : {b : Bool} → b ≡ (length {A = Sexp} [] == 0) → b ≡ false → ⊥
nonempty {b} e f = cc

long_pair : (x y : Expr) (end : List Sexp) (b : Bool) → b ≡ (length end == 0) → b ≡ false → pair_of (and_expr x (and_expr y (exprs_of end))) ≡ None
long_pair x y [] b e f = absurd (nonempty e f)
long_pair x y (z ∷ end) b e f = refl

pub no_pair : (es : List Sexp) (x : Sexp) (behind : List Sexp) (y : Sexp) (end : List Sexp) (b : Bool) → es ≡ x ∷ behind → behind ≡ y ∷ end → b ≡ (length end == 0) → b ≡ false
    → pair_of (exprs_of es) ≡ None
no_pair es x behind y end b p q e f = ap (λ z. pair_of (exprs_of z)) (p ∙ ap (λ z. x ∷ z) q) ∙ long_pair (expr x) (expr y) end b e f

long_single : (x : Expr) (end : List Sexp) (b : Bool) → b ≡ (length end == 0) → b ≡ false → single_of (and_expr x (exprs_of end)) ≡ None
long_single x [] b e f = absurd (nonempty e f)
long_single x (z ∷ end) b e f = refl

pub no_single : (es : List Sexp) (x : Sexp) (end : List Sexp) (b : Bool) → es ≡ x ∷ end → b ≡ (length end == 0) → b ≡ false → single_of (exprs_of es) ≡ None
no_single es x end b p e f = ap (λ z. single_of (exprs_of z)) p ∙ long_single (expr x) end b e f

pub closing_some : (at : ℕ) (t : Expr) (xs : List Sexp) (cs : List Expr) (b : Bool) → (xs ≡ [] → IsTrue b) → b ≡ false → closing at t (map expr xs) cs ≡ quantified at t (map expr xs) cs
closing_some at t [] cs b e f = let q = subst IsTrue f (e refl) in cc
closing_some at t (x ∷ xs) cs b e f = refl

pub some_divisors : (at : ℕ) (ns : List Sexp) (p : Reduct) (b : Bool) → b ≡ (length ns == 0) → b ≡ false → divided_some at (exprs_of ns) p ≡ divided_all at (exprs_of ns) p
some_divisors at [] p b e f = absurd (nonempty e f)
some_divisors at (n ∷ ns) p b e f = refl
