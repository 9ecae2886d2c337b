-- What is so everywhere in a formula: of a property that follows from another, and under quantifiers.
use Rattle.std.proofs.Common.{◌≡◌, ℕ, suc, ◌+◌, Bool, true, false, List, [], ◌∷◌, length, refl, ap, subst, arith}
use Rattle.std.specs.List.{AllByRecursion}
use Rattle.form_typed.specs.declared.typed.Sort.{Sort}
use Rattle.form_typed.specs.Formula.{Formula, Formulas, Expression, Expressions, constant, compares, applies, negation, every, some, implies, iff, for_all, for_some, part, no_formula, and_formula, number, name, call, minus, total, product, choice, absolute, lesser, greater, no_expression, and_expression}
use Rattle.pri_typing.specs.Everywhere.{Property, Everywhere, AllEverywhere, TermEverywhere, TermsEverywhere}
use Rattle.pri_typing.specs.Typing.{quantifiers, signed}

-- what has the property P with m binders around it has the property Q with n, where m and n are so related
pub record Moves (R : ℕ → ℕ → Type 0) (P Q : Property) : Type 0 where
  pub under_binder : (m n : ℕ) → R m n → R (suc m) (suc n)
  pub of_formula : (m n : ℕ) → R m n → (f : Formula) → P.of_formula m f → Q.of_formula n f
  pub of_term : (m n : ℕ) → R m n → (t : Expression) → P.of_term m t → Q.of_term n t

mutual
  pub moved : (R : ℕ → ℕ → Type 0) (P Q : Property) → Moves R P Q → (m n : ℕ) → R m n → (f : Formula) → Everywhere P m f → Everywhere Q n f
  moved R P Q w m n r (constant b) h = w.of_formula m n r (constant b) h
  moved R P Q w m n r (compares c s t) h = (w.of_formula m n r (compares c s t) h.0, term_moved R P Q w m n r s h.1, term_moved R P Q w m n r t h.2)
  moved R P Q w m n r (applies p ts) h = (w.of_formula m n r (applies p ts) h.0, terms_moved R P Q w m n r ts h.1)
  moved R P Q w m n r (negation f) h = (w.of_formula m n r (negation f) h.0, moved R P Q w m n r f h.1)
  moved R P Q w m n r (every fs) h = (w.of_formula m n r (every fs) h.0, all_moved R P Q w m n r fs h.1)
  moved R P Q w m n r (some fs) h = (w.of_formula m n r (some fs) h.0, all_moved R P Q w m n r fs h.1)
  moved R P Q w m n r (implies f g) h = (w.of_formula m n r (implies f g) h.0, moved R P Q w m n r f h.1, moved R P Q w m n r g h.2)
  moved R P Q w m n r (iff f g) h = (w.of_formula m n r (iff f g) h.0, moved R P Q w m n r f h.1, moved R P Q w m n r g h.2)
  moved R P Q w m n r (for_all sort f) h = (w.of_formula m n r (for_all sort f) h.0, moved R P Q w (suc m) (suc n) (w.under_binder m n r) f h.1)
  moved R P Q w m n r (for_some sort f) h = (w.of_formula m n r (for_some sort f) h.0, moved R P Q w (suc m) (suc n) (w.under_binder m n r) f h.1)
  moved R P Q w m n r (part k f) h = (w.of_formula m n r (part k f) h.0, moved R P Q w m n r f h.1)

  pub all_moved : (R : ℕ → ℕ → Type 0) (P Q : Property) → Moves R P Q → (m n : ℕ) → R m n → (fs : Formulas) → AllEverywhere P m fs → AllEverywhere Q n fs
  all_moved R P Q w m n r no_formula h = tt {0}
  all_moved R P Q w m n r (and_formula f fs) h = (moved R P Q w m n r f h.0, all_moved R P Q w m n r fs h.1)

  pub term_moved : (R : ℕ → ℕ → Type 0) (P Q : Property) → Moves R P Q → (m n : ℕ) → R m n → (t : Expression) → TermEverywhere P m t → TermEverywhere Q n t
  term_moved R P Q w m n r (number v) h = w.of_term m n r (number v) h
  term_moved R P Q w m n r (name x) h = w.of_term m n r (name x) h
  term_moved R P Q w m n r (call f ts) h = (w.of_term m n r (call f ts) h.0, terms_moved R P Q w m n r ts h.1)
  term_moved R P Q w m n r (minus t) h = (w.of_term m n r (minus t) h.0, term_moved R P Q w m n r t h.1)
  term_moved R P Q w m n r (total ts) h = (w.of_term m n r (total ts) h.0, terms_moved R P Q w m n r ts h.1)
  term_moved R P Q w m n r (product s t) h = (w.of_term m n r (product s t) h.0, term_moved R P Q w m n r s h.1, term_moved R P Q w m n r t h.2)
  term_moved R P Q w m n r (choice f s t) h =
      (w.of_term m n r (choice f s t) h.0, moved R P Q w m n r f h.1, term_moved R P Q w m n r s h.2, term_moved R P Q w m n r t h.3)
  term_moved R P Q w m n r (absolute t) h = (w.of_term m n r (absolute t) h.0, term_moved R P Q w m n r t h.1)
  term_moved R P Q w m n r (lesser s t) h = (w.of_term m n r (lesser s t) h.0, term_moved R P Q w m n r s h.1, term_moved R P Q w m n r t h.2)
  term_moved R P Q w m n r (greater s t) h = (w.of_term m n r (greater s t) h.0, term_moved R P Q w m n r s h.1, term_moved R P Q w m n r t h.2)

  pub terms_moved : (R : ℕ → ℕ → Type 0) (P Q : Property) → Moves R P Q → (m n : ℕ) → R m n → (ts : Expressions) → TermsEverywhere P m ts → TermsEverywhere Q n ts
  terms_moved R P Q w m n r no_expression h = tt {0}
  terms_moved R P Q w m n r (and_expression t ts) h = (term_moved R P Q w m n r t h.0, terms_moved R P Q w m n r ts h.1)

-- one property follows from another
pub record Follows (P Q : Property) : Type 0 where
  pub of_formula : (n : ℕ) (f : Formula) → P.of_formula n f → Q.of_formula n f
  pub of_term : (n : ℕ) (t : Expression) → P.of_term n t → Q.of_term n t

pub everywhere_more : (P Q : Property) → Follows P Q → (n : ℕ) (f : Formula) → Everywhere P n f → Everywhere Q n f
everywhere_more P Q w n = moved (λ m n. m ≡ n) P Q (record {
  under_binder = λ m n e. ap suc e;
  of_formula = λ m n e f h. subst (λ z. Q.of_formula z f) e (w.of_formula m f h);
  of_term = λ m n e t h. subst (λ z. Q.of_term z t) e (w.of_term m t h);
}) n n refl

-- a property that asks nothing of a minus itself, and of a quantifier nothing but that its type is so
pub record IsLax (S : Sort → Type 0) (P : Property) : Type 0 where
  pub at_for_all : (n : ℕ) (sort : Sort) (f : Formula) → S sort → P.of_formula n (for_all sort f)
  pub at_for_some : (n : ℕ) (sort : Sort) (f : Formula) → S sort → P.of_formula n (for_some sort f)
  pub at_minus : (n : ℕ) (t : Expression) → P.of_term n (minus t)

-- nothing is asked of a type
abbrev pub AnySort : Sort → Type 0
AnySort sort = Unit {0}

pub any_sorts : (sorts : List Sort) → AllByRecursion AnySort sorts
any_sorts [] = tt {0}
any_sorts (sort ∷ sorts) = (tt {0}, any_sorts sorts)

pub under : (S : Sort → Type 0) (P : Property) → IsLax S P → (all : Bool) (sorts : List Sort) (n : ℕ) (f : Formula) → AllByRecursion S sorts → Everywhere P (n + length sorts) f
    → Everywhere P n (quantifiers all sorts f)
under S P w all [] n f s h = subst (λ z. Everywhere P z f) (omega arith) h
under S P w true (sort ∷ sorts) n f s h =
    (w.at_for_all n sort (quantifiers true sorts f) s.0, under S P w true sorts (suc n) f s.1 (subst (λ z. Everywhere P z f) (omega arith) h))
under S P w false (sort ∷ sorts) n f s h =
    (w.at_for_some n sort (quantifiers false sorts f) s.0, under S P w false sorts (suc n) f s.1 (subst (λ z. Everywhere P z f) (omega arith) h))

pub with_sign : (S : Sort → Type 0) (P : Property) → IsLax S P → (n : ℕ) (sign : Bool) (t : Expression) → TermEverywhere P n t → TermEverywhere P n (signed sign t)
with_sign S P w n true t h = (w.at_minus n t, h)
with_sign S P w n false t h = h

-- what is so everywhere under quantifiers
pub beneath : (P : Property) (all : Bool) (sorts : List Sort) (n : ℕ) (f : Formula) → Everywhere P n (quantifiers all sorts f) → Everywhere P (n + length sorts) f
beneath P all [] n f h = subst (λ z. Everywhere P z f) (omega arith) h
beneath P true (sort ∷ sorts) n f h = subst (λ z. Everywhere P z f) (omega arith) (beneath P true sorts (suc n) f h.1)
beneath P false (sort ∷ sorts) n f h = subst (λ z. Everywhere P z f) (omega arith) (beneath P false sorts (suc n) f h.1)

pub without_sign : (P : Property) (n : ℕ) (sign : Bool) (t : Expression) → TermEverywhere P n (signed sign t) → TermEverywhere P n t
without_sign P n true t h = h.1
without_sign P n false t h = h
