-- A name does not occur in a formula exactly where each name that stands there is another one.
use Rattle.std.proofs.Common.{◌≡◌, ◌≢◌, ◌↔◌, ℕ, suc, false, nat_eq, List, [], ◌∷◌, ◌++◌, arith}
use Rattle.std.specs.List.{AllByRecursion}
use Rattle.std.proofs.lemmas.Bool.Decides.{nat_tests}
use Rattle.form_typed.specs.Formula.{Formula, Formulas, Expression, Expressions, constant, compares, applies, negation, every, some, implies, iff, for_all, for_some, part, no_formula, and_formula, number, name, call, minus, total, product, choice, absolute, lesser, greater, no_expression, and_expression}
use Rattle.pri_typing.specs.Everywhere.{Property, Everywhere, AllEverywhere, TermEverywhere, TermsEverywhere}
use Rattle.pri_typing.specs.WellFormed.{of_terms}
use Rattle.clause_set.proofs.Divisors.{kept-append}
use Rattle.elim_rule_laws.proofs.EquationLists.{any-none, none-any}
use Rattle.form_encoding.specs.Occurrences.{names_in, names_in_all, names_in_term, names_in_terms, occurs}
use Rattle.interpolant.specs.Sides.{IsOtherName, LacksName}

abbrev Others : ℕ → List ℕ → Type 0
Others x = AllByRecursion (λ y. nat_eq x y ≡ false)

abbrev other : ℕ → Property
other x = of_terms (IsOtherName x)

join : (x : ℕ) (ys zs : List ℕ) → Others x ys → Others x zs → Others x (ys ++ zs)
join x = kept-append (λ y. nat_eq x y ≡ false)

split : (x : ℕ) (ys zs : List ℕ) → Others x (ys ++ zs) → Others x ys × Others x zs
split x [] zs h = (tt, h)
split x (y ∷ ys) zs h = let rest = split x ys zs h.1 in ((h.0, rest.0), rest.1)

differ : (x y : ℕ) → x ≢ y → nat_eq x y ≡ false
differ x y n = grind (arith, nat_tests)

apart : (x y : ℕ) → nat_eq x y ≡ false → x ≢ y
apart x y e same = grind (arith, nat_tests)

mutual
  others_in : (x n : ℕ) (f : Formula) → Everywhere (other x) n f → Others x (names_in f)
  others_in x n (constant b) h = tt
  others_in x n (compares r s t) h = join x (names_in_term s) (names_in_term t) (others_in_term x n s h.1) (others_in_term x n t h.2)
  others_in x n (applies p ts) h = others_in_terms x n ts h.1
  others_in x n (negation f) h = others_in x n f h.1
  others_in x n (every fs) h = others_in_all x n fs h.1
  others_in x n (some fs) h = others_in_all x n fs h.1
  others_in x n (implies f g) h = join x (names_in f) (names_in g) (others_in x n f h.1) (others_in x n g h.2)
  others_in x n (iff f g) h = join x (names_in f) (names_in g) (others_in x n f h.1) (others_in x n g h.2)
  others_in x n (for_all s f) h = others_in x (suc n) f h.1
  others_in x n (for_some s f) h = others_in x (suc n) f h.1
  others_in x n (part k f) h = others_in x n f h.1

  others_in_all : (x n : ℕ) (fs : Formulas) → AllEverywhere (other x) n fs → Others x (names_in_all fs)
  others_in_all x n no_formula h = tt
  others_in_all x n (and_formula f fs) h = join x (names_in f) (names_in_all fs) (others_in x n f h.0) (others_in_all x n fs h.1)

  others_in_term : (x n : ℕ) (t : Expression) → TermEverywhere (other x) n t → Others x (names_in_term t)
  others_in_term x n (number v) h = tt
  others_in_term x n (name y) h = (differ x y h, tt)
  others_in_term x n (call f ts) h = others_in_terms x n ts h.1
  others_in_term x n (minus t) h = others_in_term x n t h.1
  others_in_term x n (total ts) h = others_in_terms x n ts h.1
  others_in_term x n (product s t) h = join x (names_in_term s) (names_in_term t) (others_in_term x n s h.1) (others_in_term x n t h.2)
  others_in_term x n (choice f s t) h =
      join x (names_in f) (names_in_term s ++ names_in_term t) (others_in x n f h.1)
      (join x (names_in_term s) (names_in_term t) (others_in_term x n s h.2) (others_in_term x n t h.3))
  others_in_term x n (absolute t) h = others_in_term x n t h.1
  others_in_term x n (lesser s t) h = join x (names_in_term s) (names_in_term t) (others_in_term x n s h.1) (others_in_term x n t h.2)
  others_in_term x n (greater s t) h = join x (names_in_term s) (names_in_term t) (others_in_term x n s h.1) (others_in_term x n t h.2)

  others_in_terms : (x n : ℕ) (ts : Expressions) → TermsEverywhere (other x) n ts → Others x (names_in_terms ts)
  others_in_terms x n no_expression h = tt
  others_in_terms x n (and_expression t ts) h = join x (names_in_term t) (names_in_terms ts) (others_in_term x n t h.0) (others_in_terms x n ts h.1)

mutual
  others_of : (x n : ℕ) (f : Formula) → Others x (names_in f) → Everywhere (other x) n f
  others_of x n (constant b) h = tt
  others_of x n (compares r s t) h = let k = split x (names_in_term s) (names_in_term t) h in (tt, others_of_term x n s k.0, others_of_term x n t k.1)
  others_of x n (applies p ts) h = (tt, others_of_terms x n ts h)
  others_of x n (negation f) h = (tt, others_of x n f h)
  others_of x n (every fs) h = (tt, others_of_all x n fs h)
  others_of x n (some fs) h = (tt, others_of_all x n fs h)
  others_of x n (implies f g) h = let k = split x (names_in f) (names_in g) h in (tt, others_of x n f k.0, others_of x n g k.1)
  others_of x n (iff f g) h = let k = split x (names_in f) (names_in g) h in (tt, others_of x n f k.0, others_of x n g k.1)
  others_of x n (for_all s f) h = (tt, others_of x (suc n) f h)
  others_of x n (for_some s f) h = (tt, others_of x (suc n) f h)
  others_of x n (part k f) h = (tt, others_of x n f h)

  others_of_all : (x n : ℕ) (fs : Formulas) → Others x (names_in_all fs) → AllEverywhere (other x) n fs
  others_of_all x n no_formula h = tt
  others_of_all x n (and_formula f fs) h = let k = split x (names_in f) (names_in_all fs) h in (others_of x n f k.0, others_of_all x n fs k.1)

  others_of_term : (x n : ℕ) (t : Expression) → Others x (names_in_term t) → TermEverywhere (other x) n t
  others_of_term x n (number v) h = tt
  others_of_term x n (name y) h = apart x y h.0
  others_of_term x n (call f ts) h = (tt, others_of_terms x n ts h)
  others_of_term x n (minus t) h = (tt, others_of_term x n t h)
  others_of_term x n (total ts) h = (tt, others_of_terms x n ts h)
  others_of_term x n (product s t) h = let k = split x (names_in_term s) (names_in_term t) h in (tt, others_of_term x n s k.0, others_of_term x n t k.1)
  others_of_term x n (choice f s t) h =
      let k = split x (names_in f) (names_in_term s ++ names_in_term t) h in
      let l = split x (names_in_term s) (names_in_term t) k.1 in
      (tt, others_of x n f k.0, others_of_term x n s l.0, others_of_term x n t l.1)
  others_of_term x n (absolute t) h = (tt, others_of_term x n t h)
  others_of_term x n (lesser s t) h = let k = split x (names_in_term s) (names_in_term t) h in (tt, others_of_term x n s k.0, others_of_term x n t k.1)
  others_of_term x n (greater s t) h = let k = split x (names_in_term s) (names_in_term t) h in (tt, others_of_term x n s k.0, others_of_term x n t k.1)

  others_of_terms : (x n : ℕ) (ts : Expressions) → Others x (names_in_terms ts) → TermsEverywhere (other x) n ts
  others_of_terms x n no_expression h = tt
  others_of_terms x n (and_expression t ts) h = let k = split x (names_in_term t) (names_in_terms ts) h in (others_of_term x n t k.0, others_of_terms x n ts k.1)

pub absent_is : (x : ℕ) (f : Formula) → (occurs x f ≡ false) ↔ LacksName x f
absent_is x f = (λ h. others_of x 0 f (any-none (nat_eq x) (names_in f) h), λ h. none-any (nat_eq x) (names_in f) (others_in x 0 f h))
