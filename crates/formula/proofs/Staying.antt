-- What stays as it is where names are raised.
use Rattle.std.proofs.Common.{◌≡◌, ℕ, ◌+◌, ◌-◌, ℤ, nat_lt, true, List, [], ◌∷◌, map, refl, sym, ap, ◌∙◌, arith}
use Rattle.std.specs.List.{list_all}
use Rattle.std.specs.Prelude.{cond}
use Rattle.std.specs.Cmp.{first_so, second_so}
use Rattle.linear_term.specs.Linear.{Linear}
use Rattle.linear_term.proofs.Totals.{by_test}
use Rattle.formula.specs.Form.{Form, Forms, equal, unequal, at_least, holds, fails, differs, conjunction, disjunction, universal, existential, no_form, and_form}
use Rattle.formula.specs.Shifts.{raised_name, raised, shifted, all_shifted}

pairs_stay : (n k : ℕ) (ps : List (ℕ × ℤ)) → list_all (λ (p : ℕ × ℤ). nat_lt p.0 n) ps ≡ true → map (λ (p : ℕ × ℤ). (raised_name n k p.0, p.1)) ps ≡ ps
pairs_stay n k [] h = refl
pairs_stay n k (p ∷ ps) h =
    let low : raised_name n k p.0 ≡ p.0 = ap (λ b. cond b p.0 (p.0 + k)) (first_so (nat_lt p.0 n) (list_all (λ (q : ℕ × ℤ). nat_lt q.0 n) ps) h) in
    λ i. (low i, p.1) ∷ pairs_stay n k ps (second_so (nat_lt p.0 n) (list_all (λ (q : ℕ × ℤ). nat_lt q.0 n) ps) h) i

-- a term whose names are below those that are raised
pub raised-below : (n k : ℕ) (t : Linear) → list_all (λ (p : ℕ × ℤ). nat_lt p.0 n) t.pairs ≡ true → raised n k t ≡ t
unfolding raised
raised-below n k t h = λ i. record { pairs = pairs_stay n k t.pairs h i; constant = t.constant }

raised_name-none : (n x : ℕ) → raised_name n 0 x ≡ x
raised_name-none n x = by_test (λ y. y ≡ x) (nat_lt x n) x (x + 0) (λ t. refl) (λ t. omega arith)

pairs-none : (n : ℕ) (ps : List (ℕ × ℤ)) → map (λ (p : ℕ × ℤ). (raised_name n 0 p.0, p.1)) ps ≡ ps
pairs-none n [] = refl
pairs-none n (p ∷ ps) = λ i. (raised_name-none n p.0 i, p.1) ∷ pairs-none n ps i

raised-none : (n : ℕ) (t : Linear) → raised n 0 t ≡ t
unfolding raised
raised-none n t = λ i. record { pairs = pairs-none n t.pairs i; constant = t.constant }

terms-none : (n : ℕ) (ts : List Linear) → map (raised n 0) ts ≡ ts
terms-none n [] = refl
terms-none n (t ∷ ts) = λ i. raised-none n t i ∷ terms-none n ts i

mutual
  -- a formula whose names are raised by nothing
  pub shifted-none : (n : ℕ) (f : Form) → shifted n 0 f ≡ f
  shifted-none n (equal t) = λ i. equal (raised-none n t i)
  shifted-none n (unequal t) = λ i. unequal (raised-none n t i)
  shifted-none n (at_least t) = λ i. at_least (raised-none n t i)
  shifted-none n (holds p ts) = λ i. holds p (terms-none n ts i)
  shifted-none n (fails p ts) = λ i. fails p (terms-none n ts i)
  shifted-none n (differs f ts u) = λ i. differs f (terms-none n ts i) (raised-none n u i)
  shifted-none n (conjunction fs) = λ i. conjunction (all-none n fs i)
  shifted-none n (disjunction fs) = λ i. disjunction (all-none n fs i)
  shifted-none n (universal f) = λ i. universal (shifted-none n f i)
  shifted-none n (existential f) = λ i. existential (shifted-none n f i)

  all-none : (n : ℕ) (fs : Forms) → all_shifted n 0 fs ≡ fs
  all-none n no_form = refl
  all-none n (and_form f fs) = λ i. and_form (shifted-none n f i) (all-none n fs i)

-- a formula brought from a scope to the same one
pub shifted-same : (n m : ℕ) (f : Form) → n ≡ m → f ≡ shifted n (m - n) f
shifted-same n m f e =
    let nothing : m - n ≡ 0 = omega arith in
    sym (ap (λ k. shifted n k f) nothing ∙ shifted-none n f)

pub ruleset staying = (raised-below, shifted-same)
