-- A formula without the place of a name that it lacks is true where the formula is, whatever the name stands for.
use Rattle.std.proofs.Common.{ℕ, ◌≡◌, ◌+◌, ◌-◌, ◌<◌, ◌↔◌, ◌||◌, Bool, true, false, nat_eq, nat_lt, List, [], ◌∷◌, ◌++◌, length, append-nil, map, refl, sym, ap, subst, ◌∙◌, arith, ℤ}
use Rattle.std.specs.List.{list_any}
use Rattle.std.proofs.lemmas.Bool.Decides.{nat_tests}
use Rattle.linear_term.specs.Linear.{Linear}
use Rattle.linear_term.proofs.Totals.{by_test}
use Rattle.form_typed.specs.Truth.{Meaning}
use Rattle.formula.specs.Form.{Form, Forms, equal, unequal, at_least, holds, fails, differs, conjunction, disjunction, universal, existential, no_form, and_form, FormTruth}
use Rattle.formula.specs.Shifts.{raised_name, raised, shifted, all_shifted}
use Rattle.formula.proofs.Shifts.{shifted_is}
use Rattle.form_miniscope.specs.Lowering.{has, some_has, occurs, occurs_in, lowered_name, lowered, freed, all_freed}

pub neither : (a b : Bool) → (a || b) ≡ false → (a ≡ false) × (b ≡ false)
neither true b h = absurd (cc)
neither false b h = (refl, h)

-- a name other than n, lowered and raised again
name_back : (n x : ℕ) → nat_eq x n ≡ false → raised_name n 1 (lowered_name n x) ≡ x
name_back n x other =
    by_test (λ y. raised_name n 1 y ≡ x) (nat_lt n x) (x - 1) x
    (λ s. let lt : n < x = grind (arith, nat_tests) in by_test (λ z. z ≡ x) (nat_lt (x - 1) n) (x - 1) ((x - 1) + 1) (λ t. absurd (below lt t)) (λ t. omega (arith, lt)))
    (λ s. by_test (λ z. z ≡ x) (nat_lt x n) x (x + 1) (λ t. refl) (λ t. absurd (apart s t other)))
  where
    below : n < x → nat_lt (x - 1) n ≡ true → ⊥
    below lt t = grind (arith, nat_tests)

    apart : nat_lt n x ≡ false → nat_lt x n ≡ false → nat_eq x n ≡ false → ⊥
    apart s t o = grind (arith, nat_tests)

pairs_back : (n : ℕ) (ps : List (ℕ × ℤ)) → list_any (λ (p : ℕ × ℤ). nat_eq p.0 n) ps ≡ false
    → map (λ (p : ℕ × ℤ). (raised_name n 1 p.0, p.1)) (map (λ (p : ℕ × ℤ). (lowered_name n p.0, p.1)) ps) ≡ ps
pairs_back n [] h = refl
pairs_back n (p ∷ ps) h =
    let two = neither (nat_eq p.0 n) (list_any (λ (q : ℕ × ℤ). nat_eq q.0 n) ps) h in
    λ i. (name_back n p.0 two.0 i, p.1) ∷ pairs_back n ps two.1 i

term_back : (n : ℕ) (t : Linear) → has n t ≡ false → raised n 1 (lowered n t) ≡ t
unfolding raised
term_back n t h = λ i. record { pairs = pairs_back n t.pairs h i; constant = t.constant }

terms_back : (n : ℕ) (ts : List Linear) → some_has n ts ≡ false → map (raised n 1) (map (lowered n) ts) ≡ ts
terms_back n [] h = refl
terms_back n (t ∷ ts) h = let two = neither (has n t) (some_has n ts) h in λ i. term_back n t two.0 i ∷ terms_back n ts two.1 i

mutual
  -- raised again, it is the formula
  freed_back : (n : ℕ) (f : Form) → occurs n f ≡ false → shifted n 1 (freed n f) ≡ f
  freed_back n (equal t) h = ap equal (term_back n t h)
  freed_back n (unequal t) h = ap unequal (term_back n t h)
  freed_back n (at_least t) h = ap at_least (term_back n t h)
  freed_back n (holds p ts) h = ap (holds p) (terms_back n ts h)
  freed_back n (fails p ts) h = ap (fails p) (terms_back n ts h)
  freed_back n (differs f ts u) h = let two = neither (has n u) (some_has n ts) h in λ i. differs f (terms_back n ts two.1 i) (term_back n u two.0 i)
  freed_back n (conjunction fs) h = ap conjunction (all_freed_back n fs h)
  freed_back n (disjunction fs) h = ap disjunction (all_freed_back n fs h)
  freed_back n (universal f) h = ap universal (freed_back n f h)
  freed_back n (existential f) h = ap existential (freed_back n f h)

  all_freed_back : (n : ℕ) (fs : Forms) → occurs_in n fs ≡ false → all_shifted n 1 (all_freed n fs) ≡ fs
  all_freed_back n no_form h = refl
  all_freed_back n (and_form f fs) h = let two = neither (occurs n f) (occurs_in n fs) h in λ i. and_form (freed_back n f two.0 i) (all_freed_back n fs two.1 i)

-- whatever the name n stands for, the formula is true where the freed one is
pub freed_is : (w : Meaning) (n : ℕ) (f : Form) (e : List ℤ) (v : ℤ) → length e ≡ n → occurs n f ≡ false → FormTruth w (freed n f) e ↔ FormTruth w f (e ++ v ∷ [])
freed_is w n f e v len h =
    let back : FormTruth w f (e ++ v ∷ []) ≡ FormTruth w (freed n f) e =
    ap (λ g. FormTruth w g (e ++ v ∷ [])) (sym (freed_back n f h)) ∙ (λ i. FormTruth w (shifted (sym len i) 1 (freed n f)) (e ++ v ∷ [])) ∙ shifted_is w e (v ∷ []) [] (freed n f) ∙ ap (FormTruth w (freed n f)) (append-nil e) in
    (subst (λ X. X) (sym back), subst (λ X. X) back)
