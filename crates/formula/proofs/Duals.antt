-- The dual is the negation, and speaks of the same names.
use Rattle.std.proofs.Common.{◌≡◌, ◌↔◌, ℕ, suc, ℤ, pos, negsuc, ◌+ℤ◌, ◌*ℤ◌, ◌≤ℤ◌, Bool, true, List, [], ◌∷◌, ◌++◌, arith}
use Rattle.std.proofs.lemmas.Int.{ints}
use Rattle.std.proofs.lemmas.Bool.{and_parts}
use Rattle.linear_term.specs.Linear.{Linear, value_of, number}
use Rattle.linear_term.specs.Combination.{combination}
use Rattle.linear_term.proofs.Totals.{value_of-combination, value_of-number}
use Rattle.linear_term.proofs.Names.{combination-over}
use Rattle.form_typed.specs.Truth.{Meaning}
use Rattle.base_budget.specs.Trace.{just, step, next}
use Rattle.formula.specs.Form.{Form, Forms, equal, unequal, at_least, holds, fails, differs, conjunction, disjunction, universal, existential, no_form, and_form, FormTruth, AreFormsTrue, AreFormsFalse, is_pure, are_pure, IsFormOver, AreFormsOver}
use Rattle.formula.specs.Duals.{dual, duals}
use Rattle.formula.proofs.Extending.{over_number}
use Rattle.formula.proofs.Stability.{form_stable}

below_zero : (t : Linear) (e : List ℤ) → value_of (combination (negsuc 0) t (pos 1) (number (negsuc 0))) e ≡ (negsuc 0 *ℤ value_of t e) +ℤ negsuc 0
below_zero t e = omega (arith, ints, value_of-combination (negsuc 0) (pos 1) t (number (negsuc 0)) e, value_of-number (negsuc 0) e)

not_at_least : (x y : ℤ) → y ≡ (negsuc 0 *ℤ x) +ℤ negsuc 0 → (pos 0 ≤ℤ y) ↔ (¬ (pos 0 ≤ℤ x))
not_at_least x y h = (λ p q. omega (arith, ints), λ n. grind (arith, ints))

equal_stable : (x y : ℤ) → ¬ (¬ (x ≡ y)) → x ≡ y
equal_stable x y h = grind (arith, ints)

test_stable : (b : Bool) → ¬ (¬ (b ≡ true)) → b ≡ true
test_stable b h = grind arith

mutual
  unfolding next just step

  -- the dual of a formula without applications is true exactly where the formula is not
  pub dual_is : (w : Meaning) (f : Form) (e : List ℤ) → is_pure f ≡ true → FormTruth w (dual f).value e ↔ ¬ (FormTruth w f e)
  dual_is w (equal t) e p = (λ h. h, λ h. h)
  dual_is w (unequal t) e p = (λ h n. n h, λ n. equal_stable (value_of t e) (pos 0) n)
  dual_is w (at_least t) e p = not_at_least (value_of t e) _ (below_zero t e)
  dual_is w (holds q ts) e p = absurd (cc)
  dual_is w (fails q ts) e p = absurd (cc)
  dual_is w (differs f ts u) e p = absurd (cc)
  dual_is w (conjunction fs) e p = (λ h k. h ((duals_are w fs e p).1.1 k), λ h k. h ((duals_are w fs e p).1.0 k))
  dual_is w (disjunction fs) e p = (λ h n. n ((duals_are w fs e p).0.0 h), λ n. (duals_are w fs e p).0.1 (none_stable w fs e n))
  dual_is w (universal f) e p = (λ h k. h (λ v n. (dual_is w f (e ++ v ∷ []) p).0 n (k v)), λ h k. h (λ v. form_stable w f (e ++ v ∷ []) (λ n. k v ((dual_is w f (e ++ v ∷ []) p).1 n))))
  dual_is w (existential f) e p = (λ h n. n (λ v. (dual_is w f (e ++ v ∷ []) p).0 (h v)), λ n v. (dual_is w f (e ++ v ∷ []) p).1 (λ t. n (λ k. k v t)))

  duals_are : (w : Meaning) (fs : Forms) (e : List ℤ) → are_pure fs ≡ true
      → (AreFormsTrue w (duals fs).value e ↔ AreFormsFalse w fs e) × (AreFormsFalse w (duals fs).value e ↔ AreFormsTrue w fs e)
  duals_are w no_form e p = ((λ h. h, λ h. h), (λ h. h, λ h. h))
  duals_are w (and_form f fs) e p =
      let q = and_parts (is_pure f) (are_pure fs) p in
      let d = dual_is w f e q.0 in
      let ds = duals_are w fs e q.1 in (
        (λ h. (d.0 (h.0), ds.0.0 (h.1)), λ h. (d.1 (h.0), ds.0.1 (h.1))),
        (λ h. (form_stable w f e (λ n. h.0 (d.1 n)), ds.1.0 (h.1)), λ h. (λ k. d.0 k (h.0), ds.1.1 (h.1))),
      )

  none_stable : (w : Meaning) (fs : Forms) (e : List ℤ) → ¬ (¬ (AreFormsFalse w fs e)) → AreFormsFalse w fs e
  none_stable w no_form e h = tt
  none_stable w (and_form f fs) e h = (λ a. h (λ k. k.0 a), none_stable w fs e (λ n. h (λ k. n (k.1))))

mutual
  unfolding next just step

  -- the dual speaks of the same names
  pub dual_over : (n : ℕ) (f : Form) → IsFormOver n f → IsFormOver n (dual f).value
  dual_over n (equal t) h = h
  dual_over n (unequal t) h = h
  dual_over n (at_least t) h = combination-over n (negsuc 0) (pos 1) t (number (negsuc 0)) h (over_number n (negsuc 0))
  dual_over n (holds q ts) h = h
  dual_over n (fails q ts) h = h
  dual_over n (differs f ts u) h = h
  dual_over n (conjunction fs) h = duals_over n fs h
  dual_over n (disjunction fs) h = duals_over n fs h
  dual_over n (universal f) h = dual_over (suc n) f h
  dual_over n (existential f) h = dual_over (suc n) f h

  duals_over : (n : ℕ) (fs : Forms) → AreFormsOver n fs → AreFormsOver n (duals fs).value
  duals_over n no_form h = tt
  duals_over n (and_form f fs) h = (dual_over n f (h.0), duals_over n fs (h.1))
