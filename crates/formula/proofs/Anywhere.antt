-- Without predicates and functions the interpretation does not matter.
use Rattle.std.proofs.Common.{◌≡◌, ℤ, true, List, [], ◌∷◌, ◌++◌}
use Rattle.std.proofs.lemmas.Bool.{and_parts}
use Rattle.form_typed.specs.Truth.{Meaning}
use Rattle.formula.specs.Form.{Form, Forms, equal, unequal, at_least, holds, fails, differs, conjunction, disjunction, universal, existential, no_form, and_form, FormTruth, AreFormsTrue, AreFormsFalse, is_pure, are_pure}

mutual
  pub truth_anywhere : (v w : Meaning) (f : Form) (e : List ℤ) → is_pure f ≡ true → FormTruth v f e → FormTruth w f e
  truth_anywhere v w (equal t) e p h = h
  truth_anywhere v w (unequal t) e p h = h
  truth_anywhere v w (at_least t) e p h = h
  truth_anywhere v w (holds q ts) e p h = absurd (cc)
  truth_anywhere v w (fails q ts) e p h = absurd (cc)
  truth_anywhere v w (differs q ts u) e p h = absurd (cc)
  truth_anywhere v w (conjunction fs) e p h = all_anywhere v w fs e p h
  truth_anywhere v w (disjunction fs) e p h = λ k. h (none_anywhere w v fs e p k)
  truth_anywhere v w (universal f) e p h = λ z. truth_anywhere v w f (e ++ z ∷ []) p (h z)
  truth_anywhere v w (existential f) e p h = λ k. h (λ z n. k z (truth_anywhere v w f (e ++ z ∷ []) p n))

  all_anywhere : (v w : Meaning) (fs : Forms) (e : List ℤ) → are_pure fs ≡ true → AreFormsTrue v fs e → AreFormsTrue w fs e
  all_anywhere v w no_form e p h = h
  all_anywhere v w (and_form f fs) e p h =
      let q = and_parts (is_pure f) (are_pure fs) p in (truth_anywhere v w f e q.0 h.0, all_anywhere v w fs e q.1 h.1)

  none_anywhere : (v w : Meaning) (fs : Forms) (e : List ℤ) → are_pure fs ≡ true → AreFormsFalse v fs e → AreFormsFalse w fs e
  none_anywhere v w no_form e p h = h
  none_anywhere v w (and_form f fs) e p h =
      let q = and_parts (is_pure f) (are_pure fs) p in (λ t. h.0 (truth_anywhere w v f e q.0 t), none_anywhere v w fs e q.1 h.1)
