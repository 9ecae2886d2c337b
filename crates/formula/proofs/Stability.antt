-- Truth of the formulas of the calculus is stable.
use Rattle.std.proofs.Common.{ℤ, pos, ◌≤ℤ◌, List, [], ◌∷◌, ◌++◌, arith}
use Rattle.std.proofs.lemmas.Int.{ints}
use Rattle.linear_term.specs.Linear.{value_of}
use Rattle.form_typed.specs.Truth.{Meaning}
use Rattle.form_typed.proofs.Stability.{test_stable, equal_stable}
use Rattle.formula.specs.Form.{Form, Forms, equal, unequal, at_least, holds, fails, differs, conjunction, disjunction, universal, existential, no_form, and_form, FormTruth, AreFormsTrue, values_of}

at_most_stable : (x y : ℤ) → ¬ (¬ (x ≤ℤ y)) → x ≤ℤ y
at_most_stable x y h = grind (arith, ints)

mutual
  pub form_stable : (w : Meaning) (f : Form) (e : List ℤ) → ¬ (¬ (FormTruth w f e)) → FormTruth w f e
  form_stable w (equal t) e h = equal_stable (value_of t e) (pos 0) h
  form_stable w (unequal t) e h = λ a. h (λ n. n a)
  form_stable w (at_least t) e h = at_most_stable (pos 0) (value_of t e) h
  form_stable w (holds p ts) e h = test_stable (w.truth p (values_of ts e)) h
  form_stable w (fails p ts) e h = λ a. h (λ n. n a)
  form_stable w (differs f ts u) e h = λ a. h (λ n. n a)
  form_stable w (conjunction fs) e h = forms_stable w fs e h
  form_stable w (disjunction fs) e h = λ a. h (λ n. n a)
  form_stable w (universal f) e h = λ v. form_stable w f (e ++ v ∷ []) (λ n. h (λ k. n (k v)))
  form_stable w (existential f) e h = λ a. h (λ n. n a)

  pub forms_stable : (w : Meaning) (fs : Forms) (e : List ℤ) → ¬ (¬ (AreFormsTrue w fs e)) → AreFormsTrue w fs e
  forms_stable w no_form e h = tt
  forms_stable w (and_form f fs) e h = (form_stable w f e (λ n. h (λ k. n (k.0))), forms_stable w fs e (λ n. h (λ k. n (k.1))))
