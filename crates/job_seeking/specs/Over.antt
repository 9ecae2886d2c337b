-- A test of the names that a formula speaks of.
use Rattle.std.specs.Prelude.{ℕ, suc, Bool, true, ◌&&◌}
use Rattle.clause_proof.specs.Lines.{is_over, are_over}
use Rattle.formula.specs.Form.{Form, Forms, equal, unequal, at_least, holds, fails, differs, conjunction, disjunction, universal, existential, no_form, and_form}

abbrev mutual
  -- the formula speaks of names below n alone, and of its bound ones
  pub is_form_over : ℕ → Form → Bool
  is_form_over n (equal t) = is_over n t
  is_form_over n (unequal t) = is_over n t
  is_form_over n (at_least t) = is_over n t
  is_form_over n (holds p ts) = are_over n ts
  is_form_over n (fails p ts) = are_over n ts
  is_form_over n (differs f ts u) = are_over n ts && is_over n u
  is_form_over n (conjunction fs) = are_forms_over n fs
  is_form_over n (disjunction fs) = are_forms_over n fs
  is_form_over n (universal f) = is_form_over (suc n) f
  is_form_over n (existential f) = is_form_over (suc n) f

  pub are_forms_over : ℕ → Forms → Bool
  are_forms_over n no_form = true
  are_forms_over n (and_form f fs) = is_form_over n f && are_forms_over n fs
