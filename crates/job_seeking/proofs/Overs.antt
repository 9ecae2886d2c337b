-- What the test of names says.
use Rattle.std.proofs.Common.{◌≡◌, ◌<◌, ◌≤◌, ◌&&◌, ℕ, suc, Bool, true, false, List, [], ◌∷◌, ◌++◌, All, refl, sym, ap, subst, arith}
use Rattle.std.specs.List.{AllByRecursion}
use Rattle.std.proofs.lemmas.Bool.{and_parts}
use Rattle.std.proofs.lemmas.List.Elements.{All-nil, All-cons}
use Rattle.linear_term.specs.Linear.{Linear, IsOver}
use Rattle.clause_proof.specs.Lines.{is_over, are_over}
use Rattle.clause_proof.proofs.Over.{over_is}
use Rattle.formula.specs.Form.{Form, Forms, IsFormOver, AreFormsOver, equal, unequal, at_least, holds, fails, differs, conjunction, disjunction, universal, existential, no_form, and_form}
use Rattle.job_seeking.specs.Over.{are_forms_over, is_form_over}

terms_over : (n : ℕ) (ts : List Linear) → are_over n ts ≡ true → All (IsOver n) ts
terms_over n [] h = All-nil (IsOver n)
terms_over n (t ∷ ts) h = let two = and_parts (is_over n t) (are_over n ts) h in All-cons (IsOver n) t ts (over_is n t two.0) (terms_over n ts two.1)

mutual
  pub form_over_is : (n : ℕ) (f : Form) → is_form_over n f ≡ true → IsFormOver n f
  form_over_is n (equal t) h = over_is n t h
  form_over_is n (unequal t) h = over_is n t h
  form_over_is n (at_least t) h = over_is n t h
  form_over_is n (holds p ts) h = terms_over n ts h
  form_over_is n (fails p ts) h = terms_over n ts h
  form_over_is n (differs f ts u) h = let two = and_parts (are_over n ts) (is_over n u) h in (terms_over n ts two.0, over_is n u two.1)
  form_over_is n (conjunction fs) h = forms_over_are n fs h
  form_over_is n (disjunction fs) h = forms_over_are n fs h
  form_over_is n (universal f) h = form_over_is (suc n) f h
  form_over_is n (existential f) h = form_over_is (suc n) f h

  forms_over_are : (n : ℕ) (fs : Forms) → are_forms_over n fs ≡ true → AreFormsOver n fs
  forms_over_are n no_form h = tt
  forms_over_are n (and_form f fs) h = let two = and_parts (is_form_over n f) (are_forms_over n fs) h in (form_over_is n f two.0, forms_over_are n fs two.1)
