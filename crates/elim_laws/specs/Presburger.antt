-- Formulas of Presburger arithmetic, and their truth, which needs no interpretation.
use Rattle.std.specs.Prelude.{ℤ, pos, false, List}
use Rattle.linear_term.specs.Linear.{IsReduced}
use Rattle.form_typed.specs.Truth.{Meaning}
use Rattle.formula.specs.Form.{Form, Forms, equal, unequal, at_least, holds, fails, differs, conjunction, disjunction, universal, existential, no_form, and_form, FormTruth, AreFormsTrue, AreFormsFalse}

abbrev mutual
  -- without predicates and functions, each term reduced: names rise and no coefficient is 0
  pub IsPresburger : Form → Type 0
  IsPresburger (equal t) = IsReduced t
  IsPresburger (unequal t) = IsReduced t
  IsPresburger (at_least t) = IsReduced t
  IsPresburger (holds p ts) = ⊥
  IsPresburger (fails p ts) = ⊥
  IsPresburger (differs f ts u) = ⊥
  IsPresburger (conjunction fs) = ArePresburger fs
  IsPresburger (disjunction fs) = ArePresburger fs
  IsPresburger (universal f) = IsPresburger f
  IsPresburger (existential f) = IsPresburger f

  pub ArePresburger : Forms → Type 0
  ArePresburger no_form = Unit {0}
  ArePresburger (and_form f fs) = IsPresburger f × ArePresburger fs

-- an interpretation, which formulas without predicates and functions do not ask
abbrev pub plain : Meaning
plain = record { truth = λ p xs. false; value = λ f xs. pos 0 }

-- the truth of such a formula at a list of integers
abbrev pub IsPresburgerTrue : Form → List ℤ → Type 0
IsPresburgerTrue f e = FormTruth plain f e

abbrev pub AreTrueForms : Forms → List ℤ → Type 0
AreTrueForms fs e = AreFormsTrue plain fs e

abbrev pub AreFalseForms : Forms → List ℤ → Type 0
AreFalseForms fs e = AreFormsFalse plain fs e
