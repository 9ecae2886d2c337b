-- The formulas of the calculus: negation normal form over linear terms, predicates and the graphs of functions.
use Rattle.std.specs.Prelude.{◌≡◌, ℕ, suc, ℤ, pos, ◌≤ℤ◌, Bool, true, false, ◌&&◌, List, [], ◌∷◌, ◌++◌, map, All}
use Rattle.linear_term.specs.Linear.{Linear, value_of, IsOver}
use Rattle.form_typed.specs.Truth.{Meaning}

mutual
  -- a formula of the calculus, names by number; a quantifier binds the name after those of the formula around it
  pub data Form : Type 0 where
    equal : Linear → Form
    unequal : Linear → Form
    at_least : Linear → Form
    holds : ℕ → List Linear → Form
    fails : ℕ → List Linear → Form
    differs : ℕ → List Linear → Linear → Form
    conjunction : Forms → Form
    disjunction : Forms → Form
    universal : Form → Form
    existential : Form → Form

  -- a list of them
  pub data Forms : Type 0 where
    no_form : Forms
    and_form : Form → Forms → Forms

-- the formulas of a list, in order
abbrev pub forms : List Form → Forms
forms [] = no_form
forms (f ∷ fs) = and_form f (forms fs)

-- the values of the terms
abbrev pub values_of : List Linear → List ℤ → List ℤ
values_of ts e = map (λ t. value_of t e) ts

abbrev mutual
  -- the formula is true in the interpretation at the integers of its names (the stable form)
  pub FormTruth : Meaning → Form → List ℤ → Type 0
  FormTruth w (equal t) e = value_of t e ≡ pos 0
  FormTruth w (unequal t) e = ¬ (value_of t e ≡ pos 0)
  FormTruth w (at_least t) e = pos 0 ≤ℤ value_of t e
  FormTruth w (holds p ts) e = w.truth p (values_of ts e) ≡ true
  FormTruth w (fails p ts) e = ¬ (w.truth p (values_of ts e) ≡ true)
  FormTruth w (differs f ts u) e = ¬ (w.value f (values_of ts e) ≡ value_of u e)
  FormTruth w (conjunction fs) e = AreFormsTrue w fs e
  FormTruth w (disjunction fs) e = ¬ (AreFormsFalse w fs e)
  FormTruth w (universal f) e = (v : ℤ) → FormTruth w f (e ++ v ∷ [])
  FormTruth w (existential f) e = ¬ ((v : ℤ) → ¬ (FormTruth w f (e ++ v ∷ [])))

  -- every formula of the list is true
  pub AreFormsTrue : Meaning → Forms → List ℤ → Type 0
  AreFormsTrue w no_form e = Unit {0}
  AreFormsTrue w (and_form f fs) e = FormTruth w f e × AreFormsTrue w fs e

  -- every formula of the list is false
  pub AreFormsFalse : Meaning → Forms → List ℤ → Type 0
  AreFormsFalse w no_form e = Unit {0}
  AreFormsFalse w (and_form f fs) e = (¬ (FormTruth w f e)) × AreFormsFalse w fs e

abbrev mutual
  -- the formula speaks of names below n alone, and of its bound ones
  pub IsFormOver : ℕ → Form → Type 0
  IsFormOver n (equal t) = IsOver n t
  IsFormOver n (unequal t) = IsOver n t
  IsFormOver n (at_least t) = IsOver n t
  IsFormOver n (holds p ts) = All (IsOver n) ts
  IsFormOver n (fails p ts) = All (IsOver n) ts
  IsFormOver n (differs f ts u) = All (IsOver n) ts × IsOver n u
  IsFormOver n (conjunction fs) = AreFormsOver n fs
  IsFormOver n (disjunction fs) = AreFormsOver n fs
  IsFormOver n (universal f) = IsFormOver (suc n) f
  IsFormOver n (existential f) = IsFormOver (suc n) f

  pub AreFormsOver : ℕ → Forms → Type 0
  AreFormsOver n no_form = Unit {0}
  AreFormsOver n (and_form f fs) = IsFormOver n f × AreFormsOver n fs

abbrev mutual
  -- without predicates and functions
  pub is_pure : Form → Bool
  is_pure (equal t) = true
  is_pure (unequal t) = true
  is_pure (at_least t) = true
  is_pure (holds p ts) = false
  is_pure (fails p ts) = false
  is_pure (differs f ts u) = false
  is_pure (conjunction fs) = are_pure fs
  is_pure (disjunction fs) = are_pure fs
  is_pure (universal f) = is_pure f
  is_pure (existential f) = is_pure f

  pub are_pure : Forms → Bool
  are_pure no_form = true
  are_pure (and_form f fs) = is_pure f && are_pure fs
