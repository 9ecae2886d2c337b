-- Formulas without predicates and functions that say in a model what others say there.
use Rattle.std.specs.Prelude.{◌≡◌, ℕ, ℤ, Bool, true, nat_lt, List, length, map}
use Rattle.std.specs.List.{AllByRecursion, list_all}
use Rattle.linear_term.specs.Linear.{Linear, IsOver, name}
use Rattle.form_typed.specs.Truth.{Meaning}
use Rattle.formula.specs.Form.{Form, Forms, FormTruth, equal, unequal, at_least, holds, fails, differs, conjunction, disjunction, universal, existential, no_form, and_form, is_pure, values_of}
use Rattle.model_table.specs.declared.model.Model.{Model}
use Rattle.model_table.specs.Models.{meaning_of, value_at}
use Rattle.model_formulas.specs.declared.choosing.Guard.{Guard}
use Rattle.model_formulas.specs.Choices.{AreChoices}
use Rattle.form_closures.specs.Putting.{put_in}

-- g has no predicate and no function, and is true at n integers exactly where f is in the model, with the terms ts for its names
pub record IsExpansion (m : Model) (f : Form) (ts : List Linear) (n : ℕ) (g : Form) : Type 0 where
  pub pure : is_pure g ≡ true
  pub there : (e : List ℤ) → length e ≡ n → FormTruth (meaning_of m) g e → FormTruth (meaning_of m) f (values_of ts e)
  pub back : (e : List ℤ) → length e ≡ n → FormTruth (meaning_of m) f (values_of ts e) → FormTruth (meaning_of m) g e

-- g is true exactly where f is, and has no predicate and no function if f has none
pub record IsBound (f g : Form) : Type 0 where
  pub pure : is_pure f ≡ true → is_pure g ≡ true
  pub there : (w : Meaning) (e : List ℤ) → FormTruth w g e → FormTruth w f e
  pub back : (w : Meaning) (e : List ℤ) → FormTruth w f e → FormTruth w g e

-- each name of the term, of the terms is below n
abbrev pub is_over : ℕ → Linear → Bool
is_over n t = list_all (λ p. nat_lt p.0 n) t.pairs

abbrev pub are_over : ℕ → List Linear → Bool
are_over n ts = list_all (is_over n) ts

-- The body reads a value: it is "f(us) is not the name n, or the rest is true", where n does not occur in us. So of all values
-- of n it says something at the value of f(us) alone.
abbrev pub ReadsFirst : ℕ → ℕ → List Linear → Form → Type 0
ReadsFirst n f us (differs g ss u) = (g ≡ f) × (ss ≡ us) × (u ≡ name n)
ReadsFirst n f us _ = ⊥

abbrev pub Reads : ℕ → ℕ → List Linear → Form → Type 0
Reads n f us (disjunction (and_form g gs)) = ReadsFirst n f us g
Reads n f us _ = ⊥

-- the guards are the values of a function that the body reads
pub record IsRead (m : Model) (body : Form) (ts : List Linear) (gs : List Guard) : Type 0 where
  pub function : ℕ
  pub arguments : List Linear
  pub reads : Reads (length ts) function arguments body
  pub over : are_over (length ts) arguments ≡ true
  pub chosen : AreChoices gs (λ e. value_at m.functions function (values_of (map (put_in ts) arguments) e))
