-- Formulas without predicates and functions that say what others say.
use Rattle.std.specs.Prelude.{◌≡◌, ℕ, ℤ, true, List, length}
use Rattle.form_typed.specs.Truth.{Meaning}
use Rattle.formula.specs.Form.{Form, FormTruth, is_pure}

-- g has no predicate and no function, and is true exactly where P is
pub record Tells (g : Form) (P : List ℤ → Type 0) : Type 0 where
  pub pure : is_pure g ≡ true
  pub there : (w : Meaning) (e : List ℤ) → FormTruth w g e → P e
  pub back : (w : Meaning) (e : List ℤ) → P e → FormTruth w g e

-- at n integers g is true exactly where f is, and it has no predicate and no function if f has none
pub record Same (n : ℕ) (f g : Form) : Type 0 where
  pub pure : is_pure f ≡ true → is_pure g ≡ true
  pub there : (w : Meaning) (e : List ℤ) → length e ≡ n → FormTruth w g e → FormTruth w f e
  pub back : (w : Meaning) (e : List ℤ) → length e ≡ n → FormTruth w f e → FormTruth w g e
