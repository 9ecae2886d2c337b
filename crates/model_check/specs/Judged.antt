-- What a judgement says.
use Rattle.std.specs.Prelude.{◌≡◌, ℤ, Bool, true, false, List, []}
use Rattle.form_typed.specs.Truth.{Meaning}
use Rattle.formula.specs.Form.{Form, FormTruth}

-- b tells whether f is true at no integers
pub record Judges (b : Bool) (f : Form) : Type 0 where
  pub good : b ≡ true → (w : Meaning) → FormTruth w f []
  pub bad : b ≡ false → (w : Meaning) → ¬ (FormTruth w f [])

-- b tells whether f is false in the interpretation at the integers e
pub record SaysFalse (b : Bool) (w : Meaning) (f : Form) (e : List ℤ) : Type 0 where
  pub refutes : b ≡ true → ¬ (FormTruth w f e)
  pub holds : b ≡ false → FormTruth w f e
