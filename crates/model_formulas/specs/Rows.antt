-- A row of a predicate before the others.
use Rattle.std.specs.Prelude.{◌≡◌, ℤ, Bool, true, false, List}
use Rattle.form_typed.specs.Truth.{Meaning}
use Rattle.formula.specs.Form.{Form, FormTruth, is_pure}

-- with true: P or, where not, Q (the stable form); with false: not P, and Q
abbrev pub FirstTruth : Bool → Type 0 → Type 0 → Type 0
FirstTruth true P Q = ¬ P → Q
FirstTruth false P Q = (¬ P) × Q

-- h is the truth of the row where `when` is true, and else g
pub record IsFirst (when : Form) (row : Bool) (g h : Form) : Type 0 where
  pub pure : is_pure when ≡ true → is_pure g ≡ true → is_pure h ≡ true
  pub there : (w : Meaning) (e : List ℤ) → is_pure when ≡ true → FormTruth w h e → FirstTruth row (FormTruth w when e) (FormTruth w g e)
  pub back : (w : Meaning) (e : List ℤ) → is_pure when ≡ true → FirstTruth row (FormTruth w when e) (FormTruth w g e) → FormTruth w h e
