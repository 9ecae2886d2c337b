-- What formulas of the code are by their types.
use Rattle.std.specs.Prelude.{◌≡◌, true}
use Rattle.formula.specs.Form.{Form, is_pure}
use Rattle.elim_laws.specs.Presburger.{IsPresburger}

-- a formula that is pure is one of Presburger arithmetic
pub record IsKnown (f : Form) : Type 0 where
  pub known : is_pure f ≡ true → IsPresburger f
