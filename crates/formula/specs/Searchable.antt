-- The formulas that may be searched for a proof, and whose proofs may be checked.
use Rattle.std.specs.Prelude.{ℕ, ◌≤◌}
use Rattle.base_limits.specs.Limits.{most_constants, most_levels, most_nodes}
use Rattle.formula.specs.Form.{Form, IsFormOver}
use Rattle.formula.specs.Sizes.{depth, size}

-- f is a formula over n constants, and all three are within the limits
pub record IsSearchable (f : Form) (n : ℕ) : Type 0 where
  pub over : IsFormOver n f
  pub size : size f ≤ most_nodes
  pub depth : depth f ≤ most_levels
  pub constants : n ≤ most_constants
