-- The root of a proof: the formula that its lines show.
use Rattle.std.specs.Prelude.{ℕ, ◌+◌, ◌*◌, false, cond, nat_eq}
use Rattle.formula.specs.Form.{Form}
use Rattle.formula.specs.Sizes.{depth, size}
use Rattle.form_miniscope.specs.Miniscope.{scoped_below}
use Rattle.clause_root_laws.specs.Prepared.{prepared}

-- the formula f over n names: as it is where the number of steps is 0, else miniscoped below its first for-alls and prepared with these steps
abbrev pub prepared_root : ℕ → Form → ℕ → Form
prepared_root n f steps = cond (nat_eq steps 0) f (prepared false n (scoped_below n f) steps).0

-- what a preparation of f costs: its steps, and a walk over f for each level of f
abbrev pub preparation_cost : Form → ℕ → ℕ
preparation_cost f steps = size f * depth f + steps

-- what a check charges for it: nothing where the root stays as it is
abbrev pub preparation_price : Form → ℕ → ℕ
preparation_price f steps = cond (nat_eq steps 0) 0 (preparation_cost f steps)
