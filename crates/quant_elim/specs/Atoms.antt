-- Atoms of Presburger arithmetic.
use Rattle.std.specs.Prelude.{Bool, true, false}
use Rattle.formula.specs.Form.{Form, equal, unequal, at_least, holds, fails, differs, conjunction, disjunction, universal, existential}

-- an equation, its negation or a bound
abbrev pub is_atom : Form → Bool
is_atom (equal t) = true
is_atom (unequal t) = true
is_atom (at_least t) = true
is_atom (holds p ts) = false
is_atom (fails p ts) = false
is_atom (differs f ts u) = false
is_atom (conjunction fs) = false
is_atom (disjunction fs) = false
is_atom (universal f) = false
is_atom (existential f) = false
