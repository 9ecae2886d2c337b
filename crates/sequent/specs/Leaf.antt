-- Leaves of a tree in which no rule is left but gamma at its limit.
use Rattle.std.specs.Prelude.{Bool, true, false, not}
use Rattle.formula.specs.Form.{Form, is_pure, holds, fails, differs, existential}

-- f may stand in a saturated leaf: it is pure, or an application or the negation of one
abbrev pub is_leaf : Form → Bool
is_leaf (holds p ts) = true
is_leaf (fails p ts) = true
is_leaf (differs f ts u) = true
is_leaf f = is_pure f

-- `some` of a formula that is not pure
abbrev pub is_open : Form → Bool
is_open (existential f) = not (is_pure f)
is_open f = false
