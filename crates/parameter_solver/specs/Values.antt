-- Literals whose term is a number.
use Rattle.std.specs.Prelude.{ℤ, pos, Bool, not, unsigned_abs, int_le}
use Rattle.std.specs.Ordering.{int_eq}
use Rattle.base_integers.specs.Divides.{divides}
use Rattle.clause_set.specs.declared.literal.Literal.{Literal}
use Rattle.clause_set.specs.declared.literal.Literal.TheVariants.{Eq, Geq, Div, NDiv}

-- whether the literal is true where the value of its term is k
abbrev pub is_true_of : Literal → ℤ → Bool
is_true_of (Eq t) k = int_eq k (pos 0)
is_true_of (Geq t) k = int_le (pos 0) k
is_true_of (Div d t) k = divides (unsigned_abs d) k
is_true_of (NDiv d t) k = not (divides (unsigned_abs d) k)
