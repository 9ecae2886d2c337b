-- Tests of terms, and the members of a sum.
use Rattle.std.specs.Prelude.{Bool, true, false, pos, negsuc, cond}
use Rattle.linear_term.specs.Linear.{Linear}
use Rattle.form_typed.specs.Formula.{Expression, minus}
use Rattle.base_budget.specs.Trace.{Traced, combining}

-- a member of a sum with a minus before it is subtracted
abbrev pub is_subtracted : Expression → Bool
is_subtracted (minus t) = true
is_subtracted _ = false

abbrev pub without_minus : Expression → Expression
without_minus (minus t) = t
without_minus t = t

-- the sum so far with a member, which is subtracted or added
abbrev pub added : Bool → Linear → Linear → Traced Linear
added subtracted so_far a = cond subtracted (combining (pos 1) so_far (negsuc 0) a) (combining (pos 1) so_far (pos 1) a)
