-- Bounds that other literals leave no value.
use Rattle.std.specs.Prelude.{Bool, false, List, Some}
use Rattle.std.specs.List.{list_any}
use Rattle.clause_set.specs.declared.literal.Literal.{Literal}
use Rattle.clause_set.specs.declared.literal.Literal.TheVariants.{Eq, Geq, Div, NDiv}
use Rattle.linear_term.specs.Linear.{Linear}
use Rattle.clause_set.specs.Clauses.{slack_of, bounds_apart, is_negative}
use Rattle.clause_set.specs.Normal.{negated}

-- l leaves the coefficients of t no value where t ≥ 0 holds
abbrev pub excludes : Linear → Literal → Bool
excludes t l = is_negative (bounds_apart (slack_of l (negated t.pairs)) (Some t.constant))

-- l is a bound that one of the literals excludes
abbrev pub is_excluded : List Literal → Literal → Bool
is_excluded ls (Eq t) = false
is_excluded ls (Geq t) = list_any (excludes t) ls
is_excluded ls (Div d t) = false
is_excluded ls (NDiv d t) = false
