-- Which single literal another one follows from.
use Rattle.std.specs.Prelude.{Bool, false, ◌&&◌, int_lt}
use Rattle.clause_set.specs.declared.literal.Literal.{Literal}
use Rattle.clause_set.specs.declared.literal.Literal.TheVariants.{Eq, Geq, Div, NDiv}
use Rattle.linear_term.specs.Linear.{Linear}
use Rattle.clause_set.specs.Order.{is_literal}
use Rattle.clause_set.specs.Clauses.{same_pairs, slack_of}
use Rattle.clause_set.specs.Dnfs.{is_within}

-- l follows from m: a bound from one of the same coefficients, any other literal from itself alone
abbrev pub implies : Literal → Literal → Bool
implies (Geq t) m = is_within (slack_of m t.pairs) t.constant
implies (Eq t) m = is_literal (Eq t) m
implies (Div d t) m = is_literal (Div d t) m
implies (NDiv d t) m = is_literal (NDiv d t) m

-- m is a bound of the coefficients of t, and not as tight as t ≥ 0
abbrev pub is_looser : Linear → Literal → Bool
is_looser t (Eq s) = false
is_looser t (Geq s) = same_pairs s.pairs t.pairs && int_lt t.constant s.constant
is_looser t (Div d s) = false
is_looser t (NDiv d s) = false

-- m is a bound of the same coefficients as the bound l, and not as tight: in a clause with m, l does not follow
abbrev pub refutes : Literal → Literal → Bool
refutes (Geq t) m = is_looser t m
refutes (Eq t) m = false
refutes (Div d t) m = false
refutes (NDiv d t) m = false
