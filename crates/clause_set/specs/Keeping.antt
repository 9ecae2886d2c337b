-- Clauses that those of another list leave.
use Rattle.std.specs.Prelude.{not, List, filter}
use Rattle.clause_set.specs.declared.literal.Literal.{Literal}
use Rattle.clause_set.specs.Dnfs.{is_covered}

-- the clauses of ds that no clause of cs outdoes
abbrev pub kept_by : List (List Literal) → List (List Literal) → List (List Literal)
kept_by cs ds = filter (λ d. not (is_covered cs d)) ds
