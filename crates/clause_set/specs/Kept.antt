-- What the literals of all clauses have.
use Rattle.std.specs.Prelude.{◌≡◌, ℕ, false, List, All}
use Rattle.std.specs.List.{AllByRecursion, list_any}
use Rattle.clause_set.specs.declared.literal.Literal.{Literal}
use Rattle.clause_set.specs.Formed.{IsFormed}
use Rattle.clause_set.specs.Names.{has}

-- the literals of each clause are as clauses have them
abbrev pub AreFormed : List (List Literal) → Type 0
AreFormed d = AllByRecursion (All IsFormed) d

-- x is in no clause
abbrev pub AreFree : ℕ → List (List Literal) → Type 0
AreFree x d = AllByRecursion (λ c. list_any (has x) c ≡ false) d
