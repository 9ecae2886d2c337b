-- The weight of clauses, by which work on them is charged.
use Rattle.std.specs.Prelude.{ℕ, ◌+◌, List, length, sum_by}
use Rattle.clause_set.specs.declared.literal.Literal.{Literal}
use Rattle.clause_set.specs.Literals.{term_of}

-- how many literals and monomials the clause has
abbrev pub clause_weight : List Literal → ℕ
clause_weight c = sum_by (λ l. 1 + length (term_of l).pairs) c

abbrev pub weight : List (List Literal) → ℕ
weight d = sum_by clause_weight d
