-- A clause in one name and its first split.
use Rattle.std.specs.Prelude.{ℕ, List, Option, Some, None}
use Rattle.base_budget.specs.declared.log.Entry.{Entry}
use Rattle.base_budget.specs.Trace.{Traced, just, next}
use Rattle.clause_set.specs.declared.literal.Literal.{Literal}
use Rattle.clause_set.specs.Rules.{rule}
use Rattle.solve_laws.specs.Candidates.{first_split}

-- what the rule of the entry leaves, if there is one
abbrev pub split_at : ℕ → List Literal → Option Entry → Traced (Option (List (List Literal)))
split_at j c None = just None
split_at j c (Some e) = next (rule j c e) (λ rs. just (Some rs))

-- what the first split leaves; none where the clause is not split
unfoldable pub splitting : ℕ → List Literal → Traced (Option (List (List Literal)))
splitting j c = split_at j c (first_split j c)
