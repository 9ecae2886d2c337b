-- Whether names are below a bound.
use Rattle.std.specs.Prelude.{ℕ, Bool, nat_lt, List}
use Rattle.std.specs.List.{list_all}
use Rattle.linear_term.specs.Linear.{Linear}
use Rattle.clause_set.specs.declared.literal.Literal.{Literal}
use Rattle.clause_set.specs.Literals.{term_of}

-- each name of the term is below n
abbrev pub term_is_over : ℕ → Linear → Bool
term_is_over n t = list_all (λ p. nat_lt p.0 n) t.pairs

-- the same of all terms of a clause
abbrev pub clause_is_over : ℕ → List Literal → Bool
clause_is_over n c = list_all (λ l. term_is_over n (term_of l)) c
