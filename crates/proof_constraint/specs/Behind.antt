-- A word of the line `gives` that is whole, with the machine's registers.
use Rattle.std.specs.Prelude.{ℕ, Bool, List}
use Rattle.linear_term.specs.Linear.{Linear}
use Rattle.clause_set.specs.declared.literal.Literal.{Literal}
use Rattle.proof_constraint.specs.declared.draft.Draft.{Draft}

pub data Behind : Type 0 where
  Start : Draft → Behind
  Sum : Draft → Behind
  Sign : Draft → Bool → Behind
  Number : Draft → Bool → ℕ → Behind
  Relation : List (List Literal) → List Literal → Linear → Bool → Behind
  Clause : List (List Literal) → List Literal → Behind
  False : Behind
