-- A state of the machine that reads a line `gives`.
use Rattle.std.specs.Prelude.{ℕ, Bool}
use Rattle.proof_constraint.specs.declared.draft.Draft.{Draft}
use Rattle.proof_constraint.specs.Behind as b

-- after a word; after a word and a blank; after the `-` that begins a term; after a coefficient and its `*`
pub data GivenState : Type 0 where
  Behind : b.Behind → GivenState
  Blank : b.Behind → GivenState
  Minus : Draft → GivenState
  Times : Draft → Bool → ℕ → GivenState
