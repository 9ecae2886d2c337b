-- What a token does in a state.
use Rattle.std.specs.Prelude.{List}
use Rattle.clause_set.specs.declared.literal.Literal.{Literal}
use Rattle.proof_constraint.specs.State as s

-- it cannot stand there, leads on, or ends the line
pub data GivenMove : Type 0 where
  Bad : GivenMove
  On : s.GivenState → GivenMove
  Done : List (List Literal) → GivenMove
