-- The line `gives` as a machine.
use Rattle.std.specs.Prelude.{List, [], None}
use Rattle.proof_tokens.specs.declared.tokens.Token.{Token}
use Rattle.clause_set.specs.declared.literal.Literal.{Literal}
use Rattle.proof_constraint.specs.Behind as b
use Rattle.proof_constraint.specs.State.{GivenState}
use Rattle.proof_constraint.specs.State as s
use Rattle.proof_constraint.specs.Move.{GivenMove}
use Rattle.proof_constraint.specs.Move as m
use Rattle.proof_constraint.proofs.Running.{Step, bad, on, done}
use Rattle.proof_constraint.specs.Machine.{opened, moves}

abbrev pub as_step : GivenMove → Step GivenState (List (List Literal))
as_step m.Bad = bad
as_step (m.On z) = on z
as_step (m.Done d) = done d

abbrev pub line_moves : GivenState → Token → Step GivenState (List (List Literal))
line_moves z x = as_step (moves z x)

-- after the word `gives`
abbrev pub gives_read : GivenState
gives_read = s.Behind (b.Start (opened [] [] None))
