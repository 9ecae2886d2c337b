-- The state of the machine that a place with its registers is.
use Rattle.std.specs.Prelude.{ℤ, pos, Option, Some, None}
use Rattle.proof_constraint.specs.declared.draft.Draft.{Draft}
use Rattle.proof_constraint.specs.declared.place.Last.{Last}
use Rattle.proof_constraint.specs.declared.place.Last.TheVariants as w
use Rattle.proof_constraint.specs.declared.place.Place.{Place}
use Rattle.proof_constraint.specs.declared.place.Place.TheVariants as p
use Rattle.proof_constraint.specs.declared.place.Progress.{Progress}
use Rattle.proof_constraint.specs.declared.place.Progress.TheVariants as q
use Rattle.proof_constraint.specs.Behind.{Behind}
use Rattle.proof_constraint.specs.Behind as b
use Rattle.proof_constraint.specs.State.{GivenState}
use Rattle.proof_constraint.specs.State as s
use Rattle.proof_constraint.specs.Move.{GivenMove}
use Rattle.proof_constraint.specs.Move as m
use Rattle.proof_constraint.specs.Machine.{signed}

abbrev pub behind_of : Last → Draft → Behind
behind_of w.Start g = b.Start g
behind_of w.Sum g = b.Sum g
behind_of (w.Sign minus) g = b.Sign g minus
behind_of (w.Number minus n) g = b.Number g minus n
behind_of (w.Relation bound) g = b.Relation g.clauses g.literals g.sum bound
behind_of w.Clause g = b.Clause g.clauses g.literals
behind_of w.False g = b.False

abbrev pub state_of : Place → Draft → GivenState
state_of (p.Behind last) g = s.Behind (behind_of last g)
state_of (p.Blank last) g = s.Blank (behind_of last g)
state_of p.Minus g = s.Minus g
state_of (p.Times minus n) g = s.Times g minus n

-- what a token did
abbrev pub move_of : Progress → Draft → GivenMove
move_of q.Bad g = m.Bad
move_of (q.On place) g = m.On (state_of place g)
move_of q.Done g = m.Done g.clauses

-- the constant of a term that ends by this word: that of a number, and 0 after a name
abbrev pub constant_of : Last → Option ℤ
constant_of w.Sum = Some (pos 0)
constant_of (w.Number minus n) = Some (signed minus n)
constant_of _ = None
