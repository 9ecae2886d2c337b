-- What the machine's registers hold where it stands.
use Rattle.std.proofs.Common.{arith}
use Rattle.proof_constraint.specs.Behind.{Behind}
use Rattle.proof_constraint.specs.Behind as b
use Rattle.proof_constraint.specs.declared.draft.Draft.{Draft}
use Rattle.proof_constraint.specs.State.{GivenState}
use Rattle.proof_constraint.specs.State as s
use Rattle.proof_constraint.specs.Ranges.{IsRising, IsInRange, IsStateInRange}
use Rattle.proof_constraint.proofs.Said.{IsDraft, IsFineBehind, IsFine}
use Rattle.proof_constraint.proofs.Normals.{over}

open_draft : (g : Draft) → IsDraft g → IsRising g
open_draft g f x h = over g.sum g.least x f.least f.pairs h

behind_in_range : (w : Behind) → IsFineBehind w → IsInRange w
behind_in_range (b.Start g) f = open_draft g f.0
behind_in_range (b.Sum g) f = open_draft g f.0
behind_in_range (b.Sign g minus) f = open_draft g f.0
behind_in_range (b.Number g minus n) f = (open_draft g f.0, f.1)
behind_in_range (b.Relation d c sum bound) f = tt
behind_in_range (b.Clause d c) f = tt
behind_in_range b.False f = tt

pub fine_in_range : (z : GivenState) → IsFine z → IsStateInRange z
fine_in_range (s.Behind w) f = behind_in_range w f
fine_in_range (s.Blank w) f = behind_in_range w f.0
fine_in_range (s.Minus g) f = open_draft g f.0
fine_in_range (s.Times g minus n) f = (open_draft g f.0, f.1, λ e. let h = f.2 in absurd (omega arith))
