-- The members and the sequent that the code's are.
use Rattle.std.specs.Prelude.{◌≤◌, ◌<◌, ◌+◌, ◌-◌, ◌^◌, List, [], ◌∷◌, map}
use Rattle.std.specs.List.{AllByRecursion}
use Rattle.sequent.specs.declared.added.Added.{Added}
use Rattle.sequent.specs.declared.added.Added.TheVariants.{One, Two, Many}
use Rattle.sequent.specs.declared.member.Member.{Member}
use Rattle.sequent.specs.declared.member.Sequent.{Sequent}
use Rattle.sequent.specs.Sequent as s
use Rattle.formula.specs.Shifts.{IsBelow}
use Rattle.formula.specs.Tree.{form}

abbrev pub member_of : Member → s.Member
member_of m = s.member (form m.formula) m.over m.used

abbrev pub members_of : List Member → List s.Member
members_of ms = map member_of ms

abbrev pub sequent_of : Sequent → s.Sequent
sequent_of t = s.sequent (members_of t.members) t.count

-- the new members, in order
abbrev pub added_members : Added → List Member
added_members (One m) = m ∷ []
added_members (Two m n) = m ∷ n ∷ []
added_members (Many ms) = ms

-- one more constant has a number, no member is over more names than there are, and its uses can be counted on
pub record HasRoom (t : Sequent) : Type 0 where
  pub constants : t.count + 1 < 2 ^ 32
  pub members : AllByRecursion (λ m. (m.over ≤ t.count) × (m.used + 1 < 2 ^ 32) × IsBelow (2 ^ 32 - (t.count - m.over)) (form m.formula)) t.members
