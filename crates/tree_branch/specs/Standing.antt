-- The sequent of the node where a search stands, as a list that goes back keeps it.
use Rattle.std.specs.Prelude.{◌≡◌, ℕ, zero, suc, ◌+◌, ◌≤◌, List, ◌∷◌, ◌++◌, length, map, Option, None, Some}
use Rattle.backlist.specs.declared.boxes.Pos.{Pos}
use Rattle.backlist.specs.History.{History, back}
use Rattle.sequent.specs.declared.member.Member.{Member}
use Rattle.sequent.specs.declared.member.Pick.{Pick}
use Rattle.sequent.specs.declared.member.Pick.TheVariants as pick
use Rattle.sequent.specs.declared.member.Sequent as code
use Rattle.sequent.specs.declared.member.Shape.{Shape}
use Rattle.sequent.specs.declared.member.Shape.TheVariants.{Trivial, Alpha, Delta, Beta, Gamma}
use Rattle.sequent.specs.Rules.{premises_of}
use Rattle.sequent.specs.Sequent.{Sequent}
use Rattle.sequent.specs.Views.{sequent_of}
use Rattle.tree_branch.specs.declared.branch.Branch.{Branch}
use Rattle.tree_branch.specs.declared.entering.Entered.{Entered}
use Rattle.tree_branch.specs.declared.principal.Principal.{Principal}

-- the members that items of the list are, in order
abbrev pub members_in : List (Pos × Member) → List Member
members_in is = map (λ i. i.1) is

-- the members of the present list, with the count of constants
abbrev pub held : Branch → code.Sequent
held b = record { members = members_in b.list.present; count = b.count }

-- the sequent where the branch stands
abbrev pub standing : Branch → Sequent
standing b = sequent_of (held b)

-- the rule of this shape with member number i as its principal
abbrev pub rule_at : Shape → ℕ → Pick
rule_at Trivial i = pick.Trivial i
rule_at Alpha i = pick.Alpha i
rule_at Delta i = pick.Delta i
rule_at Beta i = pick.Beta i
rule_at Gamma i = pick.Gamma i

-- the rule of a principal; close where there is none
abbrev pub rule_of : Option Principal → Pick
rule_of None = pick.Close
rule_of (Some p) = rule_at p.shape p.index

-- the premises of the rule with this principal
abbrev pub premises_from : Branch → Principal → List Sequent
premises_from b p = premises_of (standing b) (rule_at p.shape p.index)

-- the principal is the item of its number, at its place
pub record IsPrincipalItem (p : Principal) (is : List (Pos × Member)) : Type 0 where
  pub before : List (Pos × Member)
  pub member : Member
  pub behind : List (Pos × Member)
  pub whole : is ≡ before ++ (p.at, member) ∷ behind
  pub number : length before ≡ p.index

-- the branch has this principal
abbrev pub IsPrincipal : Branch → Principal → Type 0
IsPrincipal b p = IsPrincipalItem p b.list.present

-- the history after n undos
abbrev pub undone : {T : Type 0} → ℕ → History T → History T
undone zero h = h
undone (suc n) h = undone n (back h)

-- the branch after the undos of all changes that entering a premise made: one for each new member, and one for the principal
abbrev pub after_leaving : Entered → Branch → Branch
after_leaving e b = record { list = undone (e.pushed + 1) b.list; count = e.count }

-- leaving undoes changes that were made, and leads from b to c
pub record LeadsBack (e : Entered) (b c : Branch) : Type 0 where
  pub changes : e.pushed + 1 ≤ length b.list.earlier
  pub there : after_leaving e b ≡ c
