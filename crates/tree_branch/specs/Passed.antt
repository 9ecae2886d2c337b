-- Members from the front of a branch that fit no rule.
use Rattle.std.specs.Prelude.{◌≡◌, ℕ, List, ◌++◌, length, None}
use Rattle.std.specs.List.{AllByRecursion}
use Rattle.backlist.specs.declared.boxes.Pos.{Pos}
use Rattle.backlist.specs.Links.{last_place}
use Rattle.sequent.specs.declared.member.Member as code
use Rattle.sequent.specs.Rules.{fits}
use Rattle.sequent.specs.Sequent.{Member}
use Rattle.sequent.specs.Views.{members_of}
use Rattle.tree_branch.specs.declared.branch.Branch.{Branch}
use Rattle.tree_branch.specs.declared.choosing.Passed.{Passed}
use Rattle.tree_branch.specs.Standing.{members_in}

-- no member was passed
abbrev pub nothing : Passed
nothing = record { count = 0; last = None }

-- no rule fits one of the members at this limit
abbrev pub AreIdle : ℕ → List Member → Type 0
AreIdle limit ms = AllByRecursion (λ m. fits limit m ≡ None) ms

-- the members that were passed are the first of the branch, as many as that, and the last of them lies there; no rule fits them
pub record IsPassed (limit : ℕ) (b : Branch) (p : Passed) : Type 0 where
  pub before : List (Pos × code.Member)
  pub rest : List (Pos × code.Member)
  pub whole : b.list.present ≡ before ++ rest
  pub number : length before ≡ p.count
  pub last_is : p.last ≡ last_place None before
  pub idle : AreIdle limit (members_of (members_in before))
