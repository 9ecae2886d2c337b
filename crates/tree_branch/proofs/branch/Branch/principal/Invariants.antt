use Rattle.std.proofs.Common.{◌≡◌, ◌≤◌, IfSome}
use Rattle.backlist.specs.Walk.{IsWalk}
use Rattle.sequent.specs.Rules.{picked}
use Rattle.sequent.specs.Views.{members_of}
use Rattle.tree_branch.specs.Standing.{IsPrincipalItem, members_in, rule_of}
use Rattle.tree_branch.proofs.branch.Branch.principal.Given as goal

abbrev pub invariant-loop-i : goal.invariant-loop-i
invariant-loop-i l = (w : IsWalk l.self.list.present l.i l.at) × (rule_of l.best ≡ picked l.limit (members_of (members_in w.passed))) × IfSome l.best (λ p. IsPrincipalItem p l.self.list.present) × IfSome l.best (λ p. l.passed.count ≤ p.index) × (l.passed.count ≤ l.i)
