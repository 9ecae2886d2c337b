use Rattle.std.proofs.Common.{Some}
use Rattle.tree_checker.proofs.Dues.{never_ends, told_next}
use Rattle.tree_checker.proofs.frames.TreeLinesProofLines.next.Goals as goal

pub returns-in-Root-clause-line : goal.returns-in-Root-clause-line
returns-in-Root-clause-line c = λ l ls is.
    let now = c.begin.new.self in told_next _ _ (Some c.begin.result) now.log.now now.tree.now.conclusion (c.begin.ensures.told now.log.now now.tree.now.conclusion) l ls (rw c.in-Root.is at is)

pub returns-in_ok-go_on-in-Within-clause-line : goal.returns-in_ok-go_on-in-Within-clause-line
returns-in_ok-go_on-in-Within-clause-line c = λ l ls is.
    let now = c.go_on.new.self in told_next _ _ (Some c.in_ok-go_on-in-Within.field-0) now.log.now now.tree.now.conclusion (c.in_ok-go_on-in-Within.ensures.told now.tree.now.conclusion) l ls (rw c.in-Within.is at is)

pub returns-in_ok-go_on-in-Within-clause-end : goal.returns-in_ok-go_on-in-Within-clause-end
returns-in_ok-go_on-in-Within-clause-end c = λ is.
    let now = c.go_on.new.self in absurd (never_ends _ _ (Some c.in_ok-go_on-in-Within.field-0) now.log.now now.tree.now.conclusion (c.in_ok-go_on-in-Within.ensures.told now.tree.now.conclusion) (rw c.in-Within.is at is))
