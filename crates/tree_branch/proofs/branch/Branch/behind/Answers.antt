use Rattle.tree_branch.proofs.Idle.{passed_first, passed_in, passed_next}
use Rattle.tree_branch.proofs.branch.Branch.behind.Goals as goal

pub next-requires : goal.next-requires
next-requires c = passed_in c.requires.0 c.args.self.now c.args.passed.now c.in-Some.p c.requires.1 c.in-Some.is

pub returns-in-Some : goal.returns-in-Some
returns-in-Some c = passed_next c.args.self.now c.args.passed.now c.in-Some.p c.next.result c.in-Some.is c.next.ensures.next

pub returns-in-None : goal.returns-in-None
returns-in-None c = passed_first c.args.self.now c.args.passed.now c.first.result c.in-None.is c.first.ensures.first
