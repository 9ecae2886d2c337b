use Rattle.std.proofs.Common.{◌∙◌, sym}
use Rattle.proof_tree.proofs.Walking.{same_so}
use Rattle.tree_checker.proofs.Left.{confirm_none, confirm_other, confirm_same}
use Rattle.tree_checker.proofs.leaving.confirmed.Goals as goal

pub returns-then-is_same-clause-work : goal.returns-then-is_same-clause-work
returns-then-is_same-clause-work c = λ b n. confirm_same c.args.gives.now c.in-Some.d b n c.in-Some.is (sym (rw c.clauses.ensures at c.is_same.ensures) ∙ c.if-is_same.true)

pub returns-then-is_same-clause-same : goal.returns-then-is_same-clause-same
returns-then-is_same-clause-same c = same_so c.in-Some.d c.args.gives.now (sym (rw c.clauses.ensures at c.is_same.ensures) ∙ c.if-is_same.true)

pub returns-else-is_same-clause-work : goal.returns-else-is_same-clause-work
returns-else-is_same-clause-work c = λ b n. confirm_other c.args.gives.now c.in-Some.d b n c.in-Some.is (sym (rw c.clauses.ensures at c.is_same.ensures) ∙ c.if-is_same.false)

pub returns-in-None-clause-work : goal.returns-in-None-clause-work
returns-in-None-clause-work c = λ b n. confirm_none c.args.gives.now b n c.in-None.is
