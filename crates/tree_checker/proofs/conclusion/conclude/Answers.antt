use Rattle.std.proofs.Common.{◌∙◌, sym, refl, None}
use Rattle.formula.specs.Tree.{form}
use Rattle.base_budget.proofs.Following.{follow_just}
use Rattle.tree_checker.proofs.conclusion.conclude.Goals as goal

pub returns-in-Solution : goal.returns-in-Solution
returns-in-Solution c = λ n. rw c.in-Solution.is (rw c.as_slice.ensures at (c.solved.ensures (form c.args.root.now) c.args.rule c.args.purse.now n))

pub returns-then-is_exact : goal.returns-then-is_exact
returns-then-is_exact c = λ n. rw (c.in-Nothing.is, sym c.is_exact.ensures ∙ c.if-is_exact.true) (c.refuted.ensures n)

pub returns-else-is_exact : goal.returns-else-is_exact
returns-else-is_exact c = λ n. rw (c.in-Nothing.is, sym c.is_exact.ensures ∙ c.if-is_exact.false) (follow_just None None refl)
