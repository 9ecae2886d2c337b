use Rattle.std.proofs.Common.{◌≡◌, length}
use Rattle.std.specs.Ordering.{is_eq}
use Rattle.clause_set.specs.Order.{clause_cmp}
use Rattle.tree_checker.proofs.same.same_literals.Given as goal

abbrev pub invariant-loop-x : goal.invariant-loop-x
invariant-loop-x l = is_eq (clause_cmp l.xs l.ys) ≡ is_eq (clause_cmp l.fn.c l.fn.d)

abbrev pub decreases-loop-x : goal.decreases-loop-x
decreases-loop-x l = length l.xs
