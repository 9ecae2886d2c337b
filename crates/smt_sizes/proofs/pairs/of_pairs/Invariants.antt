use Rattle.std.proofs.Common.{◌≡◌, ◌+◌, ◌≤◌, true, drop, length}
use Rattle.smt_sizes.specs.Operators.{number_of, of_pairs}
use Rattle.smt_sizes.proofs.pairs.of_pairs.Given as goal

abbrev pub invariant-loop-i : goal.invariant-loop-i
invariant-loop-i l =
    (l.i ≤ length l.kinds) × (l.formulas + l.i ≤ length l.kinds) × (l.formulas ≡ number_of true (drop l.i l.kinds)) × (l.all ≡ of_pairs l.below (drop l.i l.kinds))

abbrev pub decreases-loop-i : goal.decreases-loop-i
decreases-loop-i l = l.i
