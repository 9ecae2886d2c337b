use Rattle.std.proofs.Common.{◌≡◌, ◌≤◌, drop, length}
use Rattle.function_encoding.specs.Bounds.{below_types}
use Rattle.function_encoding.specs.Counted.{counted}
use Rattle.function_encoding.proofs.largeness.below.Given as goal

abbrev pub invariant-loop-i : goal.invariant-loop-i
invariant-loop-i l = (l.i ≤ length l.sorts) × (counted l.all ≡ below_types (drop l.i l.sorts) (counted l.fn.e))

abbrev pub decreases-loop-i : goal.decreases-loop-i
decreases-loop-i l = l.i
