use Rattle.std.proofs.Common.{◌≡◌, ◌≤◌, drop, length}
use Rattle.function_encoding.specs.Bounds.{extents_before}
use Rattle.function_encoding.specs.Counted.{counted}
use Rattle.function_encoding.specs.Encoded.{all_assumed}
use Rattle.function_encoding.proofs.parts.extent_of_all.Given as goal

abbrev pub invariant-loop-i : goal.invariant-loop-i
invariant-loop-i l = (l.i ≤ length l.components) × (counted l.all ≡ extents_before (all_assumed (drop l.i l.components)) (counted l.fn.others))

abbrev pub decreases-loop-i : goal.decreases-loop-i
decreases-loop-i l = l.i
