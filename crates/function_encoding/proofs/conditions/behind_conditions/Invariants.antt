use Rattle.std.proofs.Common.{◌≡◌, ◌≤◌, ◌+◌, ◌||◌, drop, length}
use Rattle.form_encoding.specs.Extent.{behind_atoms}
use Rattle.function_encoding.specs.Bounds.{kept_bounds}
use Rattle.function_encoding.specs.Counted.{counted}
use Rattle.function_encoding.specs.Marks.{is_marked}
use Rattle.function_encoding.proofs.conditions.behind_conditions.Given as goal

abbrev pub invariant-loop-i : goal.invariant-loop-i
invariant-loop-i l =
    (l.i ≤ length l.sorts) × (counted l.extent ≡ behind_atoms (kept_bounds (λ x. l.all || is_marked l.marks x) (l.first + l.i) (drop l.i l.sorts)) (counted l.fn.e))

abbrev pub decreases-loop-i : goal.decreases-loop-i
decreases-loop-i l = l.i
