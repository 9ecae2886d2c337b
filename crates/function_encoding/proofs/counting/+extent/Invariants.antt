use Rattle.std.proofs.Common.{◌≡◌, ◌≤◌, drop, length}
use Rattle.form_typed.specs.Formula.{formulas_of, expressions_of}
use Rattle.form_encoding.specs.Extent.{extents, extents_with}
use Rattle.function_encoding.specs.Counted.{counted}
use Rattle.function_encoding.proofs.counting.+extent.Given as goal

abbrev pub invariant-extents-loop-i : goal.invariant-extents-loop-i
invariant-extents-loop-i l = (l.i ≤ length l.formulas) × (counted l.all ≡ extents (formulas_of (drop l.i l.formulas)))

abbrev pub invariant-extents_with-loop-i : goal.invariant-extents_with-loop-i
invariant-extents_with-loop-i l = (l.i ≤ length l.terms) × (counted l.all ≡ extents_with (expressions_of (drop l.i l.terms)) (counted l.fn.rest))

abbrev pub decreases-extents-loop-i : goal.decreases-extents-loop-i
decreases-extents-loop-i l = l.i

abbrev pub decreases-extents_with-loop-i : goal.decreases-extents_with-loop-i
decreases-extents_with-loop-i l = l.i
