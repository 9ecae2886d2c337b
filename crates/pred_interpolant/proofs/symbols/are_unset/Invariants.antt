use Rattle.std.proofs.Common.{◌≡◌, ◌<◌, ℕ, false}
use Rattle.function_encoding.specs.Marks.{is_marked}
use Rattle.pred_interpolant.proofs.symbols.are_unset.Given as goal

abbrev pub invariant-loop-i : goal.invariant-loop-i
invariant-loop-i l = (k : ℕ) → k < l.i → is_marked l.marks k ≡ false
