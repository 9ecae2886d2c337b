use Rattle.std.proofs.Common.{◌≡◌, ◌<◌, ℕ, true}
use Rattle.function_encoding.specs.Marks.{is_marked}
use Rattle.pred_interpolant.proofs.symbols.are_within.Given as goal

abbrev pub invariant-loop-i : goal.invariant-loop-i
invariant-loop-i l = (k : ℕ) → k < l.i → is_marked l.first k ≡ true → is_marked l.second k ≡ true
