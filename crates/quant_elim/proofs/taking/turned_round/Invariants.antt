use Rattle.std.proofs.Common.{◌≡◌, ◌++◌, length}
use Rattle.std.specs.Prelude.{reverse}
use Rattle.quant_elim.proofs.taking.turned_round.Given as goal

abbrev pub invariant-loop-c : goal.invariant-loop-c
invariant-loop-c l = l.left ++ reverse l.cs ≡ reverse l.fn.cs

abbrev pub decreases-loop-c : goal.decreases-loop-c
decreases-loop-c l = length l.cs
