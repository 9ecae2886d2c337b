use Rattle.std.proofs.Common.{◌≡◌, drop}
use Rattle.smt_sizes.specs.Linear.{sum}
use Rattle.smt_sizes.specs.Operators.{rises}
use Rattle.smt_sizes.proofs.groups.rises.Given as goal

abbrev pub invariant-loop-i : goal.invariant-loop-i
invariant-loop-i l = rises 0 l.kinds (sum l.fn.before) ≡ rises l.i (drop l.i l.kinds) (sum l.all)
