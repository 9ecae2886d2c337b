use Rattle.std.proofs.Common.{◌≡◌, drop}
use Rattle.smt_sizes.specs.Linear.{sum}
use Rattle.smt_sizes.specs.Operators.{falls}
use Rattle.smt_sizes.proofs.groups.falls.Given as goal

abbrev pub invariant-loop-i : goal.invariant-loop-i
invariant-loop-i l = falls l.wanted l.step l.constant l.kinds (sum l.fn.before) ≡ falls l.wanted l.step l.constant (drop l.i l.kinds) (sum l.all)
