use Rattle.std.proofs.Common.{◌≡◌, drop}
use Rattle.smt_sizes.specs.Weight.{nothing}
use Rattle.smt_sizes.specs.Linear.{sum}
use Rattle.smt_sizes.specs.Operators.{chain}
use Rattle.smt_sizes.proofs.groups.chain.Given as goal

abbrev pub invariant-loop-i : goal.invariant-loop-i
invariant-loop-i l = chain l.of_terms l.factor nothing l.kinds (sum l.fn.before) ≡ chain l.of_terms l.factor l.here (drop l.i l.kinds) (sum l.all)
