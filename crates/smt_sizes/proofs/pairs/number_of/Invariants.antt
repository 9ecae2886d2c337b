use Rattle.std.proofs.Common.{◌≡◌, ◌+◌, ◌≤◌, drop}
use Rattle.smt_sizes.specs.Operators.{number_of}
use Rattle.smt_sizes.proofs.pairs.number_of.Given as goal

abbrev pub invariant-loop-kind : goal.invariant-loop-kind
invariant-loop-kind l = (l.count ≤ l.kind-index) × (number_of l.wanted l.kinds ≡ l.count + number_of l.wanted (drop l.kind-index l.kinds))
