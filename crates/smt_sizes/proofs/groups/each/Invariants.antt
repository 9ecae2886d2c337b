use Rattle.std.proofs.Common.{◌≡◌, drop}
use Rattle.smt_sizes.specs.Linear.{sum}
use Rattle.smt_sizes.specs.Operators.{each}
use Rattle.smt_sizes.proofs.groups.each.Given as goal

abbrev pub invariant-loop-kind : goal.invariant-loop-kind
invariant-loop-kind l = each l.wanted l.constant l.factor l.kinds (sum l.fn.before) ≡ each l.wanted l.constant l.factor (drop l.kind-index l.kinds) (sum l.all)
