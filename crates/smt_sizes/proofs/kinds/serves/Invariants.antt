use Rattle.std.proofs.Common.{◌≡◌, drop}
use Rattle.smt_sizes.specs.Shapes.{no_formula}
use Rattle.smt_sizes.proofs.kinds.serves.Given as goal

abbrev pub invariant-loop-kind : goal.invariant-loop-kind
invariant-loop-kind l = no_formula l.kinds ≡ no_formula (drop l.kind-index l.kinds)
