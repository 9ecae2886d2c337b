use Rattle.std.proofs.Common.{◌≡◌, map, take}
use Rattle.form_typed.specs.Formula.{formula}
use Rattle.smt_writing.specs.Pairing.{pair_said}
use Rattle.smt_writing.specs.Written.{written}
use Rattle.smt_writing.proofs.pairing.with_each.Given as goal

abbrev pub invariant-loop-other : goal.invariant-loop-other
invariant-loop-other l = map formula l.out ≡ map (pair_said l.pairing (written l.first)) (map written (take l.other-index l.others))
