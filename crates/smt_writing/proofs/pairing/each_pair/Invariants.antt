use Rattle.std.proofs.Common.{◌≡◌, ◌++◌, map, drop}
use Rattle.form_typed.specs.Formula.{formula}
use Rattle.smt_terms.specs.Operators.{pairs}
use Rattle.smt_writing.specs.Pairing.{pair_said}
use Rattle.smt_writing.specs.Written.{written}
use Rattle.smt_writing.proofs.pairing.each_pair.Given as goal

abbrev pub invariant-loop-i : goal.invariant-loop-i
invariant-loop-i l = map formula l.out ++ pairs (pair_said l.pairing) (map written (drop l.i l.arguments)) ≡ pairs (pair_said l.pairing) (map written l.arguments)
