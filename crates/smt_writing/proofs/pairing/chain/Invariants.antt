use Rattle.std.proofs.Common.{◌≡◌, map, take}
use Rattle.form_typed.specs.Formula.{formula}
use Rattle.smt_terms.specs.Operators.{neighbours}
use Rattle.smt_writing.specs.Pairing.{pair_said}
use Rattle.smt_writing.specs.Written.{written}
use Rattle.smt_writing.proofs.pairing.chain.Given as goal

abbrev pub invariant-loop-i : goal.invariant-loop-i
invariant-loop-i l = map formula l.out ≡ neighbours (pair_said l.pairing) (map written (take l.i l.arguments))
