use Rattle.std.proofs.Common.{◌≡◌, ◌∷◌, map}
use Rattle.form_typed.specs.Formula.{expression, minus}
use Rattle.smt_terms.specs.Translation.{term_in}
use Rattle.smt_writing.specs.Written.{written}
use Rattle.smt_writing.proofs.combine.subtract.Given as goal

abbrev pub invariant-loop-argument : goal.invariant-loop-argument
invariant-loop-argument l = map expression l.out ≡ expression l.fn.first ∷ map minus (map term_in (map written l.yielded))
