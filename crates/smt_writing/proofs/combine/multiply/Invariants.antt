use Rattle.std.proofs.Common.{◌≡◌, map}
use Rattle.form_typed.specs.Formula.{expression}
use Rattle.smt_terms.specs.Translation.{multiplied, term_in}
use Rattle.smt_writing.specs.Written.{written}
use Rattle.smt_writing.proofs.combine.multiply.Given as goal

abbrev pub invariant-loop-argument : goal.invariant-loop-argument
invariant-loop-argument l = expression l.all ≡ multiplied (expression l.fn.first) (map term_in (map written l.yielded))
