use Rattle.std.proofs.Common.{◌≡◌, map}
use Rattle.form_typed.specs.Formula.{formula}
use Rattle.smt_terms.specs.Translation.{either_said, formula_in}
use Rattle.smt_writing.specs.Written.{written}
use Rattle.smt_writing.proofs.combine.exclude.Given as goal

abbrev pub invariant-loop-argument : goal.invariant-loop-argument
invariant-loop-argument l = formula l.all ≡ either_said (formula l.fn.first) (map formula_in (map written l.yielded))
