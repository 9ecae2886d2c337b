use Rattle.std.proofs.Common.{◌≡◌}
use Rattle.form_typed.specs.Formula.{formula}
use Rattle.smt_names.specs.Saying.{quantified_over}
use Rattle.smt_writing.proofs.writing.quantify.Given as goal

abbrev pub invariant-loop : goal.invariant-loop
invariant-loop l = formula l.whole ≡ quantified_over l.all l.counter (formula l.fn.body)
