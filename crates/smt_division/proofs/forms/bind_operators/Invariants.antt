use Rattle.std.proofs.Common.{◌≡◌, drop}
use Rattle.smt_lists.specs.Expressions.{exprs_of}
use Rattle.smt_division.specs.Forms.{bind_operators}
use Rattle.smt_division.proofs.forms.bind_operators.Given as goal

abbrev pub invariant-loop-e : goal.invariant-loop-e
invariant-loop-e l = bind_operators (exprs_of (drop l.e-index l.es)) ≡ bind_operators (exprs_of l.es)
