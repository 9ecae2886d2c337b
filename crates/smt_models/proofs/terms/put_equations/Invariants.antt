use Rattle.std.proofs.Common.{◌≡◌, ◌++◌, drop}
use Rattle.smt_models.specs.Printed.{texts}
use Rattle.smt_models.specs.Terms.{equations}
use Rattle.smt_terms.specs.Term.{phrases}
use Rattle.smt_models.proofs.terms.put_equations.Given as goal

abbrev pub invariant-loop-i : goal.invariant-loop-i
invariant-loop-i l = l.out.items ++ texts (phrases (equations l.i (drop l.i l.at))) ≡ l.fn.out.items ++ texts (phrases (equations 0 l.at))
