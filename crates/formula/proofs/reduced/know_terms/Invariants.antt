use Rattle.formula.proofs.Knowing.{TermsBefore}
use Rattle.formula.proofs.reduced.know_terms.Given as goal

abbrev pub invariant-loop-t : goal.invariant-loop-t
invariant-loop-t l = TermsBefore l.terms l.t-index
