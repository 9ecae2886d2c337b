use Rattle.clause_set.proofs.Tightening.{Tightens}
use Rattle.clause_set.proofs.compact.all_tightened.Given as goal

abbrev pub invariant-loop-literal : goal.invariant-loop-literal
invariant-loop-literal l = Tightens l.literals l.literal-index l.out
