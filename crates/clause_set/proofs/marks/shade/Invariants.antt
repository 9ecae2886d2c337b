use Rattle.clause_set.proofs.Marking.{Shades}
use Rattle.clause_set.proofs.marks.shade.Given as goal

abbrev pub invariant-loop-pair : goal.invariant-loop-pair
invariant-loop-pair l = Shades l.pairs l.pair-index l.found
