use Rattle.std.proofs.Common.{false, true}
use Rattle.clause_set.proofs.Marking.{Marked}
use Rattle.clause_set.proofs.marks.all_marks.Given as goal

abbrev pub invariant-loop-l : goal.invariant-loop-l
invariant-loop-l l = record {
  own : Marked false l.ls l.l-index l.all.own;
  opposite : Marked true l.ls l.l-index l.all.opposite;
}
