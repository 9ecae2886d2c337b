use Rattle.std.proofs.Common.{◌≤◌, length}
use Rattle.clause_marks.specs.Marked.{AreAtMost, HasSameStamps}
use Rattle.clause_marks.proofs.marks.grow.Given as goal

abbrev pub invariant-loop : goal.invariant-loop
invariant-loop l = record {
  long : l.counter ≤ length l.table;
  same : HasSameStamps l.stamp l.initial.table l.table;
  most : AreAtMost l.stamp l.table;
}
