use Rattle.std.proofs.Common.{◌≡◌, ◌≤◌, length}
use Rattle.clause_set.specs.Dnfs.{covers}
use Rattle.clause_set.proofs.covering.covers.Given as goal

abbrev pub invariant-loop-l : goal.invariant-loop-l
invariant-loop-l l = record {
  same : covers l.left l.c ≡ covers l.fn.d l.c;
  within : l.at ≤ length l.c;
}

abbrev pub decreases-loop-l : goal.decreases-loop-l
decreases-loop-l l = length l.left
