use Rattle.std.proofs.Common.{length}
use Rattle.clause_set.specs.Implying.{implies, refutes}
use Rattle.clause_set.proofs.Implying.{FailsBehind}
use Rattle.clause_set.proofs.covering.last_answer.Given as goal

abbrev pub invariant-loop-m : goal.invariant-loop-m
invariant-loop-m l = record {
  fails : FailsBehind (implies l.l) l.ls l.left;
  stays : FailsBehind (refutes l.l) l.ls l.left;
}

abbrev pub decreases-loop-m : goal.decreases-loop-m
decreases-loop-m l = length l.left
