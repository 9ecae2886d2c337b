use Rattle.std.proofs.Common.{◌≡◌, length}
use Rattle.job_smt.proofs.Telling.{status_with}
use Rattle.job_smt.proofs.lines.status_of.Given as goal

abbrev pub invariant-loop-answer : goal.invariant-loop-answer
invariant-loop-answer l = status_with l.status l.rest ≡ status_with 0 l.answers

abbrev pub decreases-loop-answer : goal.decreases-loop-answer
decreases-loop-answer l = length l.rest
