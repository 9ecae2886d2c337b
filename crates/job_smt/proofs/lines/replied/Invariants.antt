use Rattle.std.proofs.Common.{◌≡◌, ◌++◌, length}
use Rattle.job_smt.specs.Answers.{replied, replied_from}
use Rattle.job_smt.specs.Lines.{last_of}
use Rattle.job_smt.proofs.lines.replied.Given as goal

abbrev pub invariant-loop-reply : goal.invariant-loop-reply
invariant-loop-reply l = l.text.items ++ replied_from (last_of l.last) l.rest l.left ≡ replied l.replies l.answers

abbrev pub decreases-loop-reply : goal.decreases-loop-reply
decreases-loop-reply l = length l.rest
