-- With answers to the checks that are left, those given so far are answers to all.
use Rattle.std.proofs.Common.{drop}
use Rattle.job_smt.proofs.Listing.{Goes}
use Rattle.job_smt.proofs.lines.answer_checks.Given as goal

abbrev pub invariant-loop-p : goal.invariant-loop-p
invariant-loop-p g l = Goes l.budget l.problems (drop l.p-index l.problems) l.given
