use Rattle.std.proofs.Common.{◌≡◌, ◌++◌, drop}
use Rattle.job_decide.specs.Drilled.{first_line}
use Rattle.job_decide.proofs.drilling.put_first_line.Given as goal

abbrev pub invariant-loop-c : goal.invariant-loop-c
invariant-loop-c l = l.out.items ++ first_line (drop l.c-index l.text) ≡ l.fn.out.items ++ first_line l.text
