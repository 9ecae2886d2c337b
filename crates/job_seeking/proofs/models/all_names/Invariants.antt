use Rattle.std.specs.List.{AllByRecursion}
use Rattle.linear_term.specs.Linear.{IsOver}
use Rattle.job_seeking.proofs.models.all_names.Given as goal

abbrev pub invariant-loop-n : goal.invariant-loop-n
invariant-loop-n l = AllByRecursion (IsOver l.fn.names) l.out
