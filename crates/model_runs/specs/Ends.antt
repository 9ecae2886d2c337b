-- How the canonical run on a problem ends.
use Rattle.std.specs.Prelude.{ℕ, [], length}
use Rattle.base_budget.specs.Trace.{at}
use Rattle.search.specs.Run as run
use Rattle.base_budget.specs.Ending.{Ending, ending}
use Rattle.search.specs.Run.{canonical_run}
use Rattle.pri_typing.specs.declared.problem.Problem.{Problem}
use Rattle.form_encoding.specs.Problems.{problem_root}

-- how the canonical run on the encoded problem ends with this budget
abbrev pub run_end : ℕ → Problem → Ending run.RunAnswer
run_end budget p = ending (canonical_run (problem_root p).value (length p.existentials) budget) (at (record { budget = budget; spent = 0 }) [])
