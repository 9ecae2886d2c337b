-- The canonical run within a part of its budget.
use Rattle.std.specs.Prelude.{◌≡◌, ℕ, List, [], min}
use Rattle.base_budget.specs.Ending.{Ending, IsOutOfRange, IsOutOfSteps, ends_with}
use Rattle.base_budget.specs.Trace.{At, Funds}
use Rattle.model_runs.specs.Ends.{run_end}
use Rattle.pri_typing.specs.declared.problem.Problem.{Problem}
use Rattle.proof_tree.specs.declared.run.Why.{Why}
use Rattle.proof_tree.specs.declared.run.Why.TheVariants as why
use Rattle.search.specs.Run as run

-- a branch of the run is too long
abbrev pub IsTooLong : Ending run.RunAnswer → Type 0
IsTooLong end = (stands : At) × (end ≡ ends_with run.too_long stands)

-- the run is cut for this reason: by the budget, by a number that leaves the range, or by a branch that is too long
abbrev pub IsCutBy : Why → Ending run.RunAnswer → Type 0
IsCutBy why.Steps end = IsOutOfSteps end
IsCutBy (why.Overflow place) end = IsOutOfRange end
IsCutBy why.Branch end = IsTooLong end

-- the run is cut
abbrev pub IsCut : Ending run.RunAnswer → Type 0
IsCut end = (y : Why) × IsCutBy y end

-- how many steps of a budget the canonical run has before the clause search
abbrev pub first_part : ℕ → ℕ
first_part budget = min budget 100000

-- how many steps of a budget the canonical run has after a brief clause search
abbrev pub longer_part : ℕ → ℕ
longer_part budget = min budget 1000000

-- the problem has no existential constants, and its canonical run is cut within the first part of the budget
pub record IsCutEarly (budget : ℕ) (p : Problem) : Type 0 where
  pub alone : p.existentials ≡ []
  pub cut : IsCut (run_end (first_part budget) p)

-- the purse with another budget
abbrev pub raised : ℕ → Funds → Funds
raised budget g = record { budget = budget; spent = g.spent }
