-- Where a walk over a proof is, and how it says what a checked log answers.
use Rattle.std.specs.Prelude.{ℕ, Option, Some, None, Result, Ok, Err}
use Rattle.base_budget.specs.Trace.{Mark, entry, new_log, round, enter, back}
use Rattle.base_budget.specs.declared.fault.StepFault.{StepFault}
use Rattle.base_budget.specs.declared.fault.StepFault.TheVariants as step
use Rattle.elim_check.specs.declared.fault.LogFault.{LogFault}
use Rattle.elim_check.specs.declared.fault.LogFault.TheVariants.{Entry, Range, Cost, Memory}

-- the number of the node that was entered last, or gone back to
abbrev pub at_node : ℕ → Mark → ℕ
at_node n (entry e) = n
at_node n new_log = n
at_node n (round k) = n
at_node n (enter m) = m
at_node n (back m) = m

-- the answer about a log: nothing where an entry is wrong
abbrev pub outcome : {A : Type 0} → Result A LogFault → Result (Option A) StepFault
outcome (Ok v) = Ok (Some v)
outcome (Err (Entry n)) = Ok None
outcome (Err (Cost n)) = Err step.Steps
outcome (Err (Range n p)) = Err (step.Overflow p)
outcome (Err Memory) = Err step.Memory
