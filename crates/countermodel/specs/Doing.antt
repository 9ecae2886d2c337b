-- Calls that keep no notes.
use Rattle.std.specs.Prelude.{ℤ, List, Option, Some, None, Result, Ok, Err}
use Rattle.base_budget.specs.declared.fault.StepFault.{StepFault}
use Rattle.base_budget.specs.declared.fault.StepFault.TheVariants as step_fault
use Rattle.base_budget.specs.declared.fault.ElimFault.{ElimFault}
use Rattle.base_budget.specs.declared.fault.ElimFault.TheVariants.{Steps, Overflow, Memory}
use Rattle.base_budget.specs.Followed.{Followed}
use Rattle.base_budget.specs.Trace.{Funds, Mark, Traced}
use Rattle.parameter_solver.specs.declared.solving.Solved.{Solved}
use Rattle.parameter_solver.specs.declared.solving.Solved.TheVariants as solved

abbrev pub unnoted : Unit {0} → Mark → Unit {0}
unnoted s m = s

-- the call did the work as far as its result says; what it noted is forgotten
abbrev pub DoesWork : {A : Type 0} → Traced A → Funds → Result A StepFault → Funds → Type 0
DoesWork work old result new = Followed unnoted work old tt result new tt

-- what solving answers, without its logs
abbrev pub found_in : Result Solved ElimFault → Result (Option (List ℤ)) StepFault
found_in (Ok (solved.Values vs)) = Ok (Some vs)
found_in (Ok (solved.None log)) = Ok None
found_in (Err (Steps log)) = Err step_fault.Steps
found_in (Err (Overflow log p)) = Err (step_fault.Overflow p)
found_in (Err Memory) = Err step_fault.Memory
