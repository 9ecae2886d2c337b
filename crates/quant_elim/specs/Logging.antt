-- An outcome with the log of what was done.
use Rattle.std.specs.Prelude.{Result, Ok, Err}
use Rattle.base_budget.specs.declared.fault.StepFault.{StepFault}
use Rattle.base_budget.specs.declared.fault.StepFault.TheVariants as step_fault
use Rattle.base_budget.specs.declared.fault.ElimFault.{ElimFault}
use Rattle.base_budget.specs.declared.fault.ElimFault.TheVariants.{Steps, Overflow, Memory}
use Rattle.base_budget.specs.declared.log.ElimLog.{ElimLog}

-- the outcome and the log; running out of memory has none
abbrev pub with_log : {A : Type 0} → Result A StepFault → ElimLog → Result (A × ElimLog) ElimFault
with_log (Ok v) log = Ok (v, log)
with_log (Err step_fault.Steps) log = Err (Steps log)
with_log (Err (step_fault.Overflow p)) log = Err (Overflow log p)
with_log (Err step_fault.Memory) log = Err Memory
