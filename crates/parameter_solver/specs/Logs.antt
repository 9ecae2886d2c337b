-- What `solve` did, by its answer and the log that the answer carries.
use Rattle.std.specs.Prelude.{ℕ, suc, ℤ, List, [], ◌∷◌, ◌++◌, Option, Some, None, Result, Ok, Err}
use Rattle.base_budget.specs.declared.fault.StepFault.{StepFault}
use Rattle.base_budget.specs.declared.fault.StepFault.TheVariants as step_fault
use Rattle.base_budget.specs.declared.fault.ElimFault.{ElimFault}
use Rattle.base_budget.specs.declared.fault.ElimFault.TheVariants.{Steps, Overflow, Memory}
use Rattle.base_budget.specs.declared.log.Entry.{Entry}
use Rattle.base_budget.specs.declared.log.ElimLog.{ElimLog}
use Rattle.base_budget.specs.Trace.{Funds, Mark, entry, new_log, round, enter, back, Traced, just, next, note}
use Rattle.base_budget.specs.Followed.{Followed}
use Rattle.clause_set.specs.declared.literal.Literal.{Literal}
use Rattle.solve_laws.specs.Solutions.{names_from, chosen, with_value}
use Rattle.parameter_solver.specs.declared.solving.Solved.{Solved}
use Rattle.parameter_solver.specs.declared.solving.Solved.TheVariants as solved

-- the entries of the log in progress after a note: a log is empty where it begins
abbrev pub in_log : List Entry → Mark → List Entry
in_log es (entry e) = es ++ e ∷ []
in_log es new_log = []
in_log es (round k) = es
in_log es (enter k) = es
in_log es (back k) = es

-- the value of j and what it leaves of d, where k names come after j; a log begins
abbrev pub value_step : ℕ → ℕ → List (List Literal) → Traced (ℤ × List (List Literal))
value_step k j d =
    next (note new_log) (λ _. next (names_from k (suc j) d) (λ left. next (chosen j left) (λ v. next (with_value j v d) (λ r. just (v, r)))))

-- an outcome with the log in progress; values carry no log, and running out of memory has none
abbrev pub answer_with : Result (Option (List ℤ)) StepFault → ElimLog → Result Solved ElimFault
answer_with (Ok None) log = Ok (solved.None log)
answer_with (Ok (Some vs)) log = Ok (solved.Values vs)
answer_with (Err step_fault.Steps) log = Err (Steps log)
answer_with (Err (step_fault.Overflow p)) log = Err (Overflow log p)
answer_with (Err step_fault.Memory) log = Err Memory

-- the call did the work of solving from `old` on, as far as its answer says; a log that it carries has the entries noted since the
-- last log began
abbrev pub Solves : Traced (Option (List ℤ)) → Funds → Result Solved ElimFault → Funds → Type 0
Solves work old (Ok (solved.Values vs)) new = (es : List Entry) × Followed in_log work old [] (Ok (Some vs)) new es
Solves work old (Ok (solved.None log)) new = Followed in_log work old [] (Ok None) new log.entries
Solves work old (Err (Steps log)) new = Followed in_log work old [] (Err step_fault.Steps) new log.entries
Solves work old (Err (Overflow log p)) new = Followed in_log work old [] (Err (step_fault.Overflow p)) new log.entries
Solves work old (Err Memory) new = (es : List Entry) × Followed in_log work old [] (Err step_fault.Memory) new es
