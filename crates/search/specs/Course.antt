-- Where a run over trees is: what its notes say.
use Rattle.std.specs.Prelude.{◌≡◌, ◌+◌, List, [], ◌∷◌, ◌++◌, Result, Ok, Err}
use Rattle.std.specs.List.{AllByRecursion}
use Rattle.base_budget.specs.declared.log.ElimLog.{ElimLog}
use Rattle.base_budget.specs.declared.fault.StepFault.{StepFault}
use Rattle.base_budget.specs.declared.fault.StepFault.TheVariants as step_fault
use Rattle.base_budget.specs.declared.fault.ElimFault.{ElimFault}
use Rattle.base_budget.specs.declared.fault.ElimFault.TheVariants.{Steps, Overflow, Memory}
use Rattle.base_budget.specs.Followed.{after_notes}
use Rattle.base_budget.specs.Trace.{Funds, Mark, entry, new_log, round, enter, back, at, Traced}
use Rattle.base_budget.specs.Work.{ChargedAt}
use Rattle.elim_laws.specs.Logs.{IsOfLog}
use Rattle.search.specs.declared.course.Course.{Course}

abbrev pub no_log : ElimLog
no_log = record { entries = [] }

-- the log in progress, after a note
abbrev pub logged : ElimLog → Mark → ElimLog
logged l (entry e) = record { entries = l.entries ++ e ∷ [] }
logged l new_log = no_log
logged l (round k) = l
logged l (enter n) = l
logged l (back n) = l

-- the round, the nodes entered in it, and the entries of the elimination in progress, after a note
abbrev pub noted : Course → Mark → Course
noted c (entry e) = record { round = c.round; nodes = c.nodes; log = record { entries = c.log.entries ++ e ∷ [] } }
noted c new_log = record { round = c.round; nodes = c.nodes; log = no_log }
noted c (round k) = record { round = k; nodes = 0; log = no_log }
noted c (enter n) = record { round = c.round; nodes = c.nodes + 1; log = no_log }
noted c (back n) = record { round = c.round; nodes = c.nodes; log = no_log }

-- the call eliminated, several times it may be, and a fault carries the log of the elimination in progress
abbrev pub Eliminates : {A : Type 0} → Traced A → Funds → Result A ElimFault → Funds → Type 0
Eliminates work old (Ok v) new = (ms : List Mark) × AllByRecursion IsOfLog ms × ChargedAt work (at old []) (Ok v) (at new ms)
Eliminates work old (Err (Steps log)) new = (ms : List Mark) × AllByRecursion IsOfLog ms × ChargedAt work (at old []) (Err step_fault.Steps) (at new ms) × (log ≡ after_notes logged no_log ms)
Eliminates work old (Err (Overflow log p)) new = (ms : List Mark) × AllByRecursion IsOfLog ms × ChargedAt work (at old []) (Err (step_fault.Overflow p)) (at new ms) × (log ≡ after_notes logged no_log ms)
Eliminates work old (Err Memory) new = (ms : List Mark) × ChargedAt work (at old []) (Err step_fault.Memory) (at new ms)

-- why a call is cut whose elimination is
abbrev pub cause_of : ElimFault → StepFault
cause_of (Steps log) = step_fault.Steps
cause_of (Overflow log p) = step_fault.Overflow p
cause_of Memory = step_fault.Memory

-- where the run is then: in that elimination
abbrev pub cut_at : Course → ElimFault → Course
cut_at c (Steps log) = record { round = c.round; nodes = c.nodes; log = log }
cut_at c (Overflow log p) = record { round = c.round; nodes = c.nodes; log = log }
cut_at c Memory = c
