-- What a call that checks a whole log answers.
use Rattle.std.specs.Prelude.{ℕ, ◌≤◌, cond, nat_eq, List, [], length, Option, Some, None, Result, Ok, Err}
use Rattle.base_budget.specs.declared.fault.StepFault.{StepFault}
use Rattle.base_budget.specs.declared.fault.StepFault.TheVariants.{Steps, Overflow, Memory}
use Rattle.base_budget.specs.declared.log.Entry.{Entry}
use Rattle.base_budget.specs.Trace.{Funds, at}
use Rattle.base_budget.specs.Work.{ChargedAt}
use Rattle.elim_laws.specs.Logs.{Reader, by_whole_log}
use Rattle.elim_check.specs.declared.fault.LogFault.{LogFault}
use Rattle.elim_check.specs.declared.fault.LogFault.TheVariants as log_fault
use Rattle.elim_check.specs.declared.fault.Stop.{Stop}
use Rattle.elim_check.specs.declared.fault.Stop.TheVariants as stop
use Rattle.elim_check.specs.Reading.{noted}

-- the work of the whole log ended with r, when n of its entries were done
pub record EndsAt {A : Type 0} (m : Reader A) (log : List Entry) (old : Funds) (r : Result (Option A) StepFault) (n : ℕ) (new : Funds) : Type 0 where
  pub within : n ≤ length log
  pub charged : ChargedAt (by_whole_log m log) (at old []) r (at new (noted log n))

-- the call did the work of the whole log: it answers its value where every entry was done and none is left over, and else
-- why it ended, with the number of entries that were done before
abbrev pub Checked : {A : Type 0} → Reader A → List Entry → Funds → Result A LogFault → Funds → Type 0
Checked m log old (Ok v) new = EndsAt m log old (Ok (Some v)) (length log) new
Checked m log old (Err (log_fault.Entry n)) new = EndsAt m log old (Ok None) n new
Checked m log old (Err (log_fault.Cost n)) new = EndsAt m log old (Err Steps) n new
Checked m log old (Err (log_fault.Range n p)) new = EndsAt m log old (Err (Overflow p)) n new
Checked m log old (Err log_fault.Memory) new = (n : ℕ) × EndsAt m log old (Err Memory) n new

-- the answer of work that did the first i of n entries: one that is left over is wrong
abbrev pub told : {A : Type 0} → Result A Stop → ℕ → ℕ → Result A LogFault
told (Ok v) i n = cond (nat_eq i n) (Ok v) (Err (log_fault.Entry i))
told (Err stop.Entry) i n = Err (log_fault.Entry i)
told (Err (stop.Step Steps)) i n = Err (log_fault.Cost i)
told (Err (stop.Step (Overflow p))) i n = Err (log_fault.Range i p)
told (Err (stop.Step Memory)) i n = Err log_fault.Memory
