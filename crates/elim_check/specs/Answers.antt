-- What an answer about a log says, in words of the whole work.
use Rattle.std.specs.Prelude.{◌≡◌, ◌+◌, ◌≤◌, true, List, Some, Result, Err}
use Rattle.base_budget.specs.Runs.{total, raw_stay}
use Rattle.base_budget.specs.Trace.{Funds, Traced}
use Rattle.base_budget.specs.declared.log.Entry.{Entry}
use Rattle.elim_laws.specs.Logs.{Reader, by_whole_log}
use Rattle.elim_check.specs.declared.fault.LogFault.{LogFault}
use Rattle.elim_check.specs.declared.fault.LogFault.TheVariants.{Range, Memory}

-- the charges of the work are within the budget, and its raw numbers within the range
pub record FitsFunds {A : Type 0} (work : Traced A) (old : Funds) : Type 0 where
  pub within : old.spent + total work.events ≤ old.budget
  pub stay : raw_stay work.events ≡ true

-- what a purse holds after the whole work
abbrev pub paid_for : {A : Type 0} → Traced A → Funds → Funds
paid_for work old = record { budget = old.budget; spent = old.spent + total work.events }

-- the work of the whole log fits, and ends in the value v
pub record GoesThrough {A : Type 0} (m : Reader A) (log : List Entry) (old : Funds) (v : A) : Type 0 where
  pub value : (by_whole_log m log).value ≡ Some v
  pub fits : FitsFunds (by_whole_log m log) old

-- p, unless memory runs out
abbrev pub UnlessLogMemory : {A : Type 0} → Result A LogFault → Type 0 → Type 0
UnlessLogMemory (Err Memory) p = Unit {0}
UnlessLogMemory _ p = p

-- the same answer; of several numbers of one step that leave the range either may be named
abbrev pub IsSameAnswer : {A : Type 0} → Result A LogFault → Result A LogFault → Type 0
IsSameAnswer (Err (Range n p)) (Err (Range k q)) = n ≡ k
IsSameAnswer r s = r ≡ s
