-- What a call of the checker says: what was made, or that nothing can be; or it was cut, and says nothing.
use Rattle.std.specs.Prelude.{ℕ, ◌≡◌, ◌+◌, ◌-◌, ◌<◌, ◌^◌, false, Option, None, Some, Result, Ok, Err}
use Rattle.base_budget.specs.Trace.{Funds}
use Rattle.linear_term.specs.Range.{stays}
use Rattle.linear_term.specs.declared.range.TermFault.{TermFault}
use Rattle.linear_term.specs.declared.range.TermFault.TheVariants as term_fault
use Rattle.clause_checker.specs.declared.fault.Fault.{Fault}
use Rattle.clause_checker.specs.declared.fault.Fault.TheVariants.{Refused, Steps, Overflow, Room, Memory}

-- a cut of a call that refuses nothing: this number leaves the range, or memory runs out
abbrev pub IsTermCut : Fault → Type 0
IsTermCut Refused = ⊥
IsTermCut Steps = ⊥
IsTermCut (Overflow p) = stays p ≡ false
IsTermCut Room = ⊥
IsTermCut Memory = Unit {0}

-- a refusal or a cut
abbrev pub IsRefusedOrCut : Fault → Type 0
IsRefusedOrCut Refused = Unit {0}
IsRefusedOrCut Steps = ⊥
IsRefusedOrCut (Overflow p) = stays p ≡ false
IsRefusedOrCut Room = ⊥
IsRefusedOrCut Memory = Unit {0}

-- the most constants: each has a number of 32 bits
abbrev pub most_constants : ℕ
most_constants = 2 ^ 32 - 1

-- the same of a line where there are n constants: it lacks room for one more only where there are as many as there can be
abbrev pub HasCause : ℕ → Fault → Type 0
HasCause n Refused = Unit {0}
HasCause n Steps = ⊥
HasCause n (Overflow p) = stays p ≡ false
HasCause n Room = n ≡ most_constants
HasCause n Memory = Unit {0}

-- the same of a line with its price: then Steps may come
abbrev pub IsCausedBy : ℕ → Fault → Type 0
IsCausedBy n Steps = Unit {0}
IsCausedBy n e = HasCause n e

-- what a line, or the start, with this price charges: Steps comes exactly where the price passes the budget, and memory may be wanting
-- before it is charged
abbrev pub PaysPrice : {A : Type 0} → ℕ → Funds → Funds → Result A Fault → Type 0
PaysPrice p old new (Ok x) = new ≡ record old { spent = old.spent + p }
PaysPrice p old new (Err Refused) = new ≡ record old { spent = old.spent + p }
PaysPrice p old new (Err Steps) = old.budget < old.spent + p
PaysPrice p old new (Err (Overflow q)) = new ≡ record old { spent = old.spent + p }
PaysPrice p old new (Err Room) = new ≡ record old { spent = old.spent + p }
PaysPrice p old new (Err Memory) = Unit {0}

-- the call made what is to be made, or refused because there is no such thing
pub record Does {A B : Type 0} (view : A → B) (work : Option B) (result : Result A Fault) : Type 0 where
  pub ok : (x : A) → result ≡ Ok x → work ≡ Some (view x)
  pub refused : result ≡ Err Refused → work ≡ None

-- the refusal of a call on terms, as a fault of the checker
abbrev pub fault_of : TermFault → Fault
fault_of (term_fault.Overflow p) = Overflow p
fault_of term_fault.Memory = Memory
