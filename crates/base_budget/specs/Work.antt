-- What a call's contract says of its charges: which work it did, where it stopped, and what is spent then.
use Rattle.std.specs.Prelude.{◌≡◌, false, List, [], ◌++◌, map, Contains, Result, Ok, Err}
use Rattle.linear_term.specs.declared.range.Place.{Place}
use Rattle.linear_term.specs.declared.range.TermFault.{TermFault}
use Rattle.linear_term.specs.declared.range.TermFault.TheVariants as term_fault
use Rattle.base_budget.specs.declared.fault.StepFault.{StepFault}
use Rattle.base_budget.specs.declared.fault.StepFault.TheVariants as step_fault
use Rattle.base_budget.specs.declared.fault.ElimFault.{ElimFault}
use Rattle.base_budget.specs.declared.fault.ElimFault.TheVariants.{Steps, Overflow, Memory}
use Rattle.base_budget.specs.declared.log.ElimLog.{ElimLog}
use Rattle.linear_term.specs.Range.{stays}
use Rattle.base_budget.specs.Trace.{Funds, Mark, entry, Event, At, at, done, refused, out_of_range, cut, stand, Traced}

-- all events happened, and the run stands at new
pub record Passes (es : List Event) (old new : At) : Type 0 where
  pub end : cut es old ≡ done new

-- a charge was refused, and the run stands at new
pub record Refused (es : List Event) (old new : At) : Type 0 where
  pub end : cut es old ≡ refused new

-- a raw number left the range, p is such a one, and the run stands at new
pub record Leaves (es : List Event) (old new : At) (p : Place) : Type 0 where
  pub numbers : List Place
  pub end : cut es old ≡ out_of_range numbers new
  pub among : Contains numbers p
  pub leaves : stays p ≡ false

-- the run stopped at new before its end, as running out of memory stops it
pub record Reaches (es : List Event) (old new : At) : Type 0 where
  pub before : List Event
  pub after : List Event
  pub whole : es ≡ before ++ after
  pub stands : stand (cut before old) ≡ new

-- the call did the work from old on: its result is the work's value, or why and where the work was cut
pub record ChargedAt {A : Type 0} (work : Traced A) (old : At) (result : Result A StepFault) (new : At) : Type 0 where
  pub ok : (v : A) → result ≡ Ok v → (v ≡ work.value) × Passes work.events old new
  pub steps : result ≡ Err step_fault.Steps → Refused work.events old new
  pub overflow : (p : Place) → result ≡ Err (step_fault.Overflow p) → Leaves work.events old new p
  pub memory : result ≡ Err step_fault.Memory → Reaches work.events old new

-- the same of a call that leaves no notes: what a purse holds before and after
abbrev pub Charged : {A : Type 0} → Traced A → Funds → Result A StepFault → Funds → Type 0
Charged work old result new = ChargedAt work (at old []) result (at new [])

-- the same of a call without a purse: its work charges nothing and leaves no notes
pub record Worked {A : Type 0} (work : Traced A) (result : Result A StepFault) : Type 0 where
  pub each : (a : At) → ChargedAt work a result a

-- what is left of the work at now: whatever ends the rest ends the work
pub record Remains {A : Type 0} (rest : Traced A) (now : At) (work : Traced A) (old : At) : Type 0 where
  pub ends : (r : Result A StepFault) (end : At) → ChargedAt rest now r end → ChargedAt work old r end

-- the notes of a log
abbrev pub marks_of : ElimLog → List Mark
marks_of log = map entry log.entries

-- the same of a call that answers with its log: the notes of the work, as far as it came
abbrev pub Logged : {A : Type 0} → Traced A → Funds → Result (A × ElimLog) ElimFault → Funds → Type 0
Logged work old (Ok r) new = ChargedAt work (at old []) (Ok (r.0)) (at new (marks_of (r.1)))
Logged work old (Err (Steps log)) new = ChargedAt work (at old []) (Err step_fault.Steps) (at new (marks_of log))
Logged work old (Err (Overflow log p)) new = ChargedAt work (at old []) (Err (step_fault.Overflow p)) (at new (marks_of log))
Logged work old (Err Memory) new = (ms : List Mark) × ChargedAt work (at old []) (Err step_fault.Memory) (at new ms)

-- the refusal of a call on terms, as one of a charged call
abbrev pub step_fault_of : TermFault → StepFault
step_fault_of (term_fault.Overflow p) = step_fault.Overflow p
step_fault_of term_fault.Memory = step_fault.Memory
