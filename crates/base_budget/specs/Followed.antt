-- What a caller keeps of the notes of a run: a summary, to which each note adds.
use Rattle.std.specs.Prelude.{◌≡◌, ◌≤◌, List, [], ◌∷◌, Result, Ok, Err}
use Rattle.base_budget.specs.declared.fault.StepFault.{StepFault}
use Rattle.base_budget.specs.declared.fault.StepFault.TheVariants.{Steps, Overflow, Memory}
use Rattle.base_budget.specs.Trace.{Funds, Mark, at, Traced}
use Rattle.base_budget.specs.Work.{ChargedAt}

-- the summary s after the notes ms
abbrev pub after_notes : {S : Type 0} → (S → Mark → S) → S → List Mark → S
after_notes add s [] = s
after_notes add s (m ∷ ms) = after_notes add (add s m) ms

-- p, unless memory runs out
abbrev pub UnlessMemory : {A : Type 0} → Result A StepFault → Type 0 → Type 0
UnlessMemory (Ok v) p = p
UnlessMemory (Err Steps) p = p
UnlessMemory (Err (Overflow q)) p = p
UnlessMemory (Err Memory) p = Unit {0}

-- the call did the work as far as its result says, and its summary s became t by the notes of that part; where memory was
-- wanting, t may be anything
pub record Followed {A S : Type 0} (add : S → Mark → S) (work : Traced A) (old : Funds) (s : S) (result : Result A StepFault) (new : Funds) (t : S) : Type 0 where
  pub notes : List Mark
  pub charged : ChargedAt work (at old []) result (at new notes)
  pub kept : UnlessMemory result (t ≡ after_notes add s notes)

-- a run has gone on from a to b: the budget is the same, and what is spent has not fallen, and is within it
pub record Later (a b : Funds) : Type 0 where
  pub budget : b.budget ≡ a.budget
  pub spent : a.spent ≤ b.spent
  pub within : b.spent ≤ b.budget
