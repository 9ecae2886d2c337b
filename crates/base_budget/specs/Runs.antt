-- Where the budget and the range cut a run, in words of sums and first times.
use Rattle.std.specs.Prelude.{◌≡◌, ℕ, ◌+◌, ◌<◌, ◌≤◌, ◌↔◌, Bool, true, false, ◌&&◌, List, [], ◌∷◌, ◌++◌}
use Rattle.linear_term.specs.declared.range.Place.{Place}
use Rattle.linear_term.specs.Range.{all_stay}
use Rattle.base_budget.specs.Trace.{Mark, Event, charge, raw, mark, At, at, done, refused, out_of_range, capped, cut}

-- the steps that the events charge
abbrev pub total : List Event → ℕ
total [] = 0
total (charge n ∷ es) = capped n + total es
total (raw ps ∷ es) = total es
total (mark m ∷ es) = total es

-- the notes that they leave
abbrev pub notes : List Event → List Mark
notes [] = []
notes (charge n ∷ es) = notes es
notes (raw ps ∷ es) = notes es
notes (mark m ∷ es) = m ∷ notes es

-- whether all their raw numbers stay in the range
abbrev pub raw_stay : List Event → Bool
raw_stay [] = true
raw_stay (charge n ∷ es) = raw_stay es
raw_stay (raw ps ∷ es) = all_stay ps && raw_stay es
raw_stay (mark m ∷ es) = raw_stay es

-- all charges together are within the budget, and all raw numbers stay in the range
pub record RunsThrough (es : List Event) (old new : At) : Type 0 where
  pub within : old.funds.spent + total es ≤ old.funds.budget
  pub stay : raw_stay es ≡ true
  pub stands : new ≡ at (record { budget = old.funds.budget; spent = old.funds.spent + total es }) (old.marks ++ notes es)

-- the event passes the budget, or leaves the range
abbrev pub Stops : Event → At → Type 0
Stops (charge n) a = a.funds.budget < a.funds.spent + capped n
Stops (raw ps) a = all_stay ps ≡ false
Stops (mark m) a = ⊥

-- the events before e run through to new, and e stops there
pub record StopsAt (es : List Event) (old : At) (before : List Event) (e : Event) (new : At) : Type 0 where
  pub after : List Event
  pub whole : es ≡ before ++ e ∷ after
  pub runs : RunsThrough before old new
  pub stops : Stops e new

-- the run ends with all events exactly where they run through
abbrev pub PassesWhereRuns : Type 0
PassesWhereRuns = (es : List Event) (old new : At) → old.funds.spent ≤ old.funds.budget → (cut es old ≡ done new) ↔ RunsThrough es old new

-- it is refused exactly at the first charge that, added to all charges before, passes the budget
abbrev pub RefusedWherePasses : Type 0
RefusedWherePasses = (es : List Event) (old new : At) → old.funds.spent ≤ old.funds.budget
    → (cut es old ≡ refused new) ↔ ((before : List Event) × (n : ℕ) × StopsAt es old before (charge n) new)

-- it leaves the range exactly at the first raw numbers one of which leaves it, where no charge before passes the budget
abbrev pub LeftWhereLeaves : Type 0
LeftWhereLeaves = (es : List Event) (old new : At) (ps : List Place) → old.funds.spent ≤ old.funds.budget
    → (cut es old ≡ out_of_range ps new) ↔ ((before : List Event) × StopsAt es old before (raw ps) new)

-- a run stops at one event alone
abbrev pub StopsOnce : Type 0
StopsOnce = (es : List Event) (old : At) (b1 b2 : List Event) (e1 e2 : Event) (n1 n2 : At) → StopsAt es old b1 e1 n1 → StopsAt es old b2 e2 n2
    → (b1 ≡ b2) × (e1 ≡ e2) × (n1 ≡ n2)
