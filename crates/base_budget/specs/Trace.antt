-- Mathematics with a trace: a value with the events of its computation, and the cut of the events by a budget and the range.
use Rattle.std.specs.Prelude.{ℕ, ℤ, ◌+◌, ◌-◌, ◌^◌, cond, nat_le, min, List, [], ◌∷◌, ◌++◌}
use Rattle.linear_term.specs.declared.range.Place.{Place}
use Rattle.linear_term.specs.Linear.{Linear}
use Rattle.linear_term.specs.Combination.{combination, raw_numbers}
use Rattle.linear_term.specs.Range.{all_stay}
use Rattle.base_budget.specs.declared.log.Entry.{Entry}

-- what contracts see of a purse
pub record Funds : Type 0 where
  pub budget : ℕ
  pub spent : ℕ

-- a note that a run leaves: an entry of the log in progress; a new log begins; the round with this limit begins; the node
-- with this number is entered; the run is back at the node with this number
pub data Mark : Type 0 where
  entry : Entry → Mark
  new_log : Mark
  round : ℕ → Mark
  enter : ℕ → Mark
  back : ℕ → Mark

-- what happens in a run: n steps are charged, raw numbers are computed, a note is left
pub data Event : Type 0 where
  charge : ℕ → Event
  raw : List Place → Event
  mark : Mark → Event

-- n, made as the greatest u64 where it is above that
abbrev pub capped : ℕ → ℕ
capped n = min n (2 ^ 64 - 1)

-- where a run stands: what is spent, and the notes so far
pub record At : Type 0 where
  pub funds : Funds
  pub marks : List Mark

abbrev pub at : Funds → List Mark → At
at f ms = record { funds = f; marks = ms }

abbrev pub after_charge : ℕ → At → At
after_charge n a = record { funds = record { budget = a.funds.budget; spent = a.funds.spent + capped n }; marks = a.marks }

abbrev pub after_mark : Mark → At → At
after_mark m a = record { funds = a.funds; marks = a.marks ++ m ∷ [] }

-- how a list of events ends: all happened, a charge was refused, or one of these raw numbers left the range
pub data End : Type 0 where
  done : At → End
  refused : At → End
  out_of_range : List Place → At → End

-- the events happen in their order, up to the first charge that passes the budget or the first raw number that leaves the range
unfoldable pub cut : List Event → At → End
cut [] a = done a
cut (charge n ∷ es) a = cond (nat_le (a.funds.spent + capped n) a.funds.budget) (cut es (after_charge n a)) (refused a)
cut (raw ps ∷ es) a = cond (all_stay ps) (cut es a) (out_of_range ps a)
cut (mark m ∷ es) a = cut es (after_mark m a)

-- where the run stands at its end
abbrev pub stand : End → At
stand (done a) = a
stand (refused a) = a
stand (out_of_range ps a) = a

-- a value, with the events of its computation in their order
pub record Traced (A : Type 0) : Type 0 where
  pub value : A
  pub events : List Event

-- x, with no event
unfoldable pub just : {A : Type 0} → A → Traced A
just x = record { value = x; events = [] }

-- x, after one event
unfoldable pub step : {A : Type 0} → Event → A → Traced A
step e x = record { value = x; events = e ∷ [] }

-- first m, then f of its value
unfoldable pub next : {A B : Type 0} → Traced A → (A → Traced B) → Traced B
next m f = record { value = (f m.value).value; events = m.events ++ (f m.value).events }

-- n steps are charged
abbrev pub pay : ℕ → Traced (Unit {0})
pay n = step (charge n) tt

-- raw numbers are computed
abbrev pub compute : List Place → Traced (Unit {0})
compute ps = step (raw ps) tt

-- the term m·s + n·t, after its raw numbers
abbrev pub combining : ℤ → Linear → ℤ → Linear → Traced Linear
combining m s n t = step (raw (raw_numbers m s n t)) (combination m s n t)

-- a note is left
abbrev pub note : Mark → Traced (Unit {0})
note m = step (mark m) tt

-- f of each element in turn, the results one after the other, after those in out
abbrev pub each : {C D : Type 0} → (C → Traced (List D)) → List C → List D → Traced (List D)
each f [] out = just out
each f (c ∷ cs) out = next (f c) (λ ds. each f cs (out ++ ds))
