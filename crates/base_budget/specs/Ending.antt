-- How work ends under a budget and the range: an end with the value of the work.
use Rattle.std.specs.Prelude.{◌≡◌, List}
use Rattle.linear_term.specs.declared.range.Place.{Place}
use Rattle.base_budget.specs.Trace.{At, End, Traced, cut, done, out_of_range, refused}

-- how work ends: with its value, at a charge that was refused, or at raw numbers one of which left the range
pub data Ending (A : Type 0) : Type 0 where
  ends_with : A → At → Ending A
  out_of_steps : At → Ending A
  overflows : List Place → At → Ending A

abbrev pub ended : {A : Type 0} → A → End → Ending A
ended v (done a) = ends_with v a
ended v (refused a) = out_of_steps a
ended v (out_of_range ps a) = overflows ps a

-- how the work ends that starts at a
abbrev pub ending : {A : Type 0} → Traced A → At → Ending A
ending work a = ended work.value (cut work.events a)

-- an end that is so: with a value, by the budget, by the range
abbrev pub IsMade : {A : Type 0} → Ending A → Type 0
IsMade {A = A} end = (v : A) × (stands : At) × (end ≡ ends_with v stands)

abbrev pub IsOutOfSteps : {A : Type 0} → Ending A → Type 0
IsOutOfSteps end = (stands : At) × (end ≡ out_of_steps stands)

abbrev pub IsOutOfRange : {A : Type 0} → Ending A → Type 0
IsOutOfRange end = (numbers : List Place) × (stands : At) × (end ≡ overflows numbers stands)
