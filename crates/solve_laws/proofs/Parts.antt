-- Raw numbers of two parts of work.
use Rattle.std.proofs.Common.{◌≡◌, Bool, true, false, ◌&&◌, List, [], ◌∷◌, ◌++◌, refl, ◌∙◌, ap}
use Rattle.linear_term.specs.Range.{all_stay}
use Rattle.base_budget.specs.Runs.{raw_stay}
use Rattle.base_budget.specs.Trace.{Event, charge, raw, mark}

pub both_true : (a b : Bool) → (a && b) ≡ true → (a ≡ true) × (b ≡ true)
both_true true b h = (refl, h)
both_true false b h = absurd (cc)

pub stay_parts : (xs ys : List Event) → raw_stay (xs ++ ys) ≡ true → (raw_stay xs ≡ true) × (raw_stay ys ≡ true)
stay_parts [] ys h = (refl, h)
stay_parts (charge n ∷ xs) ys h = stay_parts xs ys h
stay_parts (mark m ∷ xs) ys h = stay_parts xs ys h
stay_parts (raw ps ∷ xs) ys h =
    let b = both_true (all_stay ps) (raw_stay (xs ++ ys)) h in
    let r = stay_parts xs ys b.1 in
    (ap (λ z. z && raw_stay xs) b.0 ∙ r.0, r.1)
