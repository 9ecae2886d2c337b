-- How the cut of a list of events is that of its parts.
use Rattle.std.proofs.Common.{◌≡◌, ◌+◌, true, false, cond, nat_le, List, [], ◌∷◌, ◌++◌, refl, ◌∙◌, ap, append_assoc}
use Rattle.linear_term.specs.declared.range.Place.{Place}
use Rattle.linear_term.specs.Range.{all_stay}
use Rattle.base_budget.specs.Trace.{Mark, Event, charge, raw, mark, At, at, after_charge, after_mark, End, done, refused, out_of_range, capped, cut, stand}

-- the events ys after an end
abbrev pub resume : End → List Event → End
resume (done a) ys = cut ys a
resume (refused a) ys = refused a
resume (out_of_range ps a) ys = out_of_range ps a

pub cut-append : (xs ys : List Event) (a : At) → cut (xs ++ ys) a ≡ resume (cut xs a) ys
unfolding cut
cut-append [] ys a = refl
cut-append (charge n ∷ xs) ys a =
    elim (nat_le (a.funds.spent + capped n) a.funds.budget) as (λ b. cond b (cut (xs ++ ys) (after_charge n a)) (refused a) ≡ resume (cond b (cut xs (after_charge n a)) (refused a)) ys)
    [ true ↦ cut-append xs ys (after_charge n a) | false ↦ refl ]
cut-append (raw ps ∷ xs) ys a =
    elim (all_stay ps) as (λ b. cond b (cut (xs ++ ys) a) (out_of_range ps a) ≡ resume (cond b (cut xs a) (out_of_range ps a)) ys)
    [ true ↦ cut-append xs ys a | false ↦ refl ]
cut-append (mark m ∷ xs) ys a = cut-append xs ys (after_mark m a)

-- what comes after events that all happened
pub cut_after : (xs ys : List Event) (a : At) {b : At} → cut xs a ≡ done b → cut (xs ++ ys) a ≡ cut ys b
cut_after xs ys a e = cut-append xs ys a ∙ ap (λ z. resume z ys) e

-- nothing comes after a refused charge
pub cut_refused : (xs ys : List Event) (a : At) {b : At} → cut xs a ≡ refused b → cut (xs ++ ys) a ≡ refused b
cut_refused xs ys a e = cut-append xs ys a ∙ ap (λ z. resume z ys) e

-- nor after a raw number that left the range
pub cut_left : (xs ys : List Event) (a : At) {b : At} {ps : List Place} → cut xs a ≡ out_of_range ps b → cut (xs ++ ys) a ≡ out_of_range ps b
cut_left xs ys a e = cut-append xs ys a ∙ ap (λ z. resume z ys) e

-- the place, with the notes ms before its own
abbrev pub behind : List Mark → At → At
behind ms a = at a.funds (ms ++ a.marks)

abbrev pub end_behind : List Mark → End → End
end_behind ms (done a) = done (behind ms a)
end_behind ms (refused a) = refused (behind ms a)
end_behind ms (out_of_range ps a) = out_of_range ps (behind ms a)

-- notes left before change no end
pub cut-behind : (ms : List Mark) (es : List Event) (a : At) → cut es (behind ms a) ≡ end_behind ms (cut es a)
unfolding cut
cut-behind ms [] a = refl
cut-behind ms (charge n ∷ es) a =
    elim (nat_le (a.funds.spent + capped n) a.funds.budget) as (λ b. cond b (cut es (after_charge n (behind ms a))) (refused (behind ms a)) ≡ end_behind ms (cond b (cut es (after_charge n a)) (refused a)))
    [ true ↦ cut-behind ms es (after_charge n a) | false ↦ refl ]
cut-behind ms (raw ps ∷ es) a =
    elim (all_stay ps) as (λ b. cond b (cut es (behind ms a)) (out_of_range ps (behind ms a)) ≡ end_behind ms (cond b (cut es a) (out_of_range ps a)))
    [ true ↦ cut-behind ms es a | false ↦ refl ]
cut-behind ms (mark m ∷ es) a =
    ap (λ ks. cut es (at a.funds ks)) (append_assoc ms a.marks (m ∷ [])) ∙ cut-behind ms es (after_mark m a)

pub stand-behind : (ms : List Mark) (e : End) → stand (end_behind ms e) ≡ behind ms (stand e)
stand-behind ms (done a) = refl
stand-behind ms (refused a) = refl
stand-behind ms (out_of_range ps a) = refl
