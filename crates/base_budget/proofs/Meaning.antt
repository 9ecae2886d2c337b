-- The cut of a run, in words of sums and first times.
use Rattle.std.proofs.Common.{◌≡◌, ℕ, ◌+◌, ◌<◌, ◌≤◌, true, false, nat_le, List, [], ◌∷◌, ◌++◌, refl, sym, ◌∙◌, ap, subst, append_assoc, arith}
use Rattle.std.proofs.lemmas.List.{append-nil}
use Rattle.std.proofs.lemmas.Bool.{le-leb, lt-leb, leb-true, leb-false, cond-true, cond-false, cond_both}
use Rattle.std.specs.Cmp.{first_so, second_so}
use Rattle.linear_term.specs.declared.range.Place.{Place}
use Rattle.linear_term.specs.Range.{all_stay}
use Rattle.base_budget.specs.Trace.{Event, charge, raw, mark, At, after_charge, after_mark, End, done, refused, out_of_range, capped, cut}
use Rattle.base_budget.specs.Runs.{total, raw_stay, RunsThrough, Stops, StopsAt, PassesWhereRuns, RefusedWherePasses, LeftWhereLeaves, StopsOnce}
use Rattle.base_budget.proofs.Cutting.{cut_after}

-- where a run stands after an event that does not stop it
abbrev pub after_event : Event → At → At
after_event (charge n) a = after_charge n a
after_event (raw ps) a = a
after_event (mark m) a = after_mark m a

-- the event does not stop the run
abbrev pub Goes : Event → At → Type 0
Goes (charge n) a = a.funds.spent + capped n ≤ a.funds.budget
Goes (raw ps) a = all_stay ps ≡ true
Goes (mark m) a = Unit {0}

cut_goes : (e : Event) (es : List Event) (a : At) → Goes e a → cut (e ∷ es) a ≡ cut es (after_event e a)
unfolding cut
cut_goes (charge n) es a h = cond-true _ _ _ (le-leb _ _ h)
cut_goes (raw ps) es a h = cond-true _ _ _ h
cut_goes (mark m) es a h = refl

-- how an end is said in words
abbrev pub Ends : List Event → At → End → Type 0
Ends es a (done b) = RunsThrough es a b
Ends es a (refused b) = (before : List Event) × (n : ℕ) × StopsAt es a before (charge n) b
Ends es a (out_of_range ps b) = (before : List Event) × StopsAt es a before (raw ps) b

runs_none : (a : At) → a.funds.spent ≤ a.funds.budget → RunsThrough [] a a
runs_none a h = record { within = omega arith; stay = refl; stands = let s : a.funds.spent + 0 ≡ a.funds.spent = omega arith in rw (s, append-nil) refl }

runs_more : (e : Event) (es : List Event) (a b : At) → Goes e a → RunsThrough es (after_event e a) b → RunsThrough (e ∷ es) a b
runs_more (charge n) es a b h r = record { within = omega (arith, r.within); stay = r.stay; stands = let s : a.funds.spent + (capped n + total es) ≡ a.funds.spent + capped n + total es = omega arith in rw s r.stands }
runs_more (raw ps) es a b h r = record { within = r.within; stay = rw h r.stay; stands = r.stands }
runs_more (mark m) es a b h r = record { within = r.within; stay = r.stay; stands = rw append_assoc at r.stands }

stops_later : (e f : Event) (es before : List Event) (a b : At) → Goes e a → StopsAt es (after_event e a) before f b → StopsAt (e ∷ es) a (e ∷ before) f b
stops_later e f es before a b h s = record { after = s.after; whole = ap (λ z. e ∷ z) s.whole; runs = runs_more e before a b h s.runs; stops = s.stops }

ends_more : (e : Event) (es : List Event) (a : At) → Goes e a → (z : End) → Ends es (after_event e a) z → Ends (e ∷ es) a z
ends_more e es a h (done b) r = runs_more e es a b h r
ends_more e es a h (refused b) r = (e ∷ r.0, r.1, stops_later e (charge r.1) es r.0 a b h r.2)
ends_more e es a h (out_of_range ps b) r = (e ∷ r.0, stops_later e (raw ps) es r.0 a b h r.1)

stops_first : (e : Event) (es : List Event) (a : At) → a.funds.spent ≤ a.funds.budget → Stops e a → StopsAt (e ∷ es) a [] e a
stops_first e es a h s = record { after = es; whole = refl; runs = runs_none a h; stops = s }

-- each end is said by it
pub ends : (es : List Event) (a : At) → a.funds.spent ≤ a.funds.budget → Ends es a (cut es a)
unfolding cut
ends [] a h = runs_none a h
ends (charge n ∷ es) a h =
    cond_both (nat_le (a.funds.spent + capped n) a.funds.budget) _ _ (Ends (charge n ∷ es) a)
    (λ t. ends_more (charge n) es a (leb-true _ _ t) (cut es (after_charge n a)) (ends es (after_charge n a) (leb-true _ _ t)))
    (λ f. ([], n, stops_first (charge n) es a h (leb-false _ _ f)))
ends (raw ps ∷ es) a h =
    cond_both (all_stay ps) _ _ (Ends (raw ps ∷ es) a)
    (λ t. ends_more (raw ps) es a t (cut es a) (ends es a h))
    (λ f. ([], stops_first (raw ps) es a h f))
ends (mark m ∷ es) a h = ends_more (mark m) es a tt (cut es (after_mark m a)) (ends es (after_mark m a) h)

runs_goes : (e : Event) (es : List Event) (a b : At) → RunsThrough (e ∷ es) a b → Goes e a
runs_goes (charge n) es a b r = omega (arith, r.within)
runs_goes (raw ps) es a b r = first_so (all_stay ps) (raw_stay es) r.stay
runs_goes (mark m) es a b r = tt

runs_rest : (e : Event) (es : List Event) (a b : At) → RunsThrough (e ∷ es) a b → RunsThrough es (after_event e a) b
runs_rest (charge n) es a b r = record { within = omega (arith, r.within); stay = r.stay; stands = let s : a.funds.spent + (capped n + total es) ≡ a.funds.spent + capped n + total es = omega arith in rw s at r.stands }
runs_rest (raw ps) es a b r = record { within = r.within; stay = second_so (all_stay ps) (raw_stay es) r.stay; stands = r.stands }
runs_rest (mark m) es a b r = record { within = r.within; stay = r.stay; stands = rw append_assoc r.stands }

-- what runs through is not cut
pub cut_runs : (es : List Event) (a b : At) → RunsThrough es a b → cut es a ≡ done b
unfolding cut
cut_runs [] a b r = ap done (let s : a.funds.spent + 0 ≡ a.funds.spent = omega arith in sym (rw (s, append-nil) at r.stands))
cut_runs (e ∷ es) a b r = cut_goes e es a (runs_goes e es a b r) ∙ cut_runs es (after_event e a) b (runs_rest e es a b r)

-- what stops a run stops it there
cut_stops : (e : Event) (es : List Event) (a b : At) (before : List Event) → (s : StopsAt es a before e b) → cut es a ≡ cut (e ∷ s.after) b
cut_stops e es a b before s =
    ap (λ z. cut z a) s.whole ∙ cut_after before (e ∷ s.after) a (cut_runs before a b s.runs)

cut_refuses : (n : ℕ) (es : List Event) (a : At) → a.funds.budget < a.funds.spent + capped n → cut (charge n ∷ es) a ≡ refused a
unfolding cut
cut_refuses n es a h = cond-false _ _ _ (lt-leb _ _ h)

cut_leaves : (ps : List Place) (es : List Event) (a : At) → all_stay ps ≡ false → cut (raw ps ∷ es) a ≡ out_of_range ps a
unfolding cut
cut_leaves ps es a h = cond-false _ _ _ h

pub passes_where_runs : PassesWhereRuns
passes_where_runs es a b h = (λ e. subst (Ends es a) e (ends es a h), λ r. cut_runs es a b r)

pub refused_where_passes : RefusedWherePasses
refused_where_passes es a b h = (
  λ e. let r = subst (Ends es a) e (ends es a h) in (r.0, r.1, r.2),
  λ r. cut_stops (charge r.1) es a b r.0 r.2 ∙ cut_refuses r.1 r.2.after b r.2.stops,
)

pub left_where_leaves : LeftWhereLeaves
left_where_leaves es a b ps h = (
  λ e. subst (Ends es a) e (ends es a h),
  λ r. cut_stops (raw ps) es a b r.0 r.1 ∙ cut_leaves ps r.1.after b r.1.stops,
)

-- an event that stops the run is not passed
stops_here : (e : Event) (es : List Event) (a b : At) → Stops e a → RunsThrough (e ∷ es) a b → ⊥
stops_here (charge n) es a b s r = let g : a.funds.spent + capped n ≤ a.funds.budget = runs_goes (charge n) es a b r in omega arith
stops_here (raw ps) es a b s r = let g : all_stay ps ≡ true = runs_goes (raw ps) es a b r in cc
stops_here (mark m) es a b s r = s

runs_once : (es : List Event) (a b c : At) → RunsThrough es a b → RunsThrough es a c → b ≡ c
runs_once es a b c r s = r.stands ∙ sym s.stands

starts : (a b : At) → RunsThrough [] a b → b ≡ a
starts a b r = let s : a.funds.spent + 0 ≡ a.funds.spent = omega arith in rw (s, append-nil) at r.stands

once : (old : At) (b1 b2 : List Event) (e1 e2 : Event) (a1 a2 : List Event) (n1 n2 : At) → b1 ++ e1 ∷ a1 ≡ b2 ++ e2 ∷ a2
    → RunsThrough b1 old n1 → RunsThrough b2 old n2 → Stops e1 n1 → Stops e2 n2 → (b1 ≡ b2) × (e1 ≡ e2) × (n1 ≡ n2)
once old [] [] e1 e2 a1 a2 n1 n2 same r1 r2 s1 s2 = (refl, (cc), runs_once [] old n1 n2 r1 r2)
once old [] (f ∷ b2) e1 e2 a1 a2 n1 n2 same r1 r2 s1 s2 =
    let is : e1 ≡ f = cc in
    absurd (stops_here f b2 old n2 (subst (λ e. Stops e old) is (subst (Stops e1) (starts old n1 r1) s1)) r2)
once old (f ∷ b1) [] e1 e2 a1 a2 n1 n2 same r1 r2 s1 s2 =
    let is : e2 ≡ f = cc in
    absurd (stops_here f b1 old n1 (subst (λ e. Stops e old) is (subst (Stops e2) (starts old n2 r2) s2)) r1)
once old (f ∷ b1) (g ∷ b2) e1 e2 a1 a2 n1 n2 same r1 r2 s1 s2 =
    let is : g ≡ f = cc in
    let tail : b1 ++ e1 ∷ a1 ≡ b2 ++ e2 ∷ a2 = cc in
    let r : RunsThrough b2 (after_event f old) n2 = runs_rest f b2 old n2 (subst (λ e. RunsThrough (e ∷ b2) old n2) is r2) in
    let deep = once (after_event f old) b1 b2 e1 e2 a1 a2 n1 n2 tail (runs_rest f b1 old n1 r1) r s1 s2 in
    (let b : b1 ≡ b2 = deep.0 in cc, deep.1, deep.2)

pub stops_once : StopsOnce
stops_once es old b1 b2 e1 e2 n1 n2 s t = once old b1 b2 e1 e2 s.after t.after n1 n2 (sym s.whole ∙ t.whole) s.runs t.runs s.stops t.stops
