-- A run only goes on, and a summary holds the notes as far as the run came.
use Rattle.std.proofs.Common.{◌≡◌, ℕ, ◌+◌, ◌≤◌, false, List, [], refl, ◌∙◌, ap, subst, arith, Contains, Result, Ok, Err}
use Rattle.linear_term.specs.declared.range.Place.{Place}
use Rattle.linear_term.specs.Range.{stays}
use Rattle.base_budget.specs.declared.fault.StepFault.{StepFault}
use Rattle.base_budget.specs.declared.fault.StepFault.TheVariants.{Steps, Overflow, Memory}
use Rattle.base_budget.specs.Trace.{Funds, Mark, Event, charge, raw, At, at, End, done, refused, out_of_range, cut, stand, Traced}
use Rattle.base_budget.specs.Runs.{notes, total, RunsThrough, StopsAt}
use Rattle.base_budget.specs.Work.{ChargedAt}
use Rattle.base_budget.specs.Followed.{after_notes, Followed, Later}
use Rattle.base_budget.proofs.Meaning.{Ends, ends, passes_where_runs, refused_where_passes, left_where_leaves}

runs_later : (es : List Event) (a b : At) → RunsThrough es a b → Later a.funds b.funds
runs_later es a b r =
    let s : b.funds.spent ≡ a.funds.spent + total es = ap (λ z. z.funds.spent) r.stands in
    let u : b.funds.budget ≡ a.funds.budget = ap (λ z. z.funds.budget) r.stands in
    let w : a.funds.spent + total es ≤ a.funds.budget = r.within in
    record { budget = u; spent = omega arith; within = omega arith }

end_later : (es : List Event) (a : At) (e : End) → Ends es a e → Later a.funds (stand e).funds
end_later es a (done b) h = runs_later es a b h
end_later es a (refused b) h = runs_later h.0 a b h.2.runs
end_later es a (out_of_range ps b) h = runs_later h.0 a b h.1.runs

cut_later : (es : List Event) (a : At) → a.funds.spent ≤ a.funds.budget → Later a.funds (stand (cut es a)).funds
cut_later es a h = end_later es a (cut es a) (ends es a h)

-- a charged call only goes on
pub charged_later : {A : Type 0} {work : Traced A} {a b : At} (r : Result A StepFault) → a.funds.spent ≤ a.funds.budget → ChargedAt work a r b → Later a.funds b.funds
charged_later {work = work} {a} {b} (Ok v) h c = subst (λ (e : End). Later a.funds (stand e).funds) (c.ok v refl).1.end (cut_later work.events a h)
charged_later {work = work} {a} {b} (Err Steps) h c = subst (λ (e : End). Later a.funds (stand e).funds) (c.steps refl).end (cut_later work.events a h)
charged_later {work = work} {a} {b} (Err (Overflow p)) h c = subst (λ (e : End). Later a.funds (stand e).funds) (c.overflow p refl).end (cut_later work.events a h)
charged_later {work = work} {a} {b} (Err Memory) h c = let r = c.memory refl in subst (λ (z : At). Later a.funds z.funds) r.stands (cut_later r.before a h)

pub followed_later : {A S : Type 0} {add : S → Mark → S} {work : Traced A} {a b : Funds} {s t : S} (r : Result A StepFault) → a.spent ≤ a.budget → Followed add work a s r b t → Later a b
followed_later r h f = charged_later r h f.charged

-- the notes of what ran through
runs_notes : (es : List Event) (f g : Funds) (ms : List Mark) → RunsThrough es (at f []) (at g ms) → ms ≡ notes es
runs_notes es f g ms r = ap (λ z. z.marks) r.stands

-- a call that answered did all the work, and has its notes
pub followed_whole : {A S : Type 0} (add : S → Mark → S) (work : Traced A) (a b : Funds) (s t : S) (v : A) → a.spent ≤ a.budget → Followed add work a s (Ok v) b t
    → (v ≡ work.value) × RunsThrough work.events (at a []) (at b (notes work.events)) × (t ≡ after_notes add s (notes work.events))
followed_whole add work a b s t v h f =
    let is = f.charged.ok v refl in
    let runs = (passes_where_runs work.events (at a []) (at b f.notes) h).0 is.1.end in
    let all : f.notes ≡ notes work.events = runs_notes work.events a b f.notes runs in
    (is.0, subst (λ ms. RunsThrough work.events (at a []) (at b ms)) all runs, f.kept ∙ ap (after_notes add s) all)

-- a call that was refused a charge did the work before that charge, and has the notes of this part
pub followed_refused : {A S : Type 0} (add : S → Mark → S) (work : Traced A) (a b : Funds) (s t : S) → a.spent ≤ a.budget → Followed add work a s (Err Steps) b t
    → (before : List Event) × (n : ℕ) × StopsAt work.events (at a []) before (charge n) (at b (notes before)) × (t ≡ after_notes add s (notes before))
followed_refused add work a b s t h f =
    let is = (refused_where_passes work.events (at a []) (at b f.notes) h).0 (f.charged.steps refl).end in
    let part : f.notes ≡ notes is.0 = runs_notes is.0 a b f.notes is.2.runs in
    (is.0, is.1, subst (λ ms. StopsAt work.events (at a []) is.0 (charge is.1) (at b ms)) part is.2, f.kept ∙ ap (after_notes add s) part)

-- one that left the range did the work before those raw numbers
pub followed_left : {A S : Type 0} (add : S → Mark → S) (work : Traced A) (a b : Funds) (s t : S) (p : Place) → a.spent ≤ a.budget → Followed add work a s (Err (Overflow p)) b t
    → (before : List Event) × (ps : List Place) × StopsAt work.events (at a []) before (raw ps) (at b (notes before)) × Contains ps p × (stays p ≡ false) × (t ≡ after_notes add s (notes before))
followed_left add work a b s t p h f =
    let l = f.charged.overflow p refl in
    let is = (left_where_leaves work.events (at a []) (at b f.notes) l.numbers h).0 l.end in
    let part : f.notes ≡ notes is.0 = runs_notes is.0 a b f.notes is.1.runs in
    (is.0, l.numbers, subst (λ ms. StopsAt work.events (at a []) is.0 (raw l.numbers) (at b ms)) part is.1, l.among, l.leaves, f.kept ∙ ap (after_notes add s) part)
