-- The log in progress: what an elimination adds to it, and how solving begins it anew.
use Rattle.std.proofs.Common.{◌≡◌, ◌+◌, Bool, true, false, cond, nat_le, List, [], ◌∷◌, ◌++◌, map, Result, Ok, Err, refl, sym, ◌∙◌, ap, subst, append_assoc}
use Rattle.std.proofs.lemmas.List.{append-nil}
use Rattle.linear_term.specs.declared.range.Place.{Place}
use Rattle.linear_term.specs.Range.{all_stay}
use Rattle.elim_laws.specs.Logs.{entries_of}
use Rattle.base_budget.specs.declared.fault.StepFault.{StepFault}
use Rattle.base_budget.specs.declared.fault.StepFault.TheVariants.{Steps, Overflow, Memory}
use Rattle.base_budget.specs.declared.log.Entry.{Entry}
use Rattle.base_budget.specs.Runs.{notes}
use Rattle.base_budget.specs.Trace.{Funds, Mark, entry, Event, charge, raw, mark, after_charge, after_mark, capped, At, at, End, done, refused, out_of_range, cut, stand, Traced}
use Rattle.base_budget.specs.Work.{ChargedAt, Leaves}
use Rattle.base_budget.specs.Followed.{after_notes, UnlessMemory, Followed}
use Rattle.base_budget.proofs.Cutting.{behind, end_behind, cut-behind, stand-behind}
use Rattle.parameter_solver.specs.Logs.{in_log}

-- ---- notes after others
-- the same work where nothing was noted before; ns is what it notes
record Stripped {A : Type 0} (work : Traced A) (f g : Funds) (ms ks : List Mark) (r : Result A StepFault) : Type 0 where
  notes : List Mark
  whole : ms ++ notes ≡ ks
  charged : ChargedAt work (at f []) r (at g notes)

behind_none : (ms : List Mark) (f : Funds) → behind ms (at f []) ≡ at f ms
behind_none ms f = ap (at f) (append-nil ms)

cut_from : (ms : List Mark) (es : List Event) (f : Funds) → cut es (at f ms) ≡ end_behind ms (cut es (at f []))
cut_from ms es f = ap (cut es) (sym (behind_none ms f)) ∙ cut-behind ms es (at f [])

-- where a run stands, without the notes before it
record Apart (g : Funds) (ms ks : List Mark) (b : At) : Type 0 where
  funds : b.funds ≡ g
  marks : ms ++ b.marks ≡ ks

apart_of : (g : Funds) (ms ks : List Mark) (b : At) → behind ms b ≡ at g ks → Apart g ms ks b
apart_of g ms ks b h = record { funds = ap (λ (a : At). a.funds) h; marks = ap (λ (a : At). a.marks) h }

there : (g : Funds) (ms ks : List Mark) (b : At) → Apart g ms ks b → b ≡ at g b.marks
there g ms ks b h = ap (λ f. at f b.marks) h.funds

strip_done : (ms ks : List Mark) (es : List Event) (f g : Funds) → cut es (at f ms) ≡ done (at g ks) → (ns : List Mark) × (ms ++ ns ≡ ks) × (cut es (at f []) ≡ done (at g ns))
strip_done ms ks es f g h = by (cut es (at f [])) (sym (cut_from ms es f) ∙ h)
  where
    by : (e : End) → end_behind ms e ≡ done (at g ks) → (ns : List Mark) × (ms ++ ns ≡ ks) × (e ≡ done (at g ns))
    by (done b) k = let same : behind ms b ≡ at g ks = cc in let a = apart_of g ms ks b same in (b.marks, a.marks, ap done (there g ms ks b a))
    by (refused b) k = absurd (cc)
    by (out_of_range ps b) k = absurd (cc)

strip_refused : (ms ks : List Mark) (es : List Event) (f g : Funds) → cut es (at f ms) ≡ refused (at g ks) → (ns : List Mark) × (ms ++ ns ≡ ks) × (cut es (at f []) ≡ refused (at g ns))
strip_refused ms ks es f g h = by (cut es (at f [])) (sym (cut_from ms es f) ∙ h)
  where
    by : (e : End) → end_behind ms e ≡ refused (at g ks) → (ns : List Mark) × (ms ++ ns ≡ ks) × (e ≡ refused (at g ns))
    by (done b) k = absurd (cc)
    by (refused b) k = let same : behind ms b ≡ at g ks = cc in let a = apart_of g ms ks b same in (b.marks, a.marks, ap refused (there g ms ks b a))
    by (out_of_range ps b) k = absurd (cc)

strip_left : (ms ks : List Mark) (es : List Event) (f g : Funds) (ps : List Place) → cut es (at f ms) ≡ out_of_range ps (at g ks) → (ns : List Mark) × (ms ++ ns ≡ ks) × (cut es (at f []) ≡ out_of_range ps (at g ns))
strip_left ms ks es f g ps h = by (cut es (at f [])) (sym (cut_from ms es f) ∙ h)
  where
    by : (e : End) → end_behind ms e ≡ out_of_range ps (at g ks) → (ns : List Mark) × (ms ++ ns ≡ ks) × (e ≡ out_of_range ps (at g ns))
    by (done b) k = absurd (cc)
    by (refused b) k = absurd (cc)
    by (out_of_range qs b) k =
        let same : behind ms b ≡ at g ks = cc in
        let numbers : qs ≡ ps = cc in
        let a = apart_of g ms ks b same in
        (b.marks, a.marks, ap (λ z. out_of_range z b) numbers ∙ ap (out_of_range ps) (there g ms ks b a))

stripped : {A : Type 0} (work : Traced A) (f g : Funds) (ms ks : List Mark) (r : Result A StepFault) → ChargedAt work (at f ms) r (at g ks) → Stripped work f g ms ks r
stripped work f g ms ks (Ok v) h =
    let k = h.ok v refl in
    let s = strip_done ms ks work.events f g k.1.end in
    record {
      notes = s.0;
      whole = s.1;
      charged = record { ok = λ u is. (let i : v ≡ u = cc in sym i ∙ k.0, record { end = s.2 }); steps = λ is. absurd cc; overflow = λ p is. absurd cc; memory = λ is. absurd cc };
    }
stripped work f g ms ks (Err Steps) h =
    let s = strip_refused ms ks work.events f g (h.steps refl).end in
    record {
      notes = s.0;
      whole = s.1;
      charged = record { ok = λ u is. absurd cc; steps = λ is. record { end = s.2 }; overflow = λ p is. absurd cc; memory = λ is. absurd cc };
    }
stripped work f g ms ks (Err (Overflow q)) h =
    let l = h.overflow q refl in
    let s = strip_left ms ks work.events f g l.numbers l.end in
    record {
      notes = s.0;
      whole = s.1;
      charged = record {
        ok = λ u is. absurd cc;
        steps = λ is. absurd cc;
        overflow = λ p is. let i : q ≡ p = cc in subst (Leaves work.events (at f []) (at g s.0)) i (record { numbers = l.numbers; end = s.2; among = l.among; leaves = l.leaves });
        memory = λ is. absurd cc;
      };
    }
stripped work f g ms ks (Err Memory) h =
    let l = h.memory refl in
    let e : End = cut l.before (at f []) in
    let same : behind ms (stand e) ≡ at g ks = sym (stand-behind ms e) ∙ ap stand (sym (cut_from ms l.before f)) ∙ l.stands in
    let a = apart_of g ms ks (stand e) same in
    record {
      notes = (stand e).marks;
      whole = a.marks;
      charged = record {
        ok = λ u is. absurd cc;
        steps = λ is. absurd cc;
        overflow = λ p is. absurd cc;
        memory = λ is. record { before = l.before; after = l.after; whole = l.whole; stands = there g ms ks (stand e) a };
      };
    }

-- ---- entries added to the log
added : (es ds : List Entry) → after_notes in_log es (map entry ds) ≡ es ++ ds
added es [] = sym (append-nil es)
added es (d ∷ ds) = added (es ++ d ∷ []) ds ∙ append_assoc es (d ∷ []) ds

unmapped : (pre es ds : List Entry) (ns : List Mark) → map entry es ++ ns ≡ map entry ds → after_notes in_log (pre ++ es) ns ≡ pre ++ ds
unmapped pre [] ds ns h = ap (λ z. after_notes in_log z ns) (append-nil pre) ∙ ap (after_notes in_log pre) h ∙ added pre ds
unmapped pre (e ∷ es) [] ns h = absurd (cc)
unmapped pre (e ∷ es) (d ∷ ds) ns h =
    let first : e ≡ d = cc in
    let rest : map entry es ++ ns ≡ map entry ds = cc in
    ap (λ z. after_notes in_log z ns) (sym (append_assoc pre (e ∷ []) es)) ∙ unmapped (pre ++ e ∷ []) es ds ns rest ∙ append_assoc pre (e ∷ []) ds ∙ ap (λ z. pre ++ z ∷ ds) first

always : {A P : Type 0} (r : Result A StepFault) → P → UnlessMemory r P
always (Ok v) h = h
always (Err Steps) h = h
always (Err (Overflow q)) h = h
always (Err Memory) h = tt

-- a call that adds entries to a log keeps it as the log in progress
pub follow_entries : {A : Type 0} (work : Traced A) (es ds : List Entry) (r : Result A StepFault) {f g : Funds} → ChargedAt work (at f (map entry es)) r (at g (map entry ds)) → Followed in_log work f es r g ds
follow_entries work es ds r {f} {g} h =
    let s = stripped work f g (map entry es) (map entry ds) r h in
    record { notes = s.notes; charged = s.charged; kept = always r (sym (unmapped [] es ds s.notes s.whole)) }

-- ---- which entries are added
-- where a run stands that was not cut: after its notes
cut_notes : (es : List Event) (a b : At) → cut es a ≡ done b → b.marks ≡ a.marks ++ notes es
unfolding cut
cut_notes [] a b h = let same : a ≡ b = cc in ap (λ (z : At). z.marks) (sym same) ∙ sym (append-nil a.marks)
cut_notes (charge n ∷ es) a b h = by (nat_le (a.funds.spent + capped n) a.funds.budget) (cut_notes es (after_charge n a) b) h
  where
    by : (t : Bool) → (cut es (after_charge n a) ≡ done b → b.marks ≡ a.marks ++ notes es) → cond t (cut es (after_charge n a)) (refused a) ≡ done b → b.marks ≡ a.marks ++ notes es
    by true f k = f k
    by false f k = absurd (cc)
cut_notes (raw ps ∷ es) a b h = by (all_stay ps) (cut_notes es a b) h
  where
    by : (t : Bool) → (cut es a ≡ done b → b.marks ≡ a.marks ++ notes es) → cond t (cut es a) (out_of_range ps a) ≡ done b → b.marks ≡ a.marks ++ notes es
    by true f k = f k
    by false f k = absurd (cc)
cut_notes (mark m ∷ es) a b h = cut_notes es (after_mark m a) b h ∙ append_assoc a.marks (m ∷ []) (notes es)

entries_noted : (es : List Event) (ds : List Entry) → notes es ≡ map entry ds → entries_of es ≡ ds
entries_noted [] [] h = refl
entries_noted [] (d ∷ ds) h = absurd (cc)
entries_noted (charge n ∷ es) ds h = entries_noted es ds h
entries_noted (raw ps ∷ es) ds h = entries_noted es ds h
entries_noted (mark m ∷ es) [] h = absurd (cc)
entries_noted (mark m ∷ es) (d ∷ ds) h =
    let first : m ≡ entry d = cc in
    let rest : notes es ≡ map entry ds = cc in
    ap (λ z. entries_of (mark z ∷ es)) first ∙ ap (λ z. d ∷ z) (entries_noted es ds rest)

behind_entries : (es ds : List Entry) (ns : List Mark) → map entry es ++ ns ≡ map entry ds → (cs : List Entry) × (ns ≡ map entry cs) × (ds ≡ es ++ cs)
behind_entries [] ds ns h = (ds, h, refl)
behind_entries (e ∷ es) [] ns h = absurd (cc)
behind_entries (e ∷ es) (d ∷ ds) ns h =
    let first : d ≡ e = cc in
    let rest : map entry es ++ ns ≡ map entry ds = cc in
    let k = behind_entries es ds ns rest in
    (k.0, k.1, ap (λ z. z ∷ ds) first ∙ ap (λ z. e ∷ z) k.2)

-- a call that answers has added the entries of its work to the log
pub entries_added : {A : Type 0} (work : Traced A) (es ds : List Entry) (v : A) {f g : Funds} → ChargedAt work (at f (map entry es)) (Ok v) (at g (map entry ds)) → ds ≡ es ++ entries_of work.events
entries_added work es ds v {f} {g} h =
    let s = stripped work f g (map entry es) (map entry ds) (Ok v) h in
    let noted : s.notes ≡ notes work.events = cut_notes work.events (at f []) (at g s.notes) (s.charged.ok v refl).1.end in
    let k = behind_entries es ds s.notes s.whole in
    k.2 ∙ ap (λ z. es ++ z) (sym (entries_noted work.events k.0 (sym noted ∙ k.1)))
