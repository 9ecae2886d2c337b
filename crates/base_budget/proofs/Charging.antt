-- Calls that charge, joined: by these lemmas a function that calls charged functions in the order of its definition is
-- proved. `charging` serves functions with a purse, `working` those without, `looping` loops, `logging` code that notes.
use Rattle.std.proofs.Common.{◌≡◌, ℕ, ℤ, ◌+◌, ◌<◌, ◌≤◌, true, false, List, [], ◌∷◌, ◌++◌, drop, length, get_or, refl, sym, ◌∙◌, ap, subst, append_assoc, Result, Ok, Err, Contains, IsErrAnd}
use Rattle.std.proofs.lemmas.List.{append-nil, drop_more}
use Rattle.std.proofs.lemmas.Bool.{le-leb, lt-leb, cond-true, cond-false}
use Rattle.std.proofs.lemmas.List.Folds.{list_all_at}
use Rattle.std.proofs.Math.ListN.{drop_of_length-le}
use Rattle.linear_term.specs.declared.range.Place.{Place}
use Rattle.base_budget.specs.declared.fault.StepFault.{StepFault}
use Rattle.base_budget.specs.declared.fault.StepFault.TheVariants.{Steps, Overflow, Memory}
use Rattle.linear_term.specs.declared.range.TermFault.{TermFault}
use Rattle.linear_term.specs.declared.range.TermFault.TheVariants as term_fault
use Rattle.linear_term.specs.Linear.{Linear}
use Rattle.linear_term.specs.Combination.{combination, raw_numbers}
use Rattle.linear_term.specs.Range.{all_stay, stays, IsCause}
use Rattle.base_budget.specs.Trace.{Funds, Mark, Event, charge, raw, mark, At, at, after_charge, done, refused, out_of_range, capped, cut, stand, Traced, just, step, next, pay, combining, note}
use Rattle.base_budget.specs.Work.{Reaches, ChargedAt, Charged, Worked, Remains, step_fault_of}
use Rattle.base_budget.proofs.Cutting.{cut_after, cut_refused, cut_left, behind, end_behind, cut-behind, stand-behind}

-- work after events that all happened
charged_after : {A : Type 0} (es : List Event) (work : Traced A) (a : At) {b c : At} {r : Result A StepFault} → cut es a ≡ done b → ChargedAt work b r c
    → ChargedAt (record { value = work.value; events = es ++ work.events }) a r c
charged_after es work a e rest = record {
  ok = λ v is. ((rest.ok v is).0, record { end = cut_after es work.events a e ∙ (rest.ok v is).1.end });
  steps = λ is. record { end = cut_after es work.events a e ∙ (rest.steps is).end };
  overflow = λ p is. let l = rest.overflow p is in record { numbers = l.numbers; end = cut_after es work.events a e ∙ l.end; among = l.among; leaves = l.leaves };
  memory = λ is. let l = rest.memory is in record { before = es ++ l.before; after = l.after; whole = ap (λ z. es ++ z) l.whole ∙ sym (append_assoc es l.before l.after); stands = ap stand (cut_after es l.before a e) ∙ l.stands };
}

pub then_ok : {A B : Type 0} (m : Traced A) (g : A → Traced B) {a b c : At} {v : A} {r : Result B StepFault} → ChargedAt m a (Ok v) b → ChargedAt (g v) b r c → ChargedAt (next m g) a r c
unfolding next
then_ok m g {a} {b} {c} {v} {r} first rest =
    let h = first.ok v refl in
    charged_after m.events (g m.value) a h.1.end (subst (λ w. ChargedAt (g w) b r c) h.0 rest)

pub then_fault : {A B : Type 0} (m : Traced A) (g : A → Traced B) {a b : At} {e : StepFault} → ChargedAt m a (Err e) b → ChargedAt (next m g) a (Err e) b
unfolding next
then_fault {A} m g {a} {b} {e} first = record {
  ok = λ v is. absurd (cc);
  steps = λ is. record { end = cut_refused m.events _ a (first.steps (let i : e ≡ Steps = cc in ap Err i)).end };
  overflow = λ p is. let l = first.overflow p (let i : e ≡ Overflow p = cc in ap Err i) in record { numbers = l.numbers; end = cut_left m.events _ a l.end; among = l.among; leaves = l.leaves };
  memory = λ is. let l = first.memory (let i : e ≡ Memory = cc in ap Err i) in record { before = l.before; after = l.after ++ (g m.value).events; whole = ap (λ z. z ++ (g m.value).events) l.whole ∙ append_assoc l.before l.after (g m.value).events; stands = l.stands };
}

pub then_err : {A B : Type 0} (m : Traced A) (g : A → Traced B) {a b : At} {e : StepFault} (r : Result B StepFault) → IsErrAnd r (λ x. x ≡ e) → ChargedAt m a (Err e) b → ChargedAt (next m g) a r b
then_err m g (Ok v) h first = absurd h
then_err m g {a} {b} (Err x) h first = subst (λ y. ChargedAt (next m g) a (Err y) b) (sym h) (then_fault m g first)

pub then_just : {A : Type 0} (x y : A) {a : At} → y ≡ x → ChargedAt (just x) a (Ok y) a
unfolding just cut
then_just x y same = record {
  ok = λ v is. (let i : y ≡ v = cc in sym i ∙ same, record { end = refl });
  steps = λ is. absurd cc;
  overflow = λ p is. absurd cc;
  memory = λ is. absurd cc;
}

reaches_none : (es : List Event) (a : At) → Reaches es a a
unfolding cut
reaches_none es a = record { before = []; after = es; whole = refl; stands = refl }

pub no_memory : {A : Type 0} {m : Traced A} {a : At} (r : Result A StepFault) → IsErrAnd r (λ x. x ≡ Memory) → ChargedAt m a r a
no_memory (Ok v) h = absurd h
no_memory {m = m} {a = a} (Err x) h = record {
  ok = λ v is. absurd cc;
  steps = λ is. absurd cc;
  overflow = λ p is. absurd cc;
  memory = λ is. reaches_none m.events a;
}

pub free : {A : Type 0} {m : Traced A} {a : At} (r : Result A StepFault) → Worked m r → ChargedAt m a r a
free {a = a} r h = h.each a

-- the value of work that a call did
pub charged_value : {A : Type 0} {m : Traced A} {a b : At} {v : A} → ChargedAt m a (Ok v) b → v ≡ m.value
charged_value {v = v} h = (h.ok v refl).0

cut_pay : (n : ℕ) (a : At) → a.funds.spent + capped n ≤ a.funds.budget → cut (charge n ∷ []) a ≡ done (after_charge n a)
unfolding cut
cut_pay n a h = cond-true _ _ _ (le-leb _ _ h)

cut_overdrawn : (n : ℕ) (a : At) → a.funds.budget < a.funds.spent + capped n → cut (charge n ∷ []) a ≡ refused a
unfolding cut
cut_overdrawn n a h = cond-false _ _ _ (lt-leb _ _ h)

-- a charge within the budget, and one that passes it
pub pay_ok : (k n : ℕ) {old new : Funds} → n ≡ capped k → old.spent + n ≤ old.budget → new ≡ record old { spent = old.spent + n } → Charged (pay k) old (Ok (tt {0})) new
unfolding step
pay_ok k n {old} {new} is within spends =
    let within_capped : old.spent + capped k ≤ old.budget = subst (λ m. old.spent + m ≤ old.budget) is within in
    let new_is : record old { spent = old.spent + capped k } ≡ new = sym (subst (λ m. new ≡ record old { spent = old.spent + m }) is spends) in
    record {
      ok = λ v e. (refl, record { end = cut_pay k (at old []) within_capped ∙ ap (λ f. done (at f [])) new_is });
      steps = λ e. absurd cc;
      overflow = λ p e. absurd cc;
      memory = λ e. absurd cc;
    }

pub pay_refused : (k n : ℕ) {old new : Funds} (r : Result (Unit {0}) StepFault) → n ≡ capped k → old.budget < old.spent + n → new ≡ old → IsErrAnd r (λ e. e ≡ Steps) → Charged (pay k) old r new
unfolding step
pay_refused k n (Ok v) is passes kept h = absurd h
pay_refused k n {old} {new} (Err x) is passes kept h =
    let passes_capped : old.budget < old.spent + capped k = subst (λ m. old.budget < old.spent + m) is passes in
    record {
      ok = λ v e. absurd cc;
      steps = λ e. record { end = cut_overdrawn k (at old []) passes_capped ∙ ap (λ f. refused (at f [])) (sym kept) };
      overflow = λ p e. absurd cc;
      memory = λ e. absurd cc;
    }

-- what was noted before changes no end
pub charged_behind : {A : Type 0} {m : Traced A} (ms ns ks : List Mark) {f g : Funds} {r : Result A StepFault} → ChargedAt m (at f ns) r (at g ks) → ChargedAt m (at f (ms ++ ns)) r (at g (ms ++ ks))
charged_behind {m = m} ms ns ks {f} {g} h = record {
  ok = λ v is. ((h.ok v is).0, record { end = cut-behind ms m.events (at f ns) ∙ ap (end_behind ms) (h.ok v is).1.end });
  steps = λ is. record { end = cut-behind ms m.events (at f ns) ∙ ap (end_behind ms) (h.steps is).end };
  overflow = λ p is. let l = h.overflow p is in record { numbers = l.numbers; end = cut-behind ms m.events (at f ns) ∙ ap (end_behind ms) l.end; among = l.among; leaves = l.leaves };
  memory = λ is. let l = h.memory is in record { before = l.before; after = l.after; whole = l.whole; stands = ap stand (cut-behind ms l.before (at f ns)) ∙ stand-behind ms (cut l.before (at f ns)) ∙ ap (behind ms) l.stands };
}

pub unnoted : {A : Type 0} {m : Traced A} (ms : List Mark) {f g : Funds} {r : Result A StepFault} → Charged m f r g → ChargedAt m (at f ms) r (at g ms)
unnoted {m = m} ms {f} {g} {r} h =
    let both = charged_behind ms [] [] h in
    subst (λ z. ChargedAt m (at f z) r (at g z)) (append-nil ms) both

cut_mark : (k : Mark) (f : Funds) (ms : List Mark) → cut (mark k ∷ []) (at f ms) ≡ done (at f (ms ++ k ∷ []))
unfolding cut
cut_mark k f ms = refl

pub after_note : {A : Type 0} (k : Mark) (g : Unit {0} → Traced A) {f : Funds} {ms : List Mark} {b : At} {r : Result A StepFault} → ChargedAt (g tt) (at f (ms ++ k ∷ [])) r b → ChargedAt (next (note k) g) (at f ms) r b
unfolding next step
after_note k g {f} {ms} {b} {r} h = charged_after (mark k ∷ []) (g tt) (at f ms) (cut_mark k f ms) h

-- what is left at the start is all
pub remains_all : {A : Type 0} (work : Traced A) (old : At) → Remains work old work old
remains_all work old = record { ends = λ r end h. h }

-- the end of what is left ends the work
pub remains_ends : {A : Type 0} {rest work : Traced A} {now old end : At} {r : Result A StepFault} → Remains rest now work old → ChargedAt rest now r end → ChargedAt work old r end
remains_ends inv h = inv.ends _ _ h

-- one call of a loop's body
pub remains_next : {A B : Type 0} (m : Traced A) (g : A → Traced B) {a b old : At} {work : Traced B} {v : A} → Remains (next m g) a work old → ChargedAt m a (Ok v) b → Remains (g v) b work old
remains_next m g inv h = record { ends = λ r end rest. inv.ends r end (then_ok m g h rest) }

pub remains_note : {B : Type 0} (k : Mark) (g : Unit {0} → Traced B) {f : Funds} {ms : List Mark} {old : At} {work : Traced B} → Remains (next (note k) g) (at f ms) work old → Remains (g tt) (at f (ms ++ k ∷ [])) work old
remains_note k g inv = record { ends = λ r end rest. inv.ends r end (after_note k g rest) }

-- the item of a loop at its index, and what comes after it
pub drop-item : {X : Type 0} (xs : List X) (i : ℕ) (x : X) → i < length xs → x ≡ get_or xs i x → drop i xs ≡ x ∷ drop (i + 1) xs
drop-item xs i x h is = drop_more xs i x h ∙ ap (λ y. y ∷ drop (i + 1) xs) (sym is)

-- nothing is left past the end
pub drop_all : {X : Type 0} (xs : List X) (i : ℕ) → length xs ≤ i → drop i xs ≡ []
drop_all xs i h = drop_of_length-le xs h

-- the same for calls without a purse
pub work_ok : {A B : Type 0} (m : Traced A) (g : A → Traced B) {v : A} {r : Result B StepFault} → Worked m (Ok v) → Worked (g v) r → Worked (next m g) r
work_ok m g h k = record { each = λ a. then_ok m g (h.each a) (k.each a) }

pub work_fault : {A B : Type 0} (m : Traced A) (g : A → Traced B) {e : StepFault} → Worked m (Err e) → Worked (next m g) (Err e)
work_fault m g h = record { each = λ a. then_fault m g (h.each a) }

pub work_err : {A B : Type 0} (m : Traced A) (g : A → Traced B) {e : StepFault} (r : Result B StepFault) → IsErrAnd r (λ x. x ≡ e) → Worked m (Err e) → Worked (next m g) r
work_err m g r h w = record { each = λ a. then_err m g r h (w.each a) }

pub work_just : {A : Type 0} (x y : A) → y ≡ x → Worked (just x) (Ok y)
work_just x y same = record { each = λ a. then_just x y same }

pub work_memory : {A : Type 0} {m : Traced A} (r : Result A StepFault) → IsErrAnd r (λ x. x ≡ Memory) → Worked m r
work_memory r h = record { each = λ a. no_memory r h }

all_stay-leaves : (ps : List Place) (p : Place) → Contains ps p → stays p ≡ false → all_stay ps ≡ false
unfolding all_stay
all_stay-leaves ps p among leaves = list_all_at stays ps among.0 p among.1 (subst (λ z. stays z ≡ false) (sym among.2) leaves)

cut_stay : (ps : List Place) (a : At) → all_stay ps ≡ true → cut (raw ps ∷ []) a ≡ done a
unfolding cut
cut_stay ps a h = cond-true _ _ _ h

cut_leave : (ps : List Place) (a : At) → all_stay ps ≡ false → cut (raw ps ∷ []) a ≡ out_of_range ps a
unfolding cut
cut_leave ps a h = cond-false _ _ _ h

-- raw numbers that stay, and one that leaves the range
pub raw_ok : {A : Type 0} (ps : List Place) (x y : A) → all_stay ps ≡ true → y ≡ x → Worked (step (raw ps) x) (Ok y)
unfolding step
raw_ok ps x y stay same = record {
  each = λ a. record {
    ok = λ v is. (let i : y ≡ v = cc in sym i ∙ same, record { end = cut_stay ps a stay });
    steps = λ is. absurd cc;
    overflow = λ p is. absurd cc;
    memory = λ is. absurd cc;
  };
}

pub raw_leaves : {A : Type 0} (ps : List Place) (x : A) (p : Place) (r : Result A StepFault) → IsErrAnd r (λ e. e ≡ Overflow p) → Contains ps p → stays p ≡ false → Worked (step (raw ps) x) r
unfolding step
raw_leaves ps x p (Ok v) h among leaves = absurd h
raw_leaves ps x p (Err e) h among leaves = record {
  each = λ a. record {
    ok = λ v is. absurd cc;
    steps = λ is. absurd cc;
    overflow = λ q is. let i : p ≡ q = cc in record { numbers = ps; end = cut_leave ps a (all_stay-leaves ps p among leaves); among = subst (Contains ps) i among; leaves = subst (λ z. stays z ≡ false) i leaves };
    memory = λ is. absurd cc;
  };
}

-- ---- loops of calls without a purse
-- what is left of the work: whatever ends the rest ends the work
pub record Left {A : Type 0} (rest work : Traced A) : Type 0 where
  pub ends : (r : Result A StepFault) → Worked rest r → Worked work r

pub left_all : {A : Type 0} (work : Traced A) → Left work work
left_all work = record { ends = λ r h. h }

pub left_next : {A B : Type 0} (m : Traced A) (g : A → Traced B) {work : Traced B} {v : A} → Left (next m g) work → Worked m (Ok v) → Left (g v) work
left_next m g inv h = record { ends = λ r rest. inv.ends r (work_ok m g h rest) }

pub left_ends : {A : Type 0} {rest work : Traced A} {r : Result A StepFault} → Left rest work → Worked rest r → Worked work r
left_ends inv h = inv.ends _ h

-- the value of work that a call did
pub worked_value : {A : Type 0} {m : Traced A} {v : A} → Worked m (Ok v) → v ≡ m.value
worked_value h = charged_value (h.each (at (record { budget = 0; spent = 0 }) []))

-- one linear combination
pub combining_ok : (m n : ℤ) (s t r : Linear) → r ≡ combination m s n t → all_stay (raw_numbers m s n t) ≡ true → Worked (combining m s n t) (Ok r)
combining_ok m n s t r is stay = raw_ok (raw_numbers m s n t) (combination m s n t) r stay is

pub combining_err : (m n : ℤ) (s t : Linear) (fault : TermFault) (r : Result Linear StepFault) → IsErrAnd r (λ e. e ≡ step_fault_of fault) → IsCause fault (raw_numbers m s n t) → Worked (combining m s n t) r
combining_err m n s t (term_fault.Overflow p) r h c = raw_leaves (raw_numbers m s n t) (combination m s n t) p r h c.0 c.1
combining_err m n s t term_fault.Memory r h c = work_memory r h

pub ruleset combinations = (combining_ok, combining_err)

pub ruleset charging = (then_ok, then_err, then_fault, then_just, no_memory, free)

pub ruleset working = (work_ok, work_err, work_fault, work_just, work_memory)

pub ruleset looping = (charging, remains_all, remains_ends, drop-item, drop_all)

pub ruleset logging = (looping, unnoted, after_note)

pub ruleset leaving = (working, left_all, left_ends, drop-item, drop_all)
