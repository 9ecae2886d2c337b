-- Calls that keep a summary of their notes, joined: `following` serves them as `charging` serves calls without notes, and
-- the lemmas on `Going` serve their loops.
use Rattle.std.proofs.Common.{◌≡◌, List, [], ◌∷◌, ◌++◌, refl, sym, ◌∙◌, ap, subst, Result, Ok, Err, IsErrAnd}
use Rattle.std.proofs.lemmas.List.{append-nil}
use Rattle.base_budget.specs.declared.fault.StepFault.{StepFault}
use Rattle.base_budget.specs.declared.fault.StepFault.TheVariants.{Steps, Overflow, Memory}
use Rattle.base_budget.specs.Trace.{Funds, Mark, at, Traced, just, next, note}
use Rattle.base_budget.specs.Work.{ChargedAt, Charged, Worked}
use Rattle.base_budget.proofs.Charging.{then_ok, then_fault, then_just, no_memory, charged_behind, after_note, charged_value}
use Rattle.base_budget.specs.Followed.{after_notes, UnlessMemory, Followed}

-- the summary after notes in two parts
pub after-append : {S : Type 0} (add : S → Mark → S) (s : S) (ms ns : List Mark) → after_notes add s (ms ++ ns) ≡ after_notes add (after_notes add s ms) ns
after-append add s [] ns = refl
after-append add s (m ∷ ms) ns = after-append add (add s m) ms ns

-- a fact for each end but running out of memory
unless_map : {A P Q : Type 0} (r : Result A StepFault) → (P → Q) → UnlessMemory r P → UnlessMemory r Q
unless_map (Ok v) f h = f h
unless_map (Err Steps) f h = f h
unless_map (Err (Overflow q)) f h = f h
unless_map (Err Memory) f h = tt

unless_err : (A B P : Type 0) (e : StepFault) → UnlessMemory {A = A} (Err e) P → UnlessMemory {A = B} (Err e) P
unless_err A B P Steps h = h
unless_err A B P (Overflow q) h = h
unless_err A B P Memory h = tt

unless_always : {A P : Type 0} (r : Result A StepFault) → P → UnlessMemory r P
unless_always (Ok v) h = h
unless_always (Err Steps) h = h
unless_always (Err (Overflow q)) h = h
unless_always (Err Memory) h = tt

-- what was noted before stands before the notes of the call
behind_all : {A : Type 0} (m : Traced A) (ms ns : List Mark) {f g : Funds} {r : Result A StepFault} → ChargedAt m (at f []) r (at g ns) → ChargedAt m (at f ms) r (at g (ms ++ ns))
behind_all m ms ns {f} {g} {r} h = subst (λ z. ChargedAt m (at f z) r (at g (ms ++ ns))) (append-nil ms) (charged_behind ms [] ns h)

-- two calls in a row, and a fault of the first
pub follow_ok : {A B S : Type 0} {add : S → Mark → S} (m : Traced A) (g : A → Traced B) {a b c : Funds} {s t u : S} {v : A} {r : Result B StepFault}
    → Followed add m a s (Ok v) b t → Followed add (g v) b t r c u → Followed add (next m g) a s r c u
follow_ok {add = add} m g {s = s} {u = u} {v = v} {r = r} first rest = record {
  notes = first.notes ++ rest.notes;
  charged = then_ok m g first.charged (behind_all (g v) first.notes rest.notes rest.charged);
  kept = unless_map r (λ is. is ∙ ap (λ z. after_notes add z rest.notes) first.kept ∙ sym (after-append add s first.notes rest.notes)) rest.kept;
}

pub follow_fault : {A B S : Type 0} {add : S → Mark → S} (m : Traced A) (g : A → Traced B) {a b : Funds} {s t : S} {e : StepFault}
    → Followed add m a s (Err e) b t → Followed add (next m g) a s (Err e) b t
follow_fault {A} {B} m g {e = e} first = record { notes = first.notes; charged = then_fault m g first.charged; kept = unless_err A B _ e first.kept }

pub follow_err : {A B S : Type 0} {add : S → Mark → S} (m : Traced A) (g : A → Traced B) {a b : Funds} {s t : S} {e : StepFault} (r : Result B StepFault)
    → IsErrAnd r (λ x. x ≡ e) → Followed add m a s (Err e) b t → Followed add (next m g) a s r b t
follow_err m g (Ok v) h first = absurd h
follow_err {add = add} m g {a} {b} {s} {t} (Err x) h first = subst (λ y. Followed add (next m g) a s (Err y) b t) (sym h) (follow_fault m g first)

-- no call, running out of memory, and calls that leave no notes, with a purse and without one
pub follow_just : {A S : Type 0} {add : S → Mark → S} (x y : A) {a : Funds} {s : S} → y ≡ x → Followed add (just x) a s (Ok y) a s
follow_just x y same = record { notes = []; charged = then_just x y same; kept = refl }

pub follow_memory : {A S : Type 0} {add : S → Mark → S} {m : Traced A} {a : Funds} {s t : S} (r : Result A StepFault) → IsErrAnd r (λ x. x ≡ Memory) → Followed add m a s r a t
follow_memory (Ok v) h = absurd h
follow_memory {A} {add = add} {m = m} {a} {s} {t} (Err x) h =
    subst (λ y. Followed add m a s (Err y) a t) (sym h) (let r : Result A StepFault = Err Memory in record { notes = []; charged = no_memory r refl; kept = tt })

pub follow_unnoted : {A S : Type 0} {add : S → Mark → S} {m : Traced A} {a b : Funds} {s : S} (r : Result A StepFault) → Charged m a r b → Followed add m a s r b s
follow_unnoted r h = record { notes = []; charged = h; kept = unless_always r refl }

pub follow_free : {A S : Type 0} {add : S → Mark → S} {m : Traced A} {a : Funds} {s : S} (r : Result A StepFault) → Worked m r → Followed add m a s r a s
follow_free {a = a} r h = record { notes = []; charged = h.each (at a []); kept = unless_always r refl }

-- a note, with its summary
pub follow_note : {A S : Type 0} {add : S → Mark → S} (k : Mark) (g : Unit {0} → Traced A) {a b : Funds} {s t u : S} {r : Result A StepFault}
    → u ≡ add s k → Followed add (g tt) a u r b t → Followed add (next (note k) g) a s r b t
follow_note {add = add} k g {t = t} {r = r} is rest = record {
  notes = k ∷ rest.notes;
  charged = after_note k g (behind_all (g tt) (k ∷ []) rest.notes rest.charged);
  kept = unless_map r (λ same. same ∙ ap (λ z. after_notes add z rest.notes) is) rest.kept;
}

-- the value of work that a call did
pub followed_value : {A S : Type 0} {add : S → Mark → S} {m : Traced A} {a b : Funds} {s t : S} {v : A} → Followed add m a s (Ok v) b t → v ≡ m.value
followed_value h = charged_value h.charged

-- what is left of the work, with the summary so far: whatever ends the rest ends the work
pub record Going {A S : Type 0} (add : S → Mark → S) (rest : Traced A) (now : Funds) (t : S) (work : Traced A) (old : Funds) (s : S) : Type 0 where
  pub ends : (r : Result A StepFault) (end : Funds) (u : S) → Followed add rest now t r end u → Followed add work old s r end u

-- a loop: all is left at its start, one call of its body, and its end
pub going_all : {A S : Type 0} {add : S → Mark → S} (work : Traced A) (old : Funds) (s : S) → Going add work old s work old s
going_all work old s = record { ends = λ r end u h. h }

pub going_next : {A B S : Type 0} {add : S → Mark → S} (m : Traced A) (g : A → Traced B) {a b old : Funds} {s t u : S} {work : Traced B} {v : A}
    → Going add (next m g) a s work old u → Followed add m a s (Ok v) b t → Going add (g v) b t work old u
going_next m g inv h = record { ends = λ r end u rest. inv.ends r end u (follow_ok m g h rest) }

pub going_ends : {A S : Type 0} {add : S → Mark → S} {rest work : Traced A} {now old end : Funds} {s t u : S} {r : Result A StepFault}
    → Going add rest now t work old s → Followed add rest now t r end u → Followed add work old s r end u
going_ends inv h = inv.ends _ _ _ h

pub ruleset following = (follow_ok, follow_err, follow_fault, follow_just, follow_memory, follow_unnoted, follow_free, follow_note)
