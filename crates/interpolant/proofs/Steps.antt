-- Eliminations one after the other, each in a log of its own.
use Rattle.std.proofs.Common.{◌≡◌, ◌<◌, ◌-◌, ℕ, zero, suc, Bool, true, false, arith, List, [], ◌∷◌, ◌++◌, map, Result, Ok, Err, IsErrAnd, refl, sym, ◌∙◌, ap, subst, append_assoc}
use Rattle.std.proofs.lemmas.List.{append-nil}
use Rattle.base_budget.specs.declared.fault.StepFault.{StepFault}
use Rattle.base_budget.specs.declared.fault.StepFault.TheVariants as step_fault
use Rattle.base_budget.specs.declared.fault.ElimFault.{ElimFault}
use Rattle.base_budget.specs.declared.fault.ElimFault.TheVariants.{Steps, Overflow, Memory}
use Rattle.base_budget.specs.declared.log.Entry.{Entry}
use Rattle.base_budget.specs.declared.log.ElimLog.{ElimLog}
use Rattle.base_budget.specs.Followed.{after_notes, Followed, UnlessMemory}
use Rattle.base_budget.specs.Trace.{Funds, entry, new_log, at, Traced, just, next}
use Rattle.base_budget.specs.Work.{ChargedAt, Logged, marks_of}
use Rattle.base_budget.proofs.Following.{follow_ok, follow_fault, follow_just, follow_memory, follow_note, followed_value}
use Rattle.quant_elim.proofs.Budgets.{below_budget}
use Rattle.clause_set.specs.declared.literal.Literal.{Literal}
use Rattle.elim_laws.specs.Elimination.{exists_name}
use Rattle.interpolant.specs.Run.{DoesElimination, in_log, in_new_log, others_out, without}

-- ---- one elimination
-- entries that are noted are added to the log
added : (es ds : List Entry) → after_notes in_log es (map entry ds) ≡ es ++ ds
added es [] = sym (append-nil es)
added es (d ∷ ds) = added (es ++ d ∷ []) ds ∙ append_assoc es (d ∷ []) ds

always : {A : Type 0} (r : Result A StepFault) (P : Type 0) → P → UnlessMemory r P
always (Ok v) P k = k
always (Err step_fault.Steps) P k = k
always (Err (step_fault.Overflow p)) P k = k
always (Err step_fault.Memory) P k = tt

in_log_of_its_own : {A : Type 0} (m : Traced A) (before : List Entry) (log : ElimLog) {a b : Funds} {r : Result A StepFault} → ChargedAt m (at a []) r (at b (marks_of log)) → Followed in_log (in_new_log m) a before r b log.entries
in_log_of_its_own m before log {r = r} h = follow_note new_log _ {u = []} refl (record { notes = marks_of log; charged = h; kept = always r _ (sym (added [] log.entries)) })

pub own_ok : {A : Type 0} (m : Traced A) {a b : Funds} (v : A) (log : ElimLog) → Logged m a (Ok (v, log)) b → DoesElimination (in_new_log m) a (Ok v) b
own_ok m v log h = record { log = λ before. log.entries; did = λ before. in_log_of_its_own m before log h; carries = λ before. tt }

pub own_fault : {A : Type 0} (m : Traced A) {a b : Funds} (f : ElimFault) → Logged m a (Err f) b → DoesElimination (in_new_log m) a (Err f) b
own_fault m (Steps log) h = record { log = λ before. log.entries; did = λ before. in_log_of_its_own m before log h; carries = λ before. refl }
own_fault m (Overflow log p) h = record { log = λ before. log.entries; did = λ before. in_log_of_its_own m before log h; carries = λ before. refl }
own_fault m Memory h = record { log = λ before. []; did = λ before. follow_note new_log _ {u = []} refl (record { notes = h.0; charged = h.1; kept = tt }); carries = λ before. tt }

pub elim_just : {A : Type 0} (v w : A) {a : Funds} → w ≡ v → DoesElimination (just v) a (Ok w) a
elim_just v w is = record { log = λ before. before; did = λ before. follow_just v w is; carries = λ before. tt }

-- ---- one name
pub stays_in : (stays : Bool) (x : ℕ) (d : List (List Literal)) {a : Funds} → stays ≡ true → DoesElimination (without stays x d) a (Ok d) a
stays_in stays x d {a} is = subst (λ b. DoesElimination (without b x d) a (Ok d) a) (sym is) (elim_just d d refl)

pub goes_ok : (stays : Bool) (x : ℕ) (d r : List (List Literal)) (log : ElimLog) {a b : Funds} → stays ≡ false → Logged (exists_name x d) a (Ok (r, log)) b → DoesElimination (without stays x d) a (Ok r) b
goes_ok stays x d r log {a} {b} is h = subst (λ s. DoesElimination (without s x d) a (Ok r) b) (sym is) (own_ok (exists_name x d) r log h)

pub goes_err : (stays : Bool) (x : ℕ) (d : List (List Literal)) (f : ElimFault) (r : Result (List (List Literal)) ElimFault) {a b : Funds} → stays ≡ false → IsErrAnd r (λ e. e ≡ f) → Logged (exists_name x d) a (Err f) b
    → DoesElimination (without stays x d) a r b
goes_err stays x d f (Ok v) is e h = absurd e
goes_err stays x d f (Err g) {a} {b} is e h =
    subst (λ z. DoesElimination (without stays x d) a (Err z) b) (sym e) (subst (λ s. DoesElimination (without s x d) a (Err f) b) (sym is) (own_fault (exists_name x d) f h))

-- ---- several
pub elim_ok : {A B : Type 0} (m : Traced A) (g : A → Traced B) {a b c : Funds} {v : A} (r : Result B ElimFault) → DoesElimination m a (Ok v) b → DoesElimination (g v) b r c → DoesElimination (next m g) a r c
elim_ok m g r h k = record {
  log = λ before. k.log (h.log before);
  did = λ before. follow_ok m g (h.did before) (k.did (h.log before));
  carries = λ before. k.carries (h.log before);
}

pub elim_err : {A B : Type 0} (m : Traced A) (g : A → Traced B) {a b : Funds} (f : ElimFault) (r : Result B ElimFault) → IsErrAnd r (λ x. x ≡ f) → DoesElimination m a (Err f) b → DoesElimination (next m g) a r b
elim_err m g f (Ok v) is h = absurd is
elim_err m g {a} {b} f (Err x) is h =
    subst (λ z. DoesElimination (next m g) a (Err z) b) (sym is) (record { log = h.log; did = λ before. follow_fault m g (h.did before); carries = h.carries })

pub elim_memory : {A : Type 0} (m : Traced A) (a : Funds) → DoesElimination m a (Err Memory) a
elim_memory {A} m a = record { log = λ before. before; did = λ before. (let r : Result A StepFault = Err step_fault.Memory in follow_memory r refl); carries = λ before. tt }

pub elim_value : {A : Type 0} {m : Traced A} {a b : Funds} {v : A} → DoesElimination m a (Ok v) b → v ≡ m.value
elim_value h = followed_value (h.did [])

pub elim_budget : {A : Type 0} {m : Traced A} {a b : Funds} {v : A} (n : ℕ) → DoesElimination m a (Ok v) b → a.budget < n → b.budget < n
elim_budget n h lt = below_budget n (h.did []).charged lt

-- what is left of the work: whatever ends the rest ends the work
pub record Left {A : Type 0} (rest : Traced A) (now : Funds) (work : Traced A) (old : Funds) : Type 0 where
  pub ends : (r : Result A ElimFault) (end : Funds) → DoesElimination rest now r end → DoesElimination work old r end

pub left_all : {A : Type 0} (work : Traced A) (old : Funds) → Left work old work old
left_all work old = record { ends = λ r end h. h }

pub left_next : {A B : Type 0} (m : Traced A) (g : A → Traced B) {a b old : Funds} {work : Traced B} {v : A} → Left (next m g) a work old → DoesElimination m a (Ok v) b → Left (g v) b work old
left_next m g inv h = record { ends = λ r end rest. inv.ends r end (elim_ok m g r h rest) }

-- the names below n, of which the greatest comes first
others-next : (s : ℕ → Bool) (n : ℕ) (d : List (List Literal)) → 0 < n → others_out s n d ≡ next (without (s (n - 1)) (n - 1) d) (others_out s (n - 1))
others-next s zero d lt = absurd (omega (arith, lt))
others-next s (suc x) d lt = let e : suc x - 1 ≡ x = omega arith in ap (λ k. next (without (s k) k d) (others_out s k)) (sym e)

pub left_one : (s : ℕ → Bool) (n : ℕ) (d : List (List Literal)) {now old : Funds} {work : Traced (List (List Literal))} → 0 < n → Left (others_out s n d) now work old
    → Left (next (without (s (n - 1)) (n - 1) d) (others_out s (n - 1))) now work old
left_one s n d {now} {old} {work} lt h = subst (λ w. Left w now work old) (others-next s n d lt) h

pub left_none : (s : ℕ → Bool) (n : ℕ) (d : List (List Literal)) {now old : Funds} {work : Traced (List (List Literal))} → n ≡ 0 → Left (others_out s n d) now work old → DoesElimination work old (Ok d) now
left_none s n d {now} {old} {work} none h = (subst (λ k. Left (others_out s k d) now work old) none h).ends (Ok d) now (elim_just d d refl)
