-- Calls that read a log, joined.
use Rattle.std.proofs.Common.{◌≡◌, ◌≤◌, ℕ, List, length, drop, Some, None, Result, Ok, Err, IsErrAnd, refl, sym, subst}
use Rattle.base_budget.specs.declared.fault.StepFault.{StepFault}
use Rattle.base_budget.specs.declared.fault.StepFault.TheVariants.{Memory}
use Rattle.base_budget.specs.declared.log.Entry.{Entry}
use Rattle.base_budget.specs.Trace.{Funds, at, Traced, just}
use Rattle.base_budget.specs.Work.{ChargedAt, Charged}
use Rattle.base_budget.proofs.Charging.{then_ok, then_fault, then_just, unnoted, no_memory}
use Rattle.elim_laws.specs.Logs.{rest, Reader, reads_none, go_on, read_next}
use Rattle.elim_check.specs.declared.fault.Stop.{Stop}
use Rattle.elim_check.specs.declared.fault.Stop.TheVariants as stop
use Rattle.elim_check.specs.Reading.{noted, with_rest, ReadAt}

-- a call that stops
stopped : {A B : Type 0} (m : Reader A) (k : A → Reader B) (log : List Entry) (i j : ℕ) (f g : Funds) (e : Stop) → ChargedAt (m (drop i log)) (at f (noted log i)) (with_rest {A = A} (drop j log) (Err e)) (at g (noted log j))
    → ChargedAt (read_next m k (drop i log)) (at f (noted log i)) (with_rest {A = B} (drop j log) (Err e)) (at g (noted log j))
stopped m k log i j f g stop.Entry h = then_ok (m (drop i log)) (go_on k) h (then_just None None refl)
stopped m k log i j f g (stop.Step s) h = then_fault (m (drop i log)) (go_on k) h

-- one call after another, and one that stops
module _ {A B : Type 0} (m : Reader A) (k : A → Reader B) {log : List Entry} {i j : ℕ} {f g : Funds} where
  pub read_ok : {v : A} {l : ℕ} {h : Funds} {r : Result B Stop} → ReadAt m log i f (Ok v) j g → ReadAt (k v) log j g r l h → ReadAt (read_next m k) log i f r l h
  read_ok first more = record { did = then_ok (m (drop i log)) (go_on k) first.did more.did; within = more.within }

  pub read_err : {e : Stop} (r : Result B Stop) → ReadAt m log i f (Err e) j g → IsErrAnd r (λ z. z ≡ e) → ReadAt (read_next m k) log i f r j g
  read_err (Ok v) first is = absurd is
  read_err {e} (Err z) first is = subst (λ y. ReadAt (read_next m k) log i f (Err y) j g) (sym is) (record { did = stopped m k log i j f g e first.did; within = first.within })

-- work that reads no entry
pub quiet_ok : {A : Type 0} (w : Traced A) {log : List Entry} {i : ℕ} {f g : Funds} {v : A} → i ≤ length log → Charged w f (Ok v) g → ReadAt (reads_none w) log i f (Ok v) i g
quiet_ok w {log} {i} within h = record { did = then_ok w (λ a. just (Some (rest a (drop i log)))) (unnoted (noted log i) h) (then_just _ _ refl); within = within }

pub quiet_err : {A : Type 0} (w : Traced A) {log : List Entry} {i : ℕ} {f g : Funds} {e : StepFault} (r : Result A Stop) → i ≤ length log → Charged w f (Err e) g → IsErrAnd r (λ z. z ≡ stop.Step e) → ReadAt (reads_none w) log i f r i g
quiet_err w (Ok v) within h is = absurd is
quiet_err w {log} {i} {f} {g} {e} (Err z) within h is =
    subst (λ y. ReadAt (reads_none w) log i f (Err y) i g) (sym is) (record { did = then_fault w (λ a. just (Some (rest a (drop i log)))) (unnoted (noted log i) h); within = within })

-- the same, before other calls
pub quiet_stopped : {A B : Type 0} (w : Traced A) (k : A → Reader B) {log : List Entry} {i : ℕ} {f g : Funds} {e : StepFault} (r : Result B Stop) → i ≤ length log → Charged w f (Err e) g → IsErrAnd r (λ z. z ≡ stop.Step e)
    → ReadAt (read_next (reads_none w) k) log i f r i g
quiet_stopped w k (Ok v) within h is = absurd is
quiet_stopped w k {e = e} (Err z) within h is = read_err (reads_none w) k (Err z) (quiet_err w (Err (stop.Step e)) within h refl) is

-- no memory for a call
pub read_memory : {A : Type 0} {m : Reader A} {log : List Entry} {i : ℕ} {f : Funds} (r : Result A Stop) → i ≤ length log → IsErrAnd r (λ z. z ≡ stop.Step Memory) → ReadAt m log i f r i f
read_memory (Ok v) within is = absurd is
read_memory {m = m} {log} {i} {f} (Err z) within is =
    subst (λ y. ReadAt m log i f (Err y) i f) (sym is) (record { did = no_memory (Err Memory) refl; within = within })

-- the same work in other words
pub read_as : {A : Type 0} (m p : Reader A) {log : List Entry} {i j : ℕ} {f g : Funds} {r : Result A Stop} → ((ks : List Entry) → m ks ≡ p ks) → ReadAt p log i f r j g → ReadAt m log i f r j g
read_as m p {log} {i} {j} {f} {g} {r} same h =
    record { did = subst (λ w. ChargedAt w (at f (noted log i)) (with_rest (drop j log) r) (at g (noted log j))) (sym (same (drop i log))) h.did; within = h.within }

-- ---- loops
-- what is left of the work by a log at j: whatever ends the rest ends the work
pub record Reads {A : Type 0} (left : Reader A) (log : List Entry) (j : ℕ) (g : Funds) (work : Reader A) (i : ℕ) (f : Funds) : Type 0 where
  pub ends : (r : Result A Stop) (l : ℕ) (h : Funds) → ReadAt left log j g r l h → ReadAt work log i f r l h
  pub within : j ≤ length log

module _ {A B : Type 0} (m : Reader A) (k : A → Reader B) {log : List Entry} {i j l : ℕ} {f g h : Funds} {work : Reader B} where
  pub reads_next : {v : A} → Reads (read_next m k) log j g work i f → ReadAt m log j g (Ok v) l h → Reads (k v) log l h work i f
  reads_next inv did = record { ends = λ r n q more. inv.ends r n q (read_ok m k did more); within = did.within }

  pub reads_err : {e : Stop} (r : Result B Stop) → Reads (read_next m k) log j g work i f → ReadAt m log j g (Err e) l h → IsErrAnd r (λ z. z ≡ e) → ReadAt work log i f r l h
  reads_err r inv did is = inv.ends r l h (read_err m k r did is)
