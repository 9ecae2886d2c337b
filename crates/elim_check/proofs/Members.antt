-- The loops over the members of a conjunction and of a disjunction.
use Rattle.std.proofs.Common.{◌≡◌, ℕ, List, [], ◌∷◌, Result, Ok, Err, IsErrAnd, refl, subst}
use Rattle.base_budget.specs.declared.fault.StepFault.{StepFault}
use Rattle.base_budget.specs.declared.log.Entry.{Entry}
use Rattle.base_budget.specs.Trace.{Funds, just}
use Rattle.base_budget.specs.Work.{Charged}
use Rattle.base_budget.proofs.Charging.{then_just}
use Rattle.clause_set.specs.declared.literal.Literal.{Literal}
use Rattle.clause_set.specs.Dnfs.{conjunction, disjunction}
use Rattle.formula.specs.declared.calculus.Core.{Core}
use Rattle.formula.specs.Form.{Form}
use Rattle.formula.specs.Tree.{form, forms_of}
use Rattle.elim_laws.specs.Logs.{Reader, reads_none, read_next, all_by_log, any_by_log}
use Rattle.elim_check.specs.declared.fault.Stop.{Stop}
use Rattle.elim_check.specs.declared.fault.Stop.TheVariants as stop
use Rattle.elim_check.specs.Reading.{ReadAt}
use Rattle.elim_check.proofs.Chained.{quiet_ok, quiet_stopped, Reads, reads_next, reads_err}

-- what comes after the first member
abbrev pub all_then : (Form → Reader (List (List Literal))) → List Core → List (List Literal) → List (List Literal) → Reader (List (List Literal))
all_then m xs d c = read_next (reads_none (conjunction d c)) (λ both. all_by_log m (forms_of xs) both)

abbrev pub any_then : (Form → Reader (List (List Literal))) → List Core → List (List Literal) → List (List Literal) → Reader (List (List Literal))
any_then m xs d c = read_next (reads_none (disjunction d c)) (λ both. any_by_log m (forms_of xs) both)

module _ (m : Form → Reader (List (List Literal))) (ys xs : List Core) (x : Core) (item : ys ≡ x ∷ xs) (d : List (List Literal)) {work : Reader (List (List Literal))} {log : List Entry} {i j : ℕ} {f g : Funds} where
  all_first : Reads (all_by_log m (forms_of ys) d) log j g work i f → Reads (read_next (m (form x)) (all_then m xs d)) log j g work i f
  all_first inv = subst (λ z. Reads (all_by_log m (forms_of z) d) log j g work i f) item inv

  pub all_err : {s : Stop} {l : ℕ} {h : Funds} (r : Result (List (List Literal)) Stop) → Reads (all_by_log m (forms_of ys) d) log j g work i f → ReadAt (m (form x)) log j g (Err s) l h → IsErrAnd r (λ z. z ≡ s) → ReadAt work log i f r l h
  all_err r inv did is = reads_err (m (form x)) (all_then m xs d) r (all_first inv) did is

  pub all_unjoined : {c : List (List Literal)} {l : ℕ} {h k : Funds} {e : StepFault} (r : Result (List (List Literal)) Stop) → Reads (all_by_log m (forms_of ys) d) log j g work i f → ReadAt (m (form x)) log j g (Ok c) l h
      → Charged (conjunction d c) h (Err e) k → IsErrAnd r (λ z. z ≡ stop.Step e) → ReadAt work log i f r l k
  all_unjoined {c} {l} {h} {k} r inv did joined is =
      (reads_next (m (form x)) (all_then m xs d) (all_first inv) did).ends r l k (quiet_stopped (conjunction d c) (λ both. all_by_log m (forms_of xs) both) r did.within joined is)

  pub all_next : {c both : List (List Literal)} {l : ℕ} {h k : Funds} → Reads (all_by_log m (forms_of ys) d) log j g work i f → ReadAt (m (form x)) log j g (Ok c) l h → Charged (conjunction d c) h (Ok both) k
      → Reads (all_by_log m (forms_of xs) both) log l k work i f
  all_next {c} inv did joined =
      reads_next (reads_none (conjunction d c)) (λ both. all_by_log m (forms_of xs) both) (reads_next (m (form x)) (all_then m xs d) (all_first inv) did) (quiet_ok (conjunction d c) did.within joined)

  any_first : Reads (any_by_log m (forms_of ys) d) log j g work i f → Reads (read_next (m (form x)) (any_then m xs d)) log j g work i f
  any_first inv = subst (λ z. Reads (any_by_log m (forms_of z) d) log j g work i f) item inv

  pub any_err : {s : Stop} {l : ℕ} {h : Funds} (r : Result (List (List Literal)) Stop) → Reads (any_by_log m (forms_of ys) d) log j g work i f → ReadAt (m (form x)) log j g (Err s) l h → IsErrAnd r (λ z. z ≡ s) → ReadAt work log i f r l h
  any_err r inv did is = reads_err (m (form x)) (any_then m xs d) r (any_first inv) did is

  pub any_unjoined : {c : List (List Literal)} {l : ℕ} {h k : Funds} {e : StepFault} (r : Result (List (List Literal)) Stop) → Reads (any_by_log m (forms_of ys) d) log j g work i f → ReadAt (m (form x)) log j g (Ok c) l h
      → Charged (disjunction d c) h (Err e) k → IsErrAnd r (λ z. z ≡ stop.Step e) → ReadAt work log i f r l k
  any_unjoined {c} {l} {h} {k} r inv did joined is =
      (reads_next (m (form x)) (any_then m xs d) (any_first inv) did).ends r l k (quiet_stopped (disjunction d c) (λ both. any_by_log m (forms_of xs) both) r did.within joined is)

  pub any_next : {c both : List (List Literal)} {l : ℕ} {h k : Funds} → Reads (any_by_log m (forms_of ys) d) log j g work i f → ReadAt (m (form x)) log j g (Ok c) l h → Charged (disjunction d c) h (Ok both) k
      → Reads (any_by_log m (forms_of xs) both) log l k work i f
  any_next {c} inv did joined =
      reads_next (reads_none (disjunction d c)) (λ both. any_by_log m (forms_of xs) both) (reads_next (m (form x)) (any_then m xs d) (any_first inv) did) (quiet_ok (disjunction d c) did.within joined)

-- no member is left
module _ (m : Form → Reader (List (List Literal))) (ys : List Core) (none : ys ≡ []) (d : List (List Literal)) {work : Reader (List (List Literal))} {log : List Entry} {i j : ℕ} {f g : Funds} where
  pub all_ends : Reads (all_by_log m (forms_of ys) d) log j g work i f → ReadAt work log i f (Ok d) j g
  all_ends inv = (subst (λ z. Reads (all_by_log m (forms_of z) d) log j g work i f) none inv).ends (Ok d) j g (quiet_ok (just d) inv.within (then_just d d refl))

  pub any_ends : Reads (any_by_log m (forms_of ys) d) log j g work i f → ReadAt work log i f (Ok d) j g
  any_ends inv = (subst (λ z. Reads (any_by_log m (forms_of z) d) log j g work i f) none inv).ends (Ok d) j g (quiet_ok (just d) inv.within (then_just d d refl))
