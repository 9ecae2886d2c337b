-- Names out of a disjunction, one after another.
use Rattle.std.proofs.Common.{◌≡◌, ◌<◌, ◌-◌, ℕ, zero, suc, List, Result, Ok, Err, IsErrAnd, arith, refl, sym, subst}
use Rattle.base_budget.specs.declared.log.Entry.{Entry}
use Rattle.base_budget.specs.Trace.{Funds, just}
use Rattle.base_budget.proofs.Charging.{then_just}
use Rattle.clause_set.specs.declared.literal.Literal.{Literal}
use Rattle.clause_set.specs.Dnfs.{tidying}
use Rattle.elim_laws.specs.Logs.{Reader, reads_none, name_by_log, names_by_log}
use Rattle.elim_check.specs.declared.fault.Stop.{Stop}
use Rattle.elim_check.specs.Reading.{ReadAt}
use Rattle.elim_check.specs.Steps.{replaying}
use Rattle.elim_check.proofs.Chained.{read_ok, read_err, quiet_ok, Reads, reads_next, reads_err}

-- one name: the replay of the clauses, and the tidy form of what it leaves
module _ (x : ℕ) (d cs : List (List Literal)) {log : List Entry} {i j : ℕ} {f g : Funds} where
  pub replay_stopped : {e : Stop} (r : Result (List (List Literal)) Stop) → cs ≡ d → ReadAt (replaying x cs) log i f (Err e) j g → IsErrAnd r (λ z. z ≡ e) → ReadAt (name_by_log x d) log i f r j g
  replay_stopped {e} r is h wrong = read_err (replaying x d) (λ cs. reads_none (tidying cs)) r (subst (λ z. ReadAt (replaying x z) log i f (Err e) j g) is h) wrong

  pub replay_done : {v : List (List Literal)} {l : ℕ} {h : Funds} {r : Result (List (List Literal)) Stop} → cs ≡ d → ReadAt (replaying x cs) log i f (Ok v) j g → ReadAt (reads_none (tidying v)) log j g r l h
      → ReadAt (name_by_log x d) log i f r l h
  replay_done {v} is h more = read_ok (replaying x d) (λ cs. reads_none (tidying cs)) (subst (λ z. ReadAt (replaying x z) log i f (Ok v) j g) is h) more

-- ---- several names
one_less : (n : ℕ) → suc n - 1 ≡ n
one_less n = omega arith

module _ (n : ℕ) (d : List (List Literal)) {work : Reader (List (List Literal))} {log : List Entry} {i j l : ℕ} {f g h : Funds} where
  pub names_err : {s : Stop} (r : Result (List (List Literal)) Stop) → Reads (names_by_log n d) log j g work i f → 0 < n → ReadAt (name_by_log (n - 1) d) log j g (Err s) l h → IsErrAnd r (λ z. z ≡ s) → ReadAt work log i f r l h
  names_err {s} r inv some did wrong = by n inv some did
    where
      by : (n : ℕ) → Reads (names_by_log n d) log j g work i f → 0 < n → ReadAt (name_by_log (n - 1) d) log j g (Err s) l h → ReadAt work log i f r l h
      by zero inv p did = absurd (omega (arith, p))
      by (suc n) inv p did = reads_err (name_by_log n d) (names_by_log n) r inv (subst (λ k. ReadAt (name_by_log k d) log j g (Err s) l h) (one_less n) did) wrong

  pub names_some : (v : List (List Literal)) → Reads (names_by_log n d) log j g work i f → 0 < n → ReadAt (name_by_log (n - 1) d) log j g (Ok v) l h → Reads (names_by_log (n - 1) v) log l h work i f
  names_some v inv some did = by n inv some did
    where
      by : (n : ℕ) → Reads (names_by_log n d) log j g work i f → 0 < n → ReadAt (name_by_log (n - 1) d) log j g (Ok v) l h → Reads (names_by_log (n - 1) v) log l h work i f
      by zero inv p did = absurd (omega (arith, p))
      by (suc n) inv p did =
          subst (λ k. Reads (names_by_log k v) log l h work i f) (sym (one_less n))
          (reads_next (name_by_log n d) (names_by_log n) inv (subst (λ k. ReadAt (name_by_log k d) log j g (Ok v) l h) (one_less n) did))

pub names_all : (n : ℕ) (d : List (List Literal)) {work : Reader (List (List Literal))} {log : List Entry} {i j : ℕ} {f g : Funds} → Reads (names_by_log n d) log j g work i f → n ≡ 0 → ReadAt work log i f (Ok d) j g
names_all n d {work} {log} {i} {j} {f} {g} inv none =
    inv.ends (Ok d) j g (subst (λ k. ReadAt (names_by_log k d) log j g (Ok d) j g) (sym none) (quiet_ok (just d) inv.within (then_just d d refl)))
