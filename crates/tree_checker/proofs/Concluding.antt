-- What follows from the constraint of a root.
use Rattle.std.proofs.Common.{◌≡◌, ◌∙◌, ◌+◌, ℕ, suc, ℤ, Bool, true, false, cond, ◌&&◌, nat_eq, List, [], ◌∷◌, length, Option, Some, None, Result, Ok, Err, IsErrAnd, refl, sym, subst, arith}
use Rattle.std.specs.List.{list_all}
use Rattle.linear_term.specs.Range.{is_in_range}
use Rattle.base_budget.specs.declared.fault.StepFault.{StepFault}
use Rattle.base_budget.specs.declared.log.ElimLog.{ElimLog}
use Rattle.base_budget.specs.Followed.{Followed}
use Rattle.base_budget.specs.Trace.{Funds, Traced, each, just, next}
use Rattle.base_budget.specs.Work.{Worked}
use Rattle.base_budget.proofs.Charging.{Left, left_ends, left_next, work_err, work_just}
use Rattle.base_budget.proofs.Following.{follow_err, follow_free, follow_just, follow_ok}
use Rattle.clause_set.specs.declared.literal.Literal.{Literal}
use Rattle.clause_set.specs.Dnfs.{tidied}
use Rattle.elim_laws.specs.Logs.{by_whole_log, names_by_log}
use Rattle.elim_check.specs.Checked.{Checked}
use Rattle.elim_check.specs.declared.fault.LogFault.{LogFault}
use Rattle.solve_laws.specs.Solutions.{valued_clause}
use Rattle.proof_tree.specs.declared.run.Verdict.{Verdict}
use Rattle.proof_tree.specs.declared.run.Verdict.TheVariants.{Invalid}
use Rattle.proof_tree.specs.Proves.{values_put, verdict_if}
use Rattle.proof_tree.specs.Walk.{is_same, on_some}
use Rattle.tree_checker.specs.Hand.{at_node, outcome}
use Rattle.tree_checker.proofs.Redoing.{log_followed}

-- ---- values, one after another
pub put_next : (j : ℕ) (v : ℤ) (vs : List ℤ) (d cs e : List (List Literal)) {work : Traced (List (List Literal))} → Left (values_put j (v ∷ vs) d) work → Worked (each (valued_clause j v) d []) (Ok cs) → e ≡ tidied cs
    → Left (values_put (j + 1) vs e) work
put_next j v vs d cs e {work} inv h is =
    let one : suc j ≡ j + 1 = omega arith in
    subst (λ k. Left (values_put k vs e) work) one
    (subst (λ (z : List (List Literal)). Left (values_put (suc j) vs z) work) (sym is) (left_next (each (valued_clause j v) d []) (λ cs. values_put (suc j) vs (tidied cs)) inv h))

pub put_cut : (j : ℕ) (v : ℤ) (vs : List ℤ) (d : List (List Literal)) {work : Traced (List (List Literal))} {e : StepFault} (r : Result (List (List Literal)) StepFault) → Left (values_put j (v ∷ vs) d) work
    → Worked (each (valued_clause j v) d []) (Err e) → IsErrAnd r (λ x. x ≡ e) → Worked work r
put_cut j v vs d r inv h is = left_ends inv (work_err (each (valued_clause j v) d []) (λ cs. values_put (suc j) vs (tidied cs)) r is h)

pub all_put : (j : ℕ) (vs : List ℤ) (d : List (List Literal)) {work : Traced (List (List Literal))} → length vs ≡ 0 → Left (values_put j vs d) work → Worked work (Ok d)
all_put j [] d none inv = left_ends inv (work_just d d refl)
all_put j (v ∷ vs) d none inv = absurd (omega (arith, none))

pub rest_in_range : (v : ℤ) (vs : List ℤ) → list_all is_in_range (v ∷ vs) ≡ true → list_all is_in_range vs ≡ true
rest_in_range v vs h = by (is_in_range v) h
  where
    by : (b : Bool) → (b && list_all is_in_range vs) ≡ true → list_all is_in_range vs ≡ true
    by true e = e
    by false e = absurd (cc)

-- ---- a solution
pub solved_no : (b : Bool) (w : Traced (Option Verdict)) (a : Funds) (n : ℕ) → b ≡ false → Followed at_node (cond b w (just None)) a n (Ok None) a n
solved_no true w a n h = absurd (cc)
solved_no false w a n h = follow_just None None refl

pub solved_yes : (b : Bool) {w : Traced (Option Verdict)} {r : Result (Option Verdict) StepFault} (a : Funds) (n : ℕ) → b ≡ true → Worked w r → Followed at_node (cond b w (just None)) a n r a n
solved_yes true {r = r} a n h work = follow_free r work
solved_yes false a n h work = absurd (cc)

pub not_both : (m n : ℕ) (b : Bool) → (m ≡ n → ⊥) → (nat_eq m n && b) ≡ false
not_both m n b h = by (nat_eq m n) refl
  where
    by : (c : Bool) → nat_eq m n ≡ c → (c && b) ≡ false
    by true e = absurd (h (grind (arith, e)))
    by false e = refl

-- ---- a log that leaves false
abbrev told : List (List Literal) → Traced (Option Verdict)
told r = just (verdict_if (is_same r []) Invalid)

pub refuted_cut : (constants : ℕ) (log : ElimLog) (d : List (List Literal)) {a b : Funds} (t : Result (List (List Literal)) LogFault) {o : Result (Option (List (List Literal))) StepFault} {e : StepFault} (r : Result (Option Verdict) StepFault) (n : ℕ)
    → Checked (names_by_log constants d) log.entries a t b → o ≡ outcome t → o ≡ Err e → IsErrAnd r (λ x. x ≡ e) → Followed at_node (next (by_whole_log (names_by_log constants d) log.entries) (on_some told)) a n r b n
refuted_cut constants log d t r n h is err same = follow_err (by_whole_log (names_by_log constants d) log.entries) (on_some told) r same (log_followed (names_by_log constants d) log.entries t n h (sym err ∙ is))

pub refuted_no : (constants : ℕ) (log : ElimLog) (d : List (List Literal)) {a b : Funds} (t : Result (List (List Literal)) LogFault) {o : Result (Option (List (List Literal))) StepFault} (n : ℕ)
    → Checked (names_by_log constants d) log.entries a t b → o ≡ outcome t → o ≡ Ok None → Followed at_node (next (by_whole_log (names_by_log constants d) log.entries) (on_some told)) a n (Ok None) b n
refuted_no constants log d t n h is none =
    follow_ok (by_whole_log (names_by_log constants d) log.entries) (on_some told) (log_followed (names_by_log constants d) log.entries t n h (sym none ∙ is)) (follow_just None None refl)

pub refuted_so : (constants : ℕ) (log : ElimLog) (d left : List (List Literal)) {a b : Funds} (t : Result (List (List Literal)) LogFault) {o : Result (Option (List (List Literal))) StepFault} (v : Option Verdict) (n : ℕ)
    → Checked (names_by_log constants d) log.entries a t b → o ≡ outcome t → o ≡ Ok (Some left) → v ≡ verdict_if (is_same left []) Invalid
    → Followed at_node (next (by_whole_log (names_by_log constants d) log.entries) (on_some told)) a n (Ok v) b n
refuted_so constants log d left t v n h is some v_is =
    follow_ok (by_whole_log (names_by_log constants d) log.entries) (on_some told) (log_followed (names_by_log constants d) log.entries t n h (sym some ∙ is)) (follow_just (verdict_if (is_same left []) Invalid) v v_is)
