-- What the answer of `solve` says.
use Rattle.std.proofs.Common.{◌≡◌, ℕ, ℤ, false, List, [], ◌∷◌, ◌++◌, length, Option, Some, None, Result, Ok, Err, IsErrAnd, refl, sym, ◌∙◌, ap, subst, arith}
use Rattle.base_budget.specs.declared.fault.StepFault.{StepFault}
use Rattle.base_budget.specs.declared.fault.StepFault.TheVariants as step_fault
use Rattle.base_budget.specs.declared.fault.ElimFault.{ElimFault}
use Rattle.base_budget.specs.declared.log.Entry.{Entry}
use Rattle.base_budget.specs.declared.log.ElimLog.{ElimLog}
use Rattle.base_budget.specs.Trace.{Funds, Traced, just, next}
use Rattle.base_budget.specs.Followed.{Followed}
use Rattle.base_budget.proofs.Following.{follow_ok, follow_just, follow_err, followed_value}
use Rattle.clause_set.specs.declared.literal.Literal.{Literal}
use Rattle.clause_set.specs.Literals.{dnf_truth}
use Rattle.solve_laws.specs.Best.{IsBest}
use Rattle.solve_laws.specs.Solutions.{IsGiven, answered, values_at, solving}
use Rattle.solve_laws.proofs.Solving.{solving-best, solving-none}
use Rattle.parameter_solver.specs.Logs.{Solves, answer_with, in_log}
use Rattle.parameter_solver.specs.declared.solving.Solved.{Solved}
use Rattle.parameter_solver.specs.declared.solving.Solved.TheVariants as solved

-- ---- values are found where the disjunction that is left is not false
pub answered_none : (n : ℕ) (d left : List (List Literal)) {a : Funds} {s : List Entry} → length left ≡ 0 → Followed in_log (answered n d left) a s (Ok None) a s
answered_none n d [] e = follow_just None None refl
answered_none n d (c ∷ cs) e = absurd (omega arith)

answered_is : (n : ℕ) (d left : List (List Literal)) → ¬ (length left ≡ 0) → answered n d left ≡ next (values_at n 0 d []) (λ vs. just (Some vs))
answered_is n d [] e = absurd (e refl)
answered_is n d (c ∷ cs) e = refl

pub answered_some : (n : ℕ) (d left : List (List Literal)) (vs : List ℤ) {a b : Funds} {s t : List Entry} → ¬ (length left ≡ 0) → Followed in_log (values_at n 0 d []) a s (Ok vs) b t
    → Followed in_log (answered n d left) a s (Ok (Some vs)) b t
answered_some n d left vs {a} {b} {s} {t} e did =
    subst (λ w. Followed in_log w a s (Ok (Some vs)) b t) (sym (answered_is n d left e)) (follow_ok (values_at n 0 d []) _ did (follow_just (Some vs) (Some vs) refl))

pub answered_err : (n : ℕ) (d left : List (List Literal)) (e : StepFault) (r : Result (Option (List ℤ)) StepFault) {a b : Funds} {s t : List Entry} → ¬ (length left ≡ 0) → Followed in_log (values_at n 0 d []) a s (Err e) b t
    → IsErrAnd r (λ x. x ≡ e) → Followed in_log (answered n d left) a s r b t
answered_err n d left e r {a} {b} {s} {t} some did h =
    subst (λ w. Followed in_log w a s r b t) (sym (answered_is n d left some)) (follow_err (values_at n 0 d []) _ r h did)

-- ---- the answer
solves : (w : Traced (Option (List ℤ))) (o : Result (Option (List ℤ)) StepFault) (log : ElimLog) {f g : Funds} → Followed in_log w f [] o g log.entries → Solves w f (answer_with o log) g
solves w (Ok None) log h = h
solves w (Ok (Some vs)) log h = (log.entries, h)
solves w (Err step_fault.Steps) log h = h
solves w (Err (step_fault.Overflow p)) log h = h
solves w (Err step_fault.Memory) log h = (log.entries, h)

pub solves_by : (w : Traced (Option (List ℤ))) (o : Result (Option (List ℤ)) StepFault) (es : List Entry) (log : ElimLog) (r : Result Solved ElimFault) {f g : Funds} → es ≡ [] → Followed in_log w f es o g log.entries
    → r ≡ answer_with o log → Solves w f r g
solves_by w o es log r {f} {g} none h is =
    subst (λ z. Solves w f z g) (sym is) (solves w o log (subst (λ z. Followed in_log w f z o g log.entries) none h))

values_only : (o : Result (Option (List ℤ)) StepFault) (log : ElimLog) (vs : List ℤ) → answer_with o log ≡ Ok (solved.Values vs) → o ≡ Ok (Some vs)
values_only (Ok None) log vs h = absurd (cc)
values_only (Ok (Some us)) log vs h = let i : us ≡ vs = cc in ap (λ z. Ok (Some z)) i
values_only (Err step_fault.Steps) log vs h = absurd (cc)
values_only (Err (step_fault.Overflow p)) log vs h = absurd (cc)
values_only (Err step_fault.Memory) log vs h = absurd (cc)

none_only : (o : Result (Option (List ℤ)) StepFault) (log end : ElimLog) → answer_with o log ≡ Ok (solved.None end) → o ≡ Ok None
none_only (Ok None) log end h = refl
none_only (Ok (Some us)) log end h = absurd (cc)
none_only (Err step_fault.Steps) log end h = absurd (cc)
none_only (Err (step_fault.Overflow p)) log end h = absurd (cc)
none_only (Err step_fault.Memory) log end h = absurd (cc)

pub best_by : (n : ℕ) (d : List (List Literal)) (o : Result (Option (List ℤ)) StepFault) (es : List Entry) (log : ElimLog) (r : Result Solved ElimFault) (vs : List ℤ) {f g : Funds} {ds : List Entry} → IsGiven n d
    → Followed in_log (solving n d) f es o g ds → r ≡ answer_with o log → r ≡ Ok (solved.Values vs) → IsBest (dnf_truth d) n vs
best_by n d o es log r vs {f} {g} {ds} h did is answer =
    let same = values_only o log vs (sym is ∙ answer) in
    solving-best n d vs h (sym (followed_value (subst (λ z. Followed in_log (solving n d) f es z g ds) same did)))

pub none_by : (n : ℕ) (d : List (List Literal)) (o : Result (Option (List ℤ)) StepFault) (es : List Entry) (log end : ElimLog) (r : Result Solved ElimFault) {f g : Funds} {ds : List Entry} → IsGiven n d
    → Followed in_log (solving n d) f es o g ds → r ≡ answer_with o log → r ≡ Ok (solved.None end) → (w : List ℤ) → length w ≡ n → dnf_truth d w ≡ false
none_by n d o es log end r {f} {g} {ds} h did is answer =
    let same = none_only o log end (sym is ∙ answer) in
    (solving-none n d h).0 (sym (followed_value (subst (λ z. Followed in_log (solving n d) f es z g ds) same did)))

log_only : (o : Result (Option (List ℤ)) StepFault) (log end : ElimLog) → answer_with o log ≡ Ok (solved.None end) → end ≡ log
log_only (Ok None) log end h = let i : log ≡ end = cc in sym i
log_only (Ok (Some us)) log end h = absurd (cc)
log_only (Err step_fault.Steps) log end h = absurd (cc)
log_only (Err (step_fault.Overflow p)) log end h = absurd (cc)
log_only (Err step_fault.Memory) log end h = absurd (cc)

-- the log of None
pub log_by : (o : Result (Option (List ℤ)) StepFault) (es ds : List Entry) (log end : ElimLog) (r : Result Solved ElimFault) → (o ≡ Ok None → log.entries ≡ es ++ ds) → es ≡ [] → r ≡ answer_with o log → r ≡ Ok (solved.None end)
    → end.entries ≡ ds
log_by o es ds log end r h none is answer =
    let same = sym is ∙ answer in
    ap (λ (l : ElimLog). l.entries) (log_only o log end same) ∙ h (none_only o log end same) ∙ ap (λ z. z ++ ds) none
