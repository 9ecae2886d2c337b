-- Calls that solve, without their logs.
use Rattle.std.proofs.Common.{◌≡◌, List, Option, Some, None, Result, Ok, Err, IsErrAnd, ◌≤◌, ℕ, ℤ, [], ◌∷◌, length, refl, ap, ◌∙◌, subst, sym}
use Rattle.base_budget.specs.declared.fault.StepFault.{StepFault}
use Rattle.base_budget.specs.declared.fault.StepFault.TheVariants as step_fault
use Rattle.base_budget.specs.declared.fault.ElimFault.{ElimFault}
use Rattle.base_budget.specs.declared.fault.ElimFault.TheVariants.{Steps, Overflow, Memory}
use Rattle.base_budget.specs.Followed.{Followed, UnlessMemory, after_notes}
use Rattle.base_budget.specs.Work.{Charged}
use Rattle.base_budget.proofs.Charging.{charged_value}
use Rattle.base_budget.proofs.Following.{follow_err, follow_memory, follow_ok, follow_unnoted}
use Rattle.clause_set.specs.declared.literal.Literal.{Literal}
use Rattle.clause_set.specs.Dnfs.{conjunction, negation}
use Rattle.model_trees.specs.Walk.{affirmed, denied, point, read}
use Rattle.elim_laws.specs.Whole.{AreOver}
use Rattle.solve_laws.specs.Solutions.{IsGiven, solving}
use Rattle.base_budget.specs.Trace.{Funds, Mark, Traced}
use Rattle.parameter_solver.specs.declared.solving.Solved.{Solved}
use Rattle.parameter_solver.specs.declared.solving.Solved.TheVariants as solved
use Rattle.countermodel.specs.Doing.{DoesWork, found_in, unnoted}
use Rattle.countermodel.proofs.Found.{affirmed_given, denied_given}
use Rattle.parameter_solver.specs.Logs.{Solves}

always : {A P : Type 0} (r : Result A StepFault) → P → UnlessMemory r P
always (Ok v) h = h
always (Err step_fault.Steps) h = h
always (Err (step_fault.Overflow p)) h = h
always (Err step_fault.Memory) h = tt

nothing : (ms : List Mark) → tt ≡ after_notes unnoted tt ms
nothing [] = refl
nothing (m ∷ ms) = nothing ms

-- the notes of a call are forgotten
pub forget : {A S : Type 0} {add : S → Mark → S} {work : Traced A} {a b : Funds} {s t : S} (r : Result A StepFault) → Followed add work a s r b t → DoesWork work a r b
forget r h = record { notes = h.notes; charged = h.charged; kept = always r (nothing h.notes) }

solved_so : (work : Traced (Option (List ℤ))) (a b : Funds) (r : Result Solved ElimFault) → Solves work a r b → DoesWork work a (found_in r) b
solved_so work a b (Ok (solved.Values vs)) h = forget (Ok (Some vs)) h.1
solved_so work a b (Ok (solved.None log)) h = forget (Ok None) h
solved_so work a b (Err (Steps log)) h = forget (Err step_fault.Steps) h
solved_so work a b (Err (Overflow log p)) h = forget (Err (step_fault.Overflow p)) h
solved_so work a b (Err Memory) h = forget (Err step_fault.Memory) h.1

-- solving, as a call that forgets its logs
pub solved_does : {work : Traced (Option (List ℤ))} {a b : Funds} (r : Result Solved ElimFault) (q : Result (Option (List ℤ)) StepFault) → Solves work a r b → q ≡ found_in r → DoesWork work a q b
solved_does {work} {a} {b} r q h is = subst (λ (z : Result (Option (List ℤ)) StepFault). DoesWork work a z b) (sym is) (solved_so work a b r h)

pub ruleset finding = (forget, solved_does)

-- ---- denied
-- running out of memory before the point
pub denied_here : (n : ℕ) (g : List (List Literal)) (v : List ℤ) {a b : Funds} (d wrong : List (List Literal)) (r : Result (Option (List ℤ)) StepFault) → d ≡ read g → Charged (negation d) a (Ok wrong) b → IsErrAnd r (λ x. x ≡ step_fault.Memory)
    → DoesWork (denied n g v) a r b
denied_here n g v {a} {b} d wrong r is did h =
    follow_ok (negation (read g)) _ (follow_unnoted (Ok wrong) (subst (λ (z : List (List Literal)). Charged (negation z) a (Ok wrong) b) is did)) (follow_memory r h)

-- the conjunction is cut
pub denied_both : (n : ℕ) (g : List (List Literal)) (v : List ℤ) {a b c : Funds} {x : StepFault} (d wrong here : List (List Literal)) (r : Result (Option (List ℤ)) StepFault) → d ≡ read g → Charged (negation d) a (Ok wrong) b → here ≡ point v
    → Charged (conjunction wrong here) b (Err x) c → IsErrAnd r (λ y. y ≡ x) → DoesWork (denied n g v) a r c
denied_both n g v {a} {b} {c} {x} d wrong here r is did at cut h =
    follow_ok (negation (read g)) _ (follow_unnoted (Ok wrong) (subst (λ (z : List (List Literal)). Charged (negation z) a (Ok wrong) b) is did))
    (follow_err (conjunction wrong (point v)) _ r h (follow_unnoted (Err x) (subst (λ (z : List (List Literal)). Charged (conjunction wrong z) b (Err x) c) at cut)))

-- solving is done, or cut
pub denied_done : (n : ℕ) (g : List (List Literal)) (v : List ℤ) {a b c e : Funds} (d wrong here both : List (List Literal)) (r : Result Solved ElimFault) (q : Result (Option (List ℤ)) StepFault) → d ≡ read g → Charged (negation d) a (Ok wrong) b
    → here ≡ point v → Charged (conjunction wrong here) b (Ok both) c → Solves (solving n both) c r e → q ≡ found_in r → DoesWork (denied n g v) a q e
denied_done n g v {a} {b} {c} d wrong here both r q is did at made solved same =
    follow_ok (negation (read g)) _ (follow_unnoted (Ok wrong) (subst (λ (z : List (List Literal)). Charged (negation z) a (Ok wrong) b) is did))
    (follow_ok (conjunction wrong (point v)) _ (follow_unnoted (Ok both) (subst (λ (z : List (List Literal)). Charged (conjunction wrong z) b (Ok both) c) at made)) (solved_does r q solved same))

-- what solving asks
pub denied_over : (n : ℕ) (g : List (List Literal)) (v : List ℤ) {a b c : Funds} (d wrong here both : List (List Literal)) → IsGiven n g → length v ≤ n → d ≡ read g → Charged (negation d) a (Ok wrong) b → here ≡ point v
    → Charged (conjunction wrong here) b (Ok both) c → AreOver n both
denied_over n g v d wrong here both given few is did at made =
    let first : wrong ≡ (negation (read g)).value = charged_value did ∙ ap (λ (z : List (List Literal)). (negation z).value) is in
    let second : both ≡ (conjunction (negation (read g)).value (point v)).value = charged_value made ∙ (λ i. (conjunction (first i) (at i)).value) in
    subst (λ (z : List (List Literal)). AreOver n z) (sym second) (denied_given n g v given few).over

-- ---- affirmed
pub affirmed_done : (n : ℕ) (g : List (List Literal)) (v : List ℤ) {b c e : Funds} (d here both : List (List Literal)) (r : Result Solved ElimFault) (q : Result (Option (List ℤ)) StepFault) → d ≡ read g → here ≡ point v
    → Charged (conjunction d here) b (Ok both) c → Solves (solving n both) c r e → q ≡ found_in r → DoesWork (affirmed n g v) b q e
affirmed_done n g v {b} {c} d here both r q is at made solved same =
    follow_ok (conjunction (read g) (point v)) _ (follow_unnoted (Ok both) (subst (λ (z : List (List Literal)). Charged (conjunction z (point v)) b (Ok both) c) is (subst (λ (z : List (List Literal)). Charged (conjunction d z) b (Ok both) c) at made)))
    (solved_does r q solved same)

pub affirmed_over : (n : ℕ) (g : List (List Literal)) (v : List ℤ) {b c : Funds} (d here both : List (List Literal)) → IsGiven n g → length v ≤ n → d ≡ read g → here ≡ point v → Charged (conjunction d here) b (Ok both) c → AreOver n both
affirmed_over n g v d here both given few is at made =
    let second : both ≡ (conjunction (read g) (point v)).value = charged_value made ∙ (λ i. (conjunction (is i) (at i)).value) in
    subst (λ (z : List (List Literal)). AreOver n z) (sym second) (affirmed_given n g v given few).over
