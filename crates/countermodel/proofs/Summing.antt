-- A term evaluated pair by pair.
use Rattle.std.proofs.Common.{◌≡◌, ℕ, ℤ, pos, List, [], ◌∷◌, Result, Ok, Err, IsErrAnd, length, refl, subst, arith}
use Rattle.base_integers.specs.Entry.{entry}
use Rattle.linear_term.specs.Linear.{Linear}
use Rattle.base_budget.specs.declared.fault.StepFault.{StepFault}
use Rattle.base_budget.specs.Work.{Worked}
use Rattle.base_budget.proofs.Charging.{Left, left_ends, left_next, work_err, work_just}
use Rattle.model_trees.specs.Rows.{evaluated, summed}
use Rattle.solve_laws.specs.Candidates.{computed}

pub sum_cut : {x : StepFault} (e : List ℤ) (p : ℕ × ℤ) (more rest : List (ℕ × ℤ)) (s a : ℤ) (t : Linear) (r : Result ℤ StepFault) → rest ≡ p ∷ more → a ≡ entry e p.0 → Left (summed e rest s) (evaluated e t)
    → Worked (computed (record { m = p.1; a = a; n = pos 1; b = s })) (Err x) → IsErrAnd r (λ y. y ≡ x) → Worked (evaluated e t) r
sum_cut {x} e p more rest s a t r is at inv did h =
    let there : Left (summed e (p ∷ more) s) (evaluated e t) = subst (λ (ps : List (ℕ × ℤ)). Left (summed e ps s) (evaluated e t)) is inv in
    left_ends there (work_err (computed (record { m = p.1; a = entry e p.0; n = pos 1; b = s })) (summed e more) r h (subst (λ (z : ℤ). Worked (computed (record { m = p.1; a = z; n = pos 1; b = s })) (Err x)) at did))

pub sum_next : (e : List ℤ) (p : ℕ × ℤ) (more rest : List (ℕ × ℤ)) (s a z : ℤ) (t : Linear) → rest ≡ p ∷ more → a ≡ entry e p.0 → Left (summed e rest s) (evaluated e t)
    → Worked (computed (record { m = p.1; a = a; n = pos 1; b = s })) (Ok z) → Left (summed e more z) (evaluated e t)
sum_next e p more rest s a z t is at inv did =
    let there : Left (summed e (p ∷ more) s) (evaluated e t) = subst (λ (ps : List (ℕ × ℤ)). Left (summed e ps s) (evaluated e t)) is inv in
    left_next (computed (record { m = p.1; a = entry e p.0; n = pos 1; b = s })) (summed e more) there (subst (λ (y : ℤ). Worked (computed (record { m = p.1; a = y; n = pos 1; b = s })) (Ok z)) at did)

pub sum_done : (e : List ℤ) (rest : List (ℕ × ℤ)) (s : ℤ) (t : Linear) → length rest ≡ 0 → Left (summed e rest s) (evaluated e t) → Worked (evaluated e t) (Ok s)
sum_done e [] s t none inv = left_ends inv (work_just s s refl)
sum_done e (p ∷ rest) s t none inv = absurd (omega (arith, none))
