-- Multiples of terms, and names.
use Rattle.std.proofs.Common.{◌≡◌, ◌<◌, ◌≤◌, ℕ, zero, suc, ℤ, pos, true, List, [], ◌∷◌, length, get_or, Result, Ok, Err, IfOk, OnOk, IfErr, refl, sym, subst, ap, arith}
use Rattle.linear_term.specs.Linear as linear
use Rattle.linear_term.specs.Linear.{Linear}
use Rattle.linear_term.specs.Range.{all_stay, IsCause}
use Rattle.linear_term.specs.Combination.{combination, raw_numbers}
use Rattle.linear_term.specs.declared.range.TermFault.{TermFault}
use Rattle.linear_term.specs.declared.range.TermFault.TheVariants as term_fault
use Rattle.base_budget.specs.declared.fault.StepFault.TheVariants as step_fault
use Rattle.base_budget.specs.Trace.{combining}
use Rattle.base_budget.proofs.Charging.{raw_ok, raw_leaves, work_memory}
use Rattle.formula.specs.Made.{Made}
use Rattle.form_encoding.specs.Encoding.{multiple, named}

combination_made : (k : ℤ) (t u : Linear) (r : Result Linear TermFault) → IfOk r (λ x. x ≡ combination k t (pos 0) u) → OnOk r (all_stay (raw_numbers k t (pos 0) u) ≡ true)
    → IfErr r (λ fault. IsCause fault (raw_numbers k t (pos 0) u)) → Made (λ x. x) (combining k t (pos 0) u) r
combination_made k t u (Ok x) exact stay over = record { works = raw_ok (raw_numbers k t (pos 0) u) (combination k t (pos 0) u) x stay exact }
combination_made k t u (Err (term_fault.Overflow p)) exact stay over =
    record { works = raw_leaves (raw_numbers k t (pos 0) u) (combination k t (pos 0) u) p (Err (step_fault.Overflow p)) refl (over.0) (over.1) }
combination_made k t u (Err term_fault.Memory) exact stay over = record { works = work_memory (Err step_fault.Memory) refl }

-- the multiple by a number that is the constant of a term
pub multiple_made : (k c : ℤ) (t u : Linear) (r : Result Linear TermFault) → k ≡ c → u ≡ linear.number (pos 0) → IfOk r (λ x. x ≡ combination k t (pos 0) u)
    → OnOk r (all_stay (raw_numbers k t (pos 0) u) ≡ true) → IfErr r (λ fault. IsCause fault (raw_numbers k t (pos 0) u)) → Made (λ x. x) (multiple c t) r
multiple_made k c t u r same none exact stay over =
    subst (λ z. Made (λ x. x) (combining z t (pos 0) (linear.number (pos 0))) r) same
    (subst (λ z. Made (λ x. x) (combining k t (pos 0) z) r) none (combination_made k t u r exact stay over))

pub named-some : (ys : List ℕ) (x y : ℕ) → x < length ys → y ≡ get_or ys x 0 → named ys x ≡ linear.name y
named-some [] x y lt h = absurd (omega arith)
named-some (z ∷ zs) zero y lt h = ap linear.name (sym h)
named-some (z ∷ zs) (suc x) y lt h = named-some zs x y (omega arith) h

pub named-none : (ys : List ℕ) (x : ℕ) → length ys ≤ x → named ys x ≡ linear.number (pos 0)
named-none [] x le = refl
named-none (z ∷ zs) zero le = absurd (omega arith)
named-none (z ∷ zs) (suc x) le = named-none zs x (omega arith)
