-- The least number of a residue class from a bound on, and the class of a clause.
use Rattle.std.proofs.Common.{◌≡◌, ◌<◌, ◌≤◌, ℕ, ℤ, pos, ◌-ℤ◌, ◌<ℤ◌, true, List, length, get_or, drop, Some, Result, Ok, Err, IsErrAnd, refl, sym, ◌∙◌, ap, subst, arith}
use Rattle.std.specs.Int.{int_rem_euclid}
use Rattle.std.proofs.lemmas.Int.{ints}
use Rattle.base_integers.proofs.Residues.{residue-is, residue-only}
use Rattle.base_integers.proofs.Ring.{sub-mul}
use Rattle.linear_term.specs.Linear.{Linear, coef_of}
use Rattle.linear_term.specs.declared.range.Place.{Place}
use Rattle.base_budget.specs.declared.fault.StepFault.{StepFault}
use Rattle.base_budget.specs.Trace.{Traced, just, next}
use Rattle.base_budget.specs.Work.{Worked}
use Rattle.base_budget.proofs.Charging.{work_ok, work_err, work_just}
use Rattle.base_budget.proofs.Tracing.{next-assoc, next-same, next-just}
use Rattle.clause_set.specs.declared.literal.Literal.{Literal}
use Rattle.clause_set.specs.Literals.{term_of}
use Rattle.clause_set.specs.Names.{is_divisibility}
use Rattle.clause_set.specs.Order.{divisor_of}
use Rattle.solve_laws.specs.Nearest.{is_at_most}
use Rattle.solve_laws.specs.Candidates.{Class, class_of, computed, solutions, upper}
use Rattle.parameter_solver.proofs.Nearness.{rem-range}
use Rattle.parameter_solver.proofs.OneName.{class_then, at_literal, class_here, class_none}
use Rattle.parameter_solver.proofs.Rests.{residue_work}
use Rattle.optimiser.specs.declared.floor.Floor.{Floor}
use Rattle.optimiser.specs.Floors.{floor_when}
use Rattle.optimiser.specs.OneName.{floor_from, up_to_class}

-- the remainder of a difference is that of the difference from a remainder
pub rem-back : (r k m : ℤ) → pos 0 <ℤ m → int_rem_euclid (r -ℤ int_rem_euclid k m) m ≡ int_rem_euclid (r -ℤ k) m
rem-back r k m h =
    let one = residue-is m k h in
    let two = residue-is m (r -ℤ k) h in
    let three = residue-is m (r -ℤ int_rem_euclid k m) h in
    residue-only m (r -ℤ k) (int_rem_euclid (r -ℤ int_rem_euclid k m) m) (int_rem_euclid (r -ℤ k) m) h
    (record {
      not_negative = three.not_negative;
      below = three.below;
      congruent = record {
        quotient = (three.congruent).quotient -ℤ (one.congruent).quotient;
        is = omega (arith, ints, (one.congruent).is, (three.congruent).is, sub-mul (three.congruent).quotient (one.congruent).quotient m);
      };
    })
    two

pub ruleset remainders = (rem-back, rem-range)

-- ---- the class of a divisibility, as a pair
abbrev pub as_pair : Traced Class → Traced (ℤ × ℤ)
as_pair w = next w (λ z. just (z.modulus, z.residue))

pub pair_failed : (j : ℕ) (l : Literal) (t : Linear) (b d k : ℤ) (e : StepFault) (r : Result (ℤ × ℤ) StepFault) → t ≡ term_of l → b ≡ coef_of t j → d ≡ divisor_of l → k ≡ t.constant
    → Worked (residue_work b d k) (Err e) → IsErrAnd r (λ x. x ≡ e) → Worked (as_pair (solutions j (divisor_of l) (term_of l))) r
pair_failed j l t b d k e r is first second third did h =
    subst (λ w. Worked w r) (class_then j (divisor_of l) (term_of l) (λ m n. just (m, n)))
    (work_err _ _ r h (subst (λ w. Worked w (Err e)) (at_literal j l t b d k is first second third) did))

pub pair_done : (j : ℕ) (l : Literal) (t : Linear) (b d k m : ℤ) → t ≡ term_of l → b ≡ coef_of t j → d ≡ divisor_of l → k ≡ t.constant
    → Worked (residue_work b d k) (Ok m) → Worked (as_pair (solutions j (divisor_of l) (term_of l))) (Ok (d, m))
pair_done j l t b d k m is first second third did =
    subst (λ w. Worked w (Ok (d, m))) (class_then j (divisor_of l) (term_of l) (λ y n. just (y, n)))
    (work_ok _ _ (subst (λ w. Worked w (Ok m)) (at_literal j l t b d k is first second third) did) (work_just _ (d, m) (ap (λ (y : ℤ). (y, m)) second)))

-- ---- the class of the first divisibility of a clause, at i, and where there is none
pub class_found : (j : ℕ) (c ls : List Literal) (i : ℕ) (l : Literal) (r : Result (ℤ × ℤ) StepFault) → ls ≡ c → i < length ls → l ≡ get_or ls i l → is_divisibility j l ≡ true
    → class_of j (drop i ls) ≡ class_of j ls → Worked (as_pair (solutions j (divisor_of l) (term_of l))) r → Worked (as_pair (class_of j c)) r
class_found j c ls i l r same lt is h before did =
    subst (λ w. Worked (as_pair w) r) (class_here j ls i l lt is h before ∙ ap (class_of j) same) did

pub class_absent : (j : ℕ) (c ls : List Literal) (i : ℕ) → ls ≡ c → length ls ≤ i → class_of j (drop i ls) ≡ class_of j ls → Worked (as_pair (class_of j c)) (Ok (pos 1, pos 0))
class_absent j c ls i same le before =
    let none : class_of j c ≡ just (record { modulus = pos 1; residue = pos 0 }) = sym (ap (class_of j) same) ∙ class_none j ls i le before in
    subst (λ w. Worked (as_pair w) (Ok (pos 1, pos 0))) (sym none)
    (subst (λ w. Worked w (Ok (pos 1, pos 0))) (sym (next-just (record { modulus = pos 1; residue = pos 0 }) (λ (z : Class). just (z.modulus, z.residue)))) (work_just _ (pos 1, pos 0) refl))

-- ---- the floor from a bound on
-- what comes of the class
abbrev pub above_class : ℕ → List Literal → ℤ → ℤ × ℤ → Traced Floor
above_class j c lo p = next (computed (up_to_class p.0 p.1 lo)) (λ v. just (floor_when (is_at_most v (upper j c)) v))

pub above_again : (j : ℕ) (c : List Literal) (lo : ℤ) → next (as_pair (class_of j c)) (above_class j c lo) ≡ floor_from j c (Some lo)
above_again j c lo =
    next-assoc (class_of j c) (λ z. just (z.modulus, z.residue)) (above_class j c lo)
    ∙ next-same (class_of j c) _ _ (next-just ((class_of j c).value.modulus, (class_of j c).value.residue) (above_class j c lo))

pub above_failed : (j : ℕ) (c : List Literal) (lo : ℤ) (e : StepFault) (r : Result Floor StepFault) → Worked (as_pair (class_of j c)) (Err e) → IsErrAnd r (λ x. x ≡ e) → Worked (floor_from j c (Some lo)) r
above_failed j c lo e r did h = subst (λ w. Worked w r) (above_again j c lo) (work_err (as_pair (class_of j c)) (above_class j c lo) r h did)

pub above_unmeasured : (j : ℕ) (c : List Literal) (lo : ℤ) (p : ℤ × ℤ) (q : Place) (e : StepFault) (r : Result Floor StepFault) → Worked (as_pair (class_of j c)) (Ok p) → q ≡ up_to_class p.0 p.1 lo
    → Worked (computed q) (Err e) → IsErrAnd r (λ x. x ≡ e) → Worked (floor_from j c (Some lo)) r
above_unmeasured j c lo p q e r did is fails h =
    subst (λ w. Worked w r) (above_again j c lo)
    (work_ok (as_pair (class_of j c)) (above_class j c lo) did (work_err (computed (up_to_class p.0 p.1 lo)) _ r h (subst (λ z. Worked (computed z) (Err e)) is fails)))

pub above_done : (j : ℕ) (c : List Literal) (lo v : ℤ) (p : ℤ × ℤ) (q : Place) (f : Floor) → Worked (as_pair (class_of j c)) (Ok p) → q ≡ up_to_class p.0 p.1 lo
    → Worked (computed q) (Ok v) → f ≡ floor_when (is_at_most v (upper j c)) v → Worked (floor_from j c (Some lo)) (Ok f)
above_done j c lo v p q f did is measured floor =
    subst (λ w. Worked w (Ok f)) (above_again j c lo)
    (work_ok (as_pair (class_of j c)) (above_class j c lo) did
    (work_ok (computed (up_to_class p.0 p.1 lo)) (λ u. just (floor_when (is_at_most u (upper j c)) u)) (subst (λ z. Worked (computed z) (Ok v)) is measured) (work_just _ f floor)))
