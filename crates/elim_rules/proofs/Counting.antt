-- The number of splinters, and the numbers of their bound.
use Rattle.std.proofs.Common.{rules, ◌≡◌, ◌+◌, ◌<◌, ◌^◌, ◌-◌, ◌≤◌, ℕ, suc, ℤ, pos, negsuc, neg_ℤ, ◌+ℤ◌, ◌-ℤ◌, ◌*ℤ◌, ◌≤ℤ◌, ◌<ℤ◌, unsigned_abs, true, false, ◌&&◌, List, [], ◌∷◌, ◌++◌, Result, Ok, Err, IsErrAnd, refl, sym, ◌∙◌, ap, subst, arith}
use Rattle.std.specs.Prelude.{Contains}
use Rattle.std.specs.Int.{int_div_euclid}
use Rattle.std.proofs.lemmas.Int.{ints}
use lib.IntN.{*ℤ_comm}
use mir.Syntax.{w128}
use mir.Val.{SFits}
use Rattle.base_integers.specs.Floor.{IsFloor}
use Rattle.base_integers.proofs.Ring.{sub-mul, neg-mul}
use Rattle.base_integers.proofs.Order.{mul_le_right, lt_of_mul_lt, between_multiples}
use Rattle.base_integers.proofs.Floors.{floor-is, floor-only, floor-sum}
use Rattle.linear_term.specs.Linear.{Linear, number}
use Rattle.linear_term.specs.Range.{InRange, stays, all_stay}
use Rattle.linear_term.specs.declared.range.Place.{Place}
use Rattle.linear_term.specs.declared.range.TermFault.{TermFault}
use Rattle.linear_term.specs.declared.range.TermFault.TheVariants.{Overflow}
use Rattle.base_budget.specs.declared.fault.StepFault.{StepFault}
use Rattle.base_budget.specs.Trace.{compute, each}
use Rattle.base_budget.specs.Work.{Worked, step_fault_of}
use Rattle.base_budget.proofs.Charging.{raw_ok, raw_leaves, work_ok, work_err, work_just}
use Rattle.clause_set.specs.declared.literal.Literal.{Literal}
use Rattle.clause_set.specs.declared.literal.Literal.TheVariants.{Eq}
use Rattle.clause_set.specs.Literals.{term_of}
use Rattle.clause_set.specs.Names.{product}
use Rattle.base_budget.specs.Trace.{combining}
use Rattle.clause_set.specs.Shadows.{difference, factor, splinter, splinter_count, splinters}
use Rattle.clause_set.specs.Divisibilities.{numbers_from}
use Rattle.elim_rules.specs.Splinters.{splinter_numbers}

-- ---- how many: b + ⌊−b/a⌋
below_floor : (a b q : ℤ) → pos 0 <ℤ a → pos 0 <ℤ b → IsFloor (neg_ℤ b) a q → (q <ℤ pos 0) × (neg_ℤ b ≤ℤ q)
below_floor a b q ha hb f =
    let not_negative : pos 0 ≤ℤ a = omega (arith, ints) in
    let one : pos 1 ≤ℤ a = omega (arith, ints) in
    let b_not : pos 0 ≤ℤ b = omega (arith, ints) in
    let grows : (pos 1 *ℤ b) ≤ℤ (a *ℤ b) = mul_le_right (pos 1) a b b_not one in (
      lt_of_mul_lt q (pos 0) a not_negative (omega (arith, ints, f.below)),
      between_multiples (neg_ℤ b) q a ha (omega (arith, ints, f.greatest, grows, neg-mul b a, *ℤ_comm b a)),
    )

pub count_is : (a b q : ℤ) → pos 0 <ℤ a → IsFloor (neg_ℤ b) a q → splinter_count a b ≡ unsigned_abs (b +ℤ q)
count_is a b q ha f =
    let same : q ≡ int_div_euclid (neg_ℤ b) a = floor-only (neg_ℤ b) a q (int_div_euclid (neg_ℤ b) a) ha f (floor-is (neg_ℤ b) a ha) in
    let split : ((a *ℤ b) -ℤ a) -ℤ b ≡ ((b -ℤ pos 1) *ℤ a) +ℤ neg_ℤ b = omega (arith, ints, sub-mul b (pos 1) a, *ℤ_comm a b) in
    let whole : int_div_euclid (((a *ℤ b) -ℤ a) -ℤ b) a ≡ (b -ℤ pos 1) +ℤ q = ap (λ z. int_div_euclid z a) split ∙ floor-sum (b -ℤ pos 1) (neg_ℤ b) a ha ∙ ap (λ z. (b -ℤ pos 1) +ℤ z) (sym same) in
    let sum : int_div_euclid (((a *ℤ b) -ℤ a) -ℤ b) a +ℤ pos 1 ≡ b +ℤ q = omega (arith, ints, whole) in
    ap unsigned_abs sum

pub counted : (a b q : ℤ) (n : ℕ) → pos 0 <ℤ a → IsFloor (neg_ℤ b) a q → n ≡ unsigned_abs (b +ℤ q) → n ≡ splinter_count a b
counted a b q n ha f is = is ∙ sym (count_is a b q ha f)

pub counted_range : (a b q : ℤ) (n : ℕ) → pos 0 <ℤ a → pos 0 <ℤ b → InRange b → IsFloor (neg_ℤ b) a q → n ≡ unsigned_abs (b +ℤ q) → n < 2 ^ 127
counted_range a b q n ha hb range f is =
    let low = below_floor a b q ha hb f in
    let first = low.0 in
    let second = low.1 in
    let size : unsigned_abs (b +ℤ q) < unsigned_abs b + 1 = omega (arith, ints) in
    omega arith

pub sum_fits : (a b q : ℤ) → pos 0 <ℤ a → pos 0 <ℤ b → InRange b → IsFloor (neg_ℤ b) a q → SFits w128 (b +ℤ q)
sum_fits a b q ha hb range f =
    let low = below_floor a b q ha hb f in
    let first = low.0 in
    let second = low.1 in
    let size : InRange (b +ℤ q) = omega (arith, ints) in
    search rules

pub negated_fits : (b : ℤ) → InRange b → SFits w128 (pos 0 +ℤ neg_ℤ b)
negated_fits b h = let size : InRange (pos 0 +ℤ neg_ℤ b) = omega (arith, ints) in search rules

pub negated_floor : (a b q : ℤ) → IsFloor (pos 0 +ℤ neg_ℤ b) a q → IsFloor (neg_ℤ b) a q
negated_floor a b q f = let same : pos 0 +ℤ neg_ℤ b ≡ neg_ℤ b = omega (arith, ints) in subst (λ z. IsFloor z a q) same f

-- ---- the numbers of the bound
leaves_among : (ps : List Place) (p : Place) (fault : TermFault) (r : Result (Unit {0}) StepFault) → Contains ps p → (fault ≡ Overflow p) × (stays p ≡ false)
    → IsErrAnd r (λ e. e ≡ step_fault_of fault) → Worked (compute ps) r
leaves_among ps p fault r among cause h = raw_leaves ps tt p r (subst (λ f. IsErrAnd r (λ e. e ≡ step_fault_of f)) cause.0 h) among cause.1

pub first_leaves : (a b : ℤ) (fault : TermFault) (r : Result (Unit {0}) StepFault) → (fault ≡ Overflow (product a b)) × (stays (product a b) ≡ false)
    → IsErrAnd r (λ e. e ≡ step_fault_of fault) → Worked (compute (splinter_numbers a b)) r
first_leaves a b fault r = leaves_among (splinter_numbers a b) (product a b) fault r (0, omega arith, refl)

pub second_leaves : (a b w : ℤ) (fault : TermFault) (r : Result (Unit {0}) StepFault) → w ≡ (a *ℤ b) +ℤ (pos 0 *ℤ pos 0) → (fault ≡ Overflow (difference w a)) × (stays (difference w a) ≡ false)
    → IsErrAnd r (λ e. e ≡ step_fault_of fault) → Worked (compute (splinter_numbers a b)) r
second_leaves a b w fault r is cause =
    let same : w ≡ a *ℤ b = is ∙ omega (arith, ints) in
    leaves_among (splinter_numbers a b) (difference w a) fault r (1, omega arith, ap (λ z. difference z a) (sym same)) cause

pub third_leaves : (a b w l : ℤ) (fault : TermFault) (r : Result (Unit {0}) StepFault) → w ≡ (a *ℤ b) +ℤ (pos 0 *ℤ pos 0) → l ≡ (pos 1 *ℤ w) +ℤ (negsuc 0 *ℤ a)
    → (fault ≡ Overflow (difference l b)) × (stays (difference l b) ≡ false) → IsErrAnd r (λ e. e ≡ step_fault_of fault) → Worked (compute (splinter_numbers a b)) r
third_leaves a b w l fault r is less cause =
    let same : l ≡ (a *ℤ b) -ℤ a = omega (arith, ints, is, less) in
    leaves_among (splinter_numbers a b) (difference l b) fault r (2, omega arith, ap (λ z. difference z b) (sym same)) cause

pub all_fine : (a b w l : ℤ) → w ≡ (a *ℤ b) +ℤ (pos 0 *ℤ pos 0) → l ≡ (pos 1 *ℤ w) +ℤ (negsuc 0 *ℤ a) → stays (product a b) ≡ true → stays (difference w a) ≡ true → stays (difference l b) ≡ true
    → Worked (compute (splinter_numbers a b)) (Ok (tt {0}))
unfolding all_stay
all_fine a b w l is less f g h =
    let first : w ≡ a *ℤ b = is ∙ omega (arith, ints) in
    let second : l ≡ (a *ℤ b) -ℤ a = omega (arith, ints, is, less) in
    let k : stays (difference (a *ℤ b) a) ≡ true = subst (λ z. stays (difference z a) ≡ true) first g in
    let m : stays (difference ((a *ℤ b) -ℤ a) b) ≡ true = subst (λ z. stays (difference z b) ≡ true) second h in
    raw_ok (splinter_numbers a b) tt tt
    (ap (λ z. z && (stays (difference (a *ℤ b) a) && (stays (difference ((a *ℤ b) -ℤ a) b) && true))) f ∙ ap (λ z. z && (stays (difference ((a *ℤ b) -ℤ a) b) && true)) k ∙ ap (λ z. z && true) m) refl

-- ---- one splinter
pub splinter_failed : (c : List Literal) (low : Literal) (i : ℕ) (t k : Linear) (e : StepFault) (r : Result (List (List Literal)) StepFault) → t ≡ term_of low → k ≡ number (pos i)
    → Worked (combining (pos 1) t (negsuc 0) k) (Err e) → IsErrAnd r (λ z. z ≡ e) → Worked (splinter c low i) r
splinter_failed c low i t k e r it is fails h =
    work_err _ _ r h (subst (λ z. Worked (combining (pos 1) z (negsuc 0) (number (pos i))) (Err e)) it (subst (λ z. Worked (combining (pos 1) t (negsuc 0) z) (Err e)) is fails))

pub splinter_done : (c : List Literal) (low : Literal) (i : ℕ) (t k u : Linear) (value : List (List Literal)) → t ≡ term_of low → k ≡ number (pos i)
    → Worked (combining (pos 1) t (negsuc 0) k) (Ok u) → value ≡ (c ++ Eq u ∷ []) ∷ [] → Worked (splinter c low i) (Ok value)
splinter_done c low i t k u value it is done same =
    work_ok _ _ (subst (λ z. Worked (combining (pos 1) z (negsuc 0) (number (pos i))) (Ok u)) it (subst (λ z. Worked (combining (pos 1) t (negsuc 0) z) (Ok u)) is done)) (work_just _ _ same)

-- ---- the splinters of a bound
pub numbers_next : (i count : ℕ) → i < count → numbers_from i (count - i) ≡ i ∷ numbers_from (i + 1) (count - (i + 1))
numbers_next i count lt =
    let left : count - i ≡ suc (count - (i + 1)) = omega arith in
    let next : suc i ≡ i + 1 = omega arith in
    ap (numbers_from i) left ∙ ap (λ k. i ∷ numbers_from k (count - (i + 1))) next

pub numbers_end : (i count : ℕ) → count ≤ i → numbers_from i (count - i) ≡ []
numbers_end i count le = let none : count - i ≡ 0 = omega arith in ap (numbers_from i) none

pub bound_failed : (x : ℕ) (c : List Literal) (low : Literal) (a b : ℤ) (e : StepFault) (r : Result (List (List Literal)) StepFault) → b ≡ factor x low
    → Worked (compute (splinter_numbers a b)) (Err e) → IsErrAnd r (λ z. z ≡ e) → Worked (splinters x c a low) r
bound_failed x c low a b e r is fails h = work_err _ _ r h (subst (λ z. Worked (compute (splinter_numbers a z)) (Err e)) is fails)

pub bound_done : (x : ℕ) (c : List Literal) (low : Literal) (a b : ℤ) (n : ℕ) (r : Result (List (List Literal)) StepFault) {v : Unit {0}} → b ≡ factor x low → n ≡ splinter_count a b
    → Worked (compute (splinter_numbers a b)) (Ok v) → Worked (each (splinter c low) (numbers_from 0 n) []) r → Worked (splinters x c a low) r
bound_done x c low a b n r {v} is count first rest =
    work_ok _ _ (subst (λ z. Worked (compute (splinter_numbers a z)) (Ok v)) is first)
    (subst (λ m. Worked (each (splinter c low) (numbers_from 0 m) []) r) (count ∙ ap (splinter_count a) is) rest)
