-- The coefficients of Bézout that a call answers, and the numbers of t + k·x for a term t without x.
use Rattle.std.proofs.Common.{◌≡◌, ℕ, ℤ, pos, ◌+ℤ◌, ◌*ℤ◌, ◌≤ℤ◌, ◌<ℤ◌, Bool, true, false, ◌&&◌, cond, nat_eq, List, [], ◌∷◌, map, Result, Ok, Err, IsErrAnd, refl, sym, ◌∙◌, ap, subst, arith}
use Rattle.std.specs.Prelude.{Contains, IfErr}
use Rattle.std.specs.List.{AllByRecursion, list_all}
use Rattle.std.proofs.lemmas.Int.{ints}
use Rattle.std.proofs.lemmas.Bool.Decides.{nat_tests}
use Rattle.std.proofs.lemmas.List.Elements.{recursion_from_All}
use Rattle.base_integers.specs.Gcd.{nat_gcd, gcd}
use Rattle.base_integers.proofs.Divisor.{nat_gcd-is, gcd-positive}
use Rattle.linear_term.specs.Linear.{Linear, IsCoefficient, IsNormal, has_name, mentions, name, without}
use Rattle.linear_term.specs.Range.{InRange, stays, all_stay, IsCause}
use Rattle.linear_term.specs.Combination.{aligned, place_of, raw_numbers, combination}
use Rattle.linear_term.specs.declared.merge.Aligned.{Aligned}
use Rattle.linear_term.specs.declared.range.Place.{Place}
use Rattle.linear_term.specs.declared.range.TermFault.{TermFault}
use Rattle.linear_term.specs.declared.range.TermFault.TheVariants.{Overflow, Memory}
use Rattle.linear_term.proofs.Combining.{raw_stay}
use Rattle.linear_term.proofs.Names.{combination-unmentioned, without-free}
use Rattle.linear_term.proofs.Euclid.{gcd_small}
use Rattle.linear_term.proofs.Ranges.{test-from_Stays, All-from_all_stay}
use Rattle.linear_term.proofs.Totals.{by_names}
use Rattle.base_budget.specs.declared.fault.StepFault.{StepFault}
use Rattle.base_budget.specs.declared.fault.StepFault.TheVariants as step_fault
use Rattle.base_budget.specs.Trace.{Traced}
use Rattle.base_budget.specs.Work.{Worked, step_fault_of}
use Rattle.base_budget.proofs.Charging.{work_memory}
use Rattle.clause_set.specs.Bezout.{bezout}
use Rattle.clause_set.specs.Divisibilities.{with_name}
use Rattle.clause_set.specs.Literals.{IsDivisor}
use Rattle.elim_rule_laws.proofs.Bezouts.{bezout-only}

-- ---- the coefficients of Bézout
pub bezout_found : (a b g p q : ℤ) → pos 0 <ℤ a → pos 0 <ℤ b → g ≡ gcd a b → g ≡ (p *ℤ a) +ℤ (q *ℤ b) → (pos 0 ≤ℤ p) × ((p *ℤ g) <ℤ b)
    → record { g = g; p = p; q = q } ≡ bezout a b
bezout_found a b g p q ha hb d s l = bezout-only a b (record { g = g; p = p; q = q }) ha hb (record { divisor = d; sum = s; not_negative = l.0; least = l.1 })

gcd_in_range : (a b : ℤ) → InRange a → InRange b → InRange (gcd a b)
unfolding gcd
gcd_in_range a b h k = gcd_small a b _ _ (nat_gcd _ _) refl refl (nat_gcd-is _ _) h k

pub gcd_divisor : (a b g : ℤ) → pos 0 <ℤ a → InRange a → InRange b → g ≡ gcd a b → IsDivisor g
gcd_divisor a b g pa h k is = subst IsDivisor (sym is) (record { positive = gcd-positive a b (λ e. omega (arith, ints)); in_range = gcd_in_range a b h k })

-- ---- t + k·x
left_stays : (k a : ℤ) → InRange a → stays (record { m = pos 1; a = a; n = k; b = pos 0 }) ≡ true
left_stays k a h = test-from_Stays _ (record { left = omega (arith, ints); right = omega (arith, ints); whole = omega (arith, ints) })

right_stays : (k : ℤ) → InRange k → stays (record { m = pos 1; a = pos 0; n = k; b = pos 1 }) ≡ true
right_stays k h = test-from_Stays _ (record { left = omega (arith, ints); right = omega (arith, ints); whole = omega (arith, ints) })

abbrev AllStay : ℤ → List Aligned → Type 0
AllStay k rs = list_all stays (map (place_of (pos 1) k) rs) ≡ true

both : (a b : Bool) → a ≡ true → b ≡ true → (a && b) ≡ true
both a b h k = ap (λ z. z && b) h ∙ k

alone_stay : (k : ℤ) (ps : List (ℕ × ℤ)) → AllByRecursion (λ (p : ℕ × ℤ). IsCoefficient p.1) ps → AllStay k (aligned ps [])
alone_stay k [] h = refl
alone_stay k (p ∷ ps) h = both _ _ (left_stays k p.1 (h.0).in_range) (alone_stay k ps h.1)

named_step : (k : ℤ) (x : ℕ) (p : ℕ × ℤ) (ps : List (ℕ × ℤ)) (t : Bool) → nat_eq p.0 x ≡ t → InRange k → InRange p.1 → AllStay k (aligned ps [])
    → (has_name ps x ≡ false → AllStay k (aligned ps ((x, pos 1) ∷ []))) → cond t true (has_name ps x) ≡ false → AllStay k (aligned (p ∷ ps) ((x, pos 1) ∷ []))
named_step k x p ps true d hk hp rest more h = absurd (cc)
named_step k x p ps false d hk hp rest more h =
    by_names (AllStay k) p.0 x _ _ _
    (λ lt. both _ _ (left_stays k p.1 hp) (more h))
    (λ lt. both _ _ (right_stays k hk) (both _ _ (left_stays k p.1 hp) rest))
    (λ e. let same : nat_eq p.0 x ≡ true = grind (arith, nat_tests) in absurd (cc))

named_stay : (k : ℤ) (x : ℕ) (ps : List (ℕ × ℤ)) → InRange k → AllByRecursion (λ (p : ℕ × ℤ). IsCoefficient p.1) ps → has_name ps x ≡ false
    → AllStay k (aligned ps ((x, pos 1) ∷ []))
named_stay k x [] hk h free = both _ _ (right_stays k hk) refl
named_stay k x (p ∷ ps) hk h free = named_step k x p ps (nat_eq p.0 x) refl hk (h.0).in_range (alone_stay k ps h.1) (named_stay k x ps hk h.1) free

numbers_stay : (k : ℤ) (x : ℕ) (t : Linear) → InRange k → IsNormal t → mentions t x ≡ false → all_stay (raw_numbers (pos 1) t k (name x)) ≡ true
unfolding mentions all_stay
numbers_stay k x t hk h free =
    raw_stay (pos 1) k t (name x) (named_stay k x t.pairs hk (recursion_from_All (λ (p : ℕ × ℤ). IsCoefficient p.1) t.pairs h.coefficients) free) (left_stays k t.constant h.constant)

no_cause : (k : ℤ) (x : ℕ) (t : Linear) (p : Place) → all_stay (raw_numbers (pos 1) t k (name x)) ≡ true → Contains (raw_numbers (pos 1) t k (name x)) p → stays p ≡ false → ⊥
no_cause k x t p stay among leaves =
    let fine : stays p ≡ true = subst (λ z. stays z ≡ true) among.2 (All-from_all_stay _ stay among.0 p among.1) in
    absurd (cc)

naming_fault : (k : ℤ) (x : ℕ) (t u : Linear) (fault : TermFault) → InRange k → IsNormal t → mentions t x ≡ false → u ≡ name x → IsCause fault (raw_numbers (pos 1) t k u) → fault ≡ Memory
naming_fault k x t u Memory hk h free is cause = refl
naming_fault k x t u (Overflow p) hk h free is cause =
    let among : Contains (raw_numbers (pos 1) t k (name x)) p = subst (λ z. Contains (raw_numbers (pos 1) t k z) p) is cause.0 in
    absurd (no_cause k x t p (numbers_stay k x t hk h free) among cause.1)

only_memory : (fault : TermFault) (r : Result Linear StepFault) → fault ≡ Memory → IsErrAnd r (λ e. e ≡ step_fault_of fault) → IfErr r (λ e. e ≡ step_fault.Memory)
only_memory fault (Ok v) is h = tt
only_memory fault (Err e) is h = h ∙ ap step_fault_of is

pub naming_fails : (k : ℤ) (x : ℕ) (t u : Linear) (fault : TermFault) (r : Result Linear StepFault) → InRange k → IsNormal t → mentions t x ≡ false → u ≡ name x
    → IsCause fault (raw_numbers (pos 1) t k u) → IsErrAnd r (λ e. e ≡ step_fault_of fault) → IfErr r (λ e. e ≡ step_fault.Memory)
naming_fails k x t u fault r hk h free is cause failed = only_memory fault r (naming_fault k x t u fault hk h free is cause) failed

pub naming_done : (k : ℤ) (x : ℕ) (t u v : Linear) → u ≡ name x → v ≡ combination (pos 1) t k u → v ≡ with_name x k t
naming_done k x t u v is done = done ∙ ap (combination (pos 1) t k) is

-- a call that fails for lack of memory alone
pub memory_only : {A : Type 0} {m : Traced A} (e : StepFault) (r : Result A StepFault) → e ≡ step_fault.Memory → IsErrAnd r (λ z. z ≡ e) → Worked m r
memory_only e r is h = work_memory r (subst (λ f. IsErrAnd r (λ z. z ≡ f)) is h)

-- terms without x
pub combination-free : (m n : ℤ) (s t u v w : Linear) (x : ℕ) → s ≡ without u x → t ≡ without v x → w ≡ combination m s n t → mentions w x ≡ false
combination-free m n s t u v w x is_s is_t is =
    ap (λ z. mentions z x) is ∙ combination-unmentioned m n s t x (ap (λ z. mentions z x) is_s ∙ without-free u x) (ap (λ z. mentions z x) is_t ∙ without-free v x)

pub ruleset naming = (memory_only)
