-- Clauses that speak of one name alone: their first divisibility, their equation, and the truth of their literals.
use Rattle.std.proofs.Common.{◌≡◌, ◌<◌, ◌≤◌, ◌+◌, ℕ, zero, suc, ℤ, pos, negsuc, neg_ℤ, ◌+ℤ◌, ◌*ℤ◌, ◌<ℤ◌, Bool, true, false, ◌&&◌, List, [], ◌∷◌, ◌++◌, map, drop, length, get_or, Option, Some, Result, Ok, Err, IsErrAnd, Contains, refl, sym, ◌∙◌, ap, subst, arith}
use Rattle.std.specs.Prelude.{All, IfOk, remove, slice_get}
use Rattle.std.specs.Cmp.{first_so, second_so}
use mathlib.Core.Logic.{inl, inr}
use Rattle.std.specs.List.{AllByRecursion}
use Rattle.std.proofs.lemmas.Int.{ints}
use Rattle.std.proofs.lemmas.List.{get_or-map, length-map}
use Rattle.std.proofs.lemmas.List.Elements.{All-append, All-from_recursion, recursion_from_All, Contains-get_or}
use Rattle.base_integers.specs.Entry.{put}
use Rattle.linear_term.specs.Range.{InRange, stays, all_stay}
use Rattle.linear_term.specs.Linear.{Linear, coef_of, value_of}
use Rattle.linear_term.proofs.Ranges.{Stays-from_test}
use Rattle.linear_term.specs.declared.range.Place.{Place}
use Rattle.linear_term.specs.declared.range.TermFault.{TermFault}
use Rattle.linear_term.specs.declared.range.TermFault.TheVariants as term_fault
use Rattle.base_budget.specs.declared.fault.StepFault.{StepFault}
use Rattle.base_budget.specs.declared.fault.StepFault.TheVariants.{Memory}
use Rattle.base_budget.specs.Trace.{Traced, raw, at, just, step, next, compute}
use Rattle.base_budget.specs.Work.{Worked, step_fault_of}
use Rattle.base_budget.proofs.Charging.{work_ok, work_err, work_just, work_memory, raw_ok, raw_leaves, worked_value, drop-item, drop_all}
use Rattle.base_budget.proofs.Meaning.{passes_where_runs}
use Rattle.base_budget.proofs.Tracing.{next-assoc, next-same, next-just}
use Rattle.clause_set.specs.declared.literal.Literal.{Literal}
use Rattle.clause_set.specs.declared.literal.Literal.TheVariants.{Eq, Geq, Div, NDiv}
use Rattle.clause_set.specs.Literals.{HasDivisor, IsDivisor, term_of, literal_truth, clause_truth}
use Rattle.clause_set.specs.Names.{coefficient, is_divisibility, is_equation}
use Rattle.clause_set.specs.Order.{divisor_of}
use Rattle.clause_set.specs.Rules.{passes}
use Rattle.elim_rule_laws.proofs.EquationLists.{kept-removed}
use Rattle.solve_laws.specs.Nearest.{when, is_at_most, is_at_least}
use Rattle.solve_laws.specs.Candidates.{IsAlone, IsSingle, solutions, class_of, value_number, root, root_of, root_at, computed, up_from, down_from, two_between, lower, upper, bounded}
use Rattle.solve_laws.proofs.Alone.{single-value, single-coefficient, single-mentions}
use Rattle.parameter_solver.specs.Values.{is_true_of}
use Rattle.parameter_solver.proofs.Rests.{residue_work}

-- ---- the first divisibility
pub coefficient_positive : (j : ℕ) (d : ℤ) (t : Linear) → IsAlone j (Div d t) → pos 0 <ℤ coef_of t j
coefficient_positive j d t h = subst (λ b. pos 0 <ℤ b) (sym (single-coefficient j h.0 t h.1)) h.2

-- its class, and what comes of it
pub class_then : {A : Type 0} (j : ℕ) (d : ℤ) (t : Linear) (f : ℤ → ℤ → Traced A) → next (residue_work (coef_of t j) d t.constant) (f d) ≡ next (solutions j d t) (λ z. f z.modulus z.residue)
unfolding next just step
class_then j d t f = refl

not_true : (P : Type 0) (b : Bool) → b ≡ true → b ≡ false → P
not_true P b t f = absurd (cc)

residue_same : (b y d z k x : ℤ) → b ≡ y → d ≡ z → k ≡ x → residue_work b d k ≡ residue_work y z x
residue_same b y d z k x e f g = ap (λ v. residue_work v d k) e ∙ ap (λ v. residue_work y v k) f ∙ ap (λ v. residue_work y z v) g

pub at_literal : (j : ℕ) (l : Literal) (t : Linear) (b d k : ℤ) → t ≡ term_of l → b ≡ coef_of t j → d ≡ divisor_of l → k ≡ t.constant → residue_work b d k ≡ residue_work (coef_of (term_of l) j) (divisor_of l) (term_of l).constant
at_literal j l t b d k is first second third =
    residue_same b (coef_of (term_of l) j) d (divisor_of l) k (term_of l).constant (first ∙ ap (λ z. coef_of z j) is) second (third ∙ ap (λ (z : Linear). z.constant) is)

pub class_failed : (j : ℕ) (l : Literal) (t : Linear) (b d k : ℤ) (lo hi : Option ℤ) (e : StepFault) (r : Result (List ℤ) StepFault) → t ≡ term_of l → b ≡ coef_of t j → d ≡ divisor_of l → k ≡ t.constant
    → Worked (residue_work b d k) (Err e) → IsErrAnd r (λ x. x ≡ e) → Worked (next (solutions j (divisor_of l) (term_of l)) (λ z. two_between z.modulus z.residue lo hi)) r
class_failed j l t b d k lo hi e r is first second third did h =
    subst (λ w. Worked w r) (class_then j (divisor_of l) (term_of l) (λ m n. two_between m n lo hi))
    (work_err _ _ r h (subst (λ w. Worked w (Err e)) (at_literal j l t b d k is first second third) did))

pub class_done : (j : ℕ) (l : Literal) (t : Linear) (b d k m : ℤ) (lo hi : Option ℤ) (r : Result (List ℤ) StepFault) → t ≡ term_of l → b ≡ coef_of t j → d ≡ divisor_of l → k ≡ t.constant
    → Worked (residue_work b d k) (Ok m) → Worked (two_between d m lo hi) r → Worked (next (solutions j (divisor_of l) (term_of l)) (λ z. two_between z.modulus z.residue lo hi)) r
class_done j l t b d k m lo hi r is first second third did rest =
    subst (λ w. Worked w r) (class_then j (divisor_of l) (term_of l) (λ y n. two_between y n lo hi))
    (work_ok _ _ (subst (λ w. Worked w (Ok m)) (at_literal j l t b d k is first second third) did) (subst (λ y. Worked (two_between y m lo hi) r) second rest))

pub class_behind : (j : ℕ) (l : Literal) (ls : List Literal) → IsAlone j l → is_divisibility j l ≡ false → class_of j (l ∷ ls) ≡ class_of j ls
class_behind j (Eq t) ls a n = refl
class_behind j (Geq t) ls a n = refl
class_behind j (Div d t) ls a n = not_true _ _ (single-mentions j a.0 t a.1) n
class_behind j (NDiv d t) ls a n = refl

item_of : (P : Literal → Type 0) (ls : List Literal) (i : ℕ) (l : Literal) → All P ls → i < length ls → l ≡ get_or ls i l → P l
item_of P ls i l h lt is = subst P (sym is) (h i l lt)

pub class_step : (j : ℕ) (ls : List Literal) (i : ℕ) (l : Literal) → All (IsAlone j) ls → i < length ls → l ≡ get_or ls i l → is_divisibility j l ≡ false
    → class_of j (drop i ls) ≡ class_of j ls → class_of j (drop (i + 1) ls) ≡ class_of j ls
class_step j ls i l a lt is n h =
    sym (ap (class_of j) (drop-item ls i l lt is) ∙ class_behind j l (drop (i + 1) ls) (item_of (IsAlone j) ls i l a lt is) n) ∙ h

divisibility_is : (j : ℕ) (l : Literal) → is_divisibility j l ≡ true → l ≡ Div (divisor_of l) (term_of l)
divisibility_is j (Eq t) h = absurd (cc)
divisibility_is j (Geq t) h = absurd (cc)
divisibility_is j (Div d t) h = refl
divisibility_is j (NDiv d t) h = absurd (cc)

pub divisibility_alone : (j : ℕ) (l : Literal) → is_divisibility j l ≡ true → IsAlone j l → IsAlone j (Div (divisor_of l) (term_of l))
divisibility_alone j l h a = subst (IsAlone j) (divisibility_is j l h) a

pub divisibility_divisor : (j : ℕ) (l : Literal) → is_divisibility j l ≡ true → HasDivisor l → IsDivisor (divisor_of l)
divisibility_divisor j l h k = subst HasDivisor (divisibility_is j l h) k

pub class_here : (j : ℕ) (ls : List Literal) (i : ℕ) (l : Literal) → i < length ls → l ≡ get_or ls i l → is_divisibility j l ≡ true
    → class_of j (drop i ls) ≡ class_of j ls → solutions j (divisor_of l) (term_of l) ≡ class_of j ls
class_here j ls i l lt is h before =
    sym (ap (class_of j) (drop-item ls i l lt is) ∙ ap (λ y. class_of j (y ∷ drop (i + 1) ls)) (divisibility_is j l h)) ∙ before

pub class_none : (j : ℕ) (ls : List Literal) (i : ℕ) → length ls ≤ i → class_of j (drop i ls) ≡ class_of j ls → class_of j ls ≡ just (record { modulus = pos 1; residue = pos 0 })
class_none j ls i le h = sym h ∙ ap (class_of j) (drop_all ls i le)

-- the candidates in the class of the literal at i, the first divisibility, and where there is none
pub bounded_here : (j : ℕ) (c ls : List Literal) (i : ℕ) (l : Literal) (lo hi : Option ℤ) (r : Result (List ℤ) StepFault) → ls ≡ c → lo ≡ lower j c → hi ≡ upper j c → i < length ls → l ≡ get_or ls i l
    → is_divisibility j l ≡ true → class_of j (drop i ls) ≡ class_of j ls → Worked (next (solutions j (divisor_of l) (term_of l)) (λ z. two_between z.modulus z.residue lo hi)) r → Worked (bounded j c) r
bounded_here j c ls i l lo hi r same low high lt is h before did =
    let one : class_of j ls ≡ class_of j c = ap (class_of j) same in
    subst (λ w. Worked (next w (λ z. two_between z.modulus z.residue (lower j c) (upper j c))) r) (class_here j ls i l lt is h before ∙ one)
    (subst (λ y. Worked (next (solutions j (divisor_of l) (term_of l)) (λ z. two_between z.modulus z.residue (lower j c) y)) r) high
    (subst (λ y. Worked (next (solutions j (divisor_of l) (term_of l)) (λ z. two_between z.modulus z.residue y hi)) r) low did))

pub bounded_none : (j : ℕ) (c ls : List Literal) (i : ℕ) (lo hi : Option ℤ) (r : Result (List ℤ) StepFault) → ls ≡ c → lo ≡ lower j c → hi ≡ upper j c → length ls ≤ i
    → class_of j (drop i ls) ≡ class_of j ls → Worked (two_between (pos 1) (pos 0) lo hi) r → Worked (bounded j c) r
bounded_none j c ls i lo hi r same low high le before did =
    let none : class_of j c ≡ just (record { modulus = pos 1; residue = pos 0 }) = sym (ap (class_of j) same) ∙ class_none j ls i le before in
    subst (λ w. Worked (next w (λ z. two_between z.modulus z.residue (lower j c) (upper j c))) r) (sym none)
    (subst (λ w. Worked w r) (sym (next-just (record { modulus = pos 1; residue = pos 0 }) (λ z. two_between z.modulus z.residue (lower j c) (upper j c))))
    (subst (λ y. Worked (two_between (pos 1) (pos 0) (lower j c) y) r) high (subst (λ y. Worked (two_between (pos 1) (pos 0) y hi) r) low did)))

-- ---- the truth of literals where j is v
alone_value : (j : ℕ) (b v : ℤ) (t : Linear) → IsSingle j b t → value_of t (put [] j v) ≡ (coef_of t j *ℤ v) +ℤ (pos 1 *ℤ t.constant)
alone_value j b v t h =
    single-value j b t [] v h ∙ ap (λ y. (y *ℤ v) +ℤ t.constant) (sym (single-coefficient j b t h))
    ∙ (let z : (coef_of t j *ℤ v) +ℤ t.constant ≡ (coef_of t j *ℤ v) +ℤ (pos 1 *ℤ t.constant) = omega (arith, ints) in z)

literal_value : (j : ℕ) (v : ℤ) (l : Literal) → IsAlone j l → value_of (term_of l) (put [] j v) ≡ (coefficient j l *ℤ v) +ℤ (pos 1 *ℤ (term_of l).constant)
literal_value j v (Eq t) a = alone_value j (pos 1) v t a
literal_value j v (Geq t) (inl a) = alone_value j (pos 1) v t a
literal_value j v (Geq t) (inr a) = alone_value j (negsuc 0) v t a
literal_value j v (Div d t) a = alone_value j a.0 v t a.1
literal_value j v (NDiv d t) a = alone_value j a.0 v t a.1

truth_of : (l : Literal) (e : List ℤ) → literal_truth l e ≡ is_true_of l (value_of (term_of l) e)
truth_of (Eq t) e = refl
truth_of (Geq t) e = refl
truth_of (Div d t) e = refl
truth_of (NDiv d t) e = refl

-- the literals before i: their values are in the range, and b is whether all of them are true
pub record TrueBefore (j : ℕ) (v : ℤ) (ls : List Literal) (i : ℕ) (b : Bool) : Type 0 where
  pub stay : all_stay (map (value_number j v) (drop i ls)) ≡ all_stay (map (value_number j v) ls)
  pub truth : (b && clause_truth (drop i ls) (put [] j v)) ≡ clause_truth ls (put [] j v)

pub true_none : (j : ℕ) (v : ℤ) (ls : List Literal) → TrueBefore j v ls 0 true
true_none j v ls = record { stay = refl; truth = refl }

and_swap : (x t r : Bool) → ((x && t) && r) ≡ (t && (x && r))
and_swap true t r = refl
and_swap false true r = refl
and_swap false false r = refl

pub true_more : (j : ℕ) (v : ℤ) (ls : List Literal) (i : ℕ) (l : Literal) (p : Place) (k : ℤ) (x b : Bool) → All (IsAlone j) ls → i < length ls → l ≡ get_or ls i l → p ≡ value_number j v l
    → k ≡ (p.m *ℤ p.a) +ℤ (p.n *ℤ p.b) → stays p ≡ true → x ≡ (is_true_of l k && b) → TrueBefore j v ls i b → TrueBefore j v ls (i + 1) x
unfolding all_stay
true_more j v ls i l p k x b alone lt is place value stay test h =
    let item = drop-item ls i l lt is in
    let a = item_of (IsAlone j) ls i l alone lt is in
    let number : k ≡ value_of (term_of l) (put [] j v) = value ∙ ap (λ (q : Place). (q.m *ℤ q.a) +ℤ (q.n *ℤ q.b)) place ∙ sym (literal_value j v l a) in
    let truth : is_true_of l k ≡ literal_truth l (put [] j v) = ap (is_true_of l) number ∙ sym (truth_of l (put [] j v)) in
    let stay_l : stays (value_number j v l) ≡ true = ap stays (sym place) ∙ stay in
    record {
      stay = sym (ap (λ z. all_stay (map (value_number j v) z)) item ∙ ap (λ y. y && all_stay (map (value_number j v) (drop (i + 1) ls))) stay_l) ∙ h.stay;
      truth = ap (λ y. y && clause_truth (drop (i + 1) ls) (put [] j v)) test ∙ and_swap (is_true_of l k) b (clause_truth (drop (i + 1) ls) (put [] j v)) ∙ ap (λ y. b && (y && clause_truth (drop (i + 1) ls) (put [] j v))) truth
          ∙ sym (ap (λ z. b && clause_truth z (put [] j v)) item) ∙ h.truth;
    }

-- the work of their values and their truth
abbrev pub truth_work : ℕ → ℤ → List Literal → Traced Bool
truth_work j v ls = next (compute (map (value_number j v) ls)) (λ _. just (clause_truth ls (put [] j v)))

and_true : (b : Bool) → (b && true) ≡ b
and_true true = refl
and_true false = refl

pub truth_done : (j : ℕ) (v : ℤ) (ls : List Literal) (i : ℕ) (b : Bool) → length ls ≤ i → TrueBefore j v ls i b → Worked (truth_work j v ls) (Ok b)
unfolding all_stay
truth_done j v ls i b le h =
    let none = drop_all ls i le in
    work_ok (compute (map (value_number j v) ls)) _
    (raw_ok (map (value_number j v) ls) tt tt (sym h.stay ∙ ap (λ z. all_stay (map (value_number j v) z)) none) refl)
    (work_just _ b (sym (and_true b) ∙ sym (ap (λ z. b && clause_truth z (put [] j v)) none) ∙ h.truth))

pub truth_failed : (j : ℕ) (v : ℤ) (ls : List Literal) (i : ℕ) (l : Literal) (p : Place) (fault : TermFault) (r : Result Bool StepFault) → i < length ls → l ≡ get_or ls i l → p ≡ value_number j v l
    → IsErrAnd r (λ e. e ≡ step_fault_of fault) → (fault ≡ term_fault.Overflow p) × (stays p ≡ false) → Worked (truth_work j v ls) r
truth_failed j v ls i l p fault r lt is place err cause =
    let ps : List Place = map (value_number j v) ls in
    let q : Place = value_number j v l in
    let within : i < length ps = simp length-map lt in
    let got : get_or ps i q ≡ q = get_or-map (value_number j v) ls i l q lt ∙ ap (value_number j v) (sym is) in
    work_err (compute ps) _ r err
    (raw_leaves ps tt q (Err (step_fault_of fault)) (ap step_fault_of (cause.0 ∙ ap term_fault.Overflow place)) (subst (Contains ps) got (Contains-get_or ps i q within)) (ap stays (sym place) ∙ cause.1))

-- ---- the candidate of an equation
root_again : (j : ℕ) (v : ℤ) (ls : List Literal) → next (truth_work j v ls) (λ b. just (when b v)) ≡ root j v ls
root_again j v ls = next-assoc (compute (map (value_number j v) ls)) _ _ ∙ next-same (compute (map (value_number j v) ls)) _ _ (next-just (clause_truth ls (put [] j v)) (λ b. just (when b v)))

pub root_done : (j : ℕ) (v : ℤ) (ls : List Literal) (b : Bool) (out vs : List ℤ) → Worked (truth_work j v ls) (Ok b) → out ≡ [] → vs ≡ out ++ when b v → Worked (root j v ls) (Ok vs)
root_done j v ls b out vs did none pushed =
    subst (λ w. Worked w (Ok vs)) (root_again j v ls) (work_ok (truth_work j v ls) _ did (work_just _ vs (pushed ∙ ap (λ z. z ++ when b v) none)))

pub root_failed : (j : ℕ) (v : ℤ) (ls : List Literal) (e : StepFault) (r : Result (List ℤ) StepFault) → Worked (truth_work j v ls) (Err e) → IsErrAnd r (λ x. x ≡ e) → Worked (root j v ls) r
root_failed j v ls e r did h = subst (λ w. Worked w r) (root_again j v ls) (work_err (truth_work j v ls) _ r h did)

pub root_memory : (j : ℕ) (v : ℤ) (ls : List Literal) (b : Bool) (r : Result (List ℤ) StepFault) → Worked (truth_work j v ls) (Ok b) → IsErrAnd r (λ x. x ≡ Memory) → Worked (root j v ls) r
root_memory j v ls b r did h = subst (λ w. Worked w r) (root_again j v ls) (work_ok (truth_work j v ls) _ did (work_memory r h))

when_range : (b : Bool) (v : ℤ) → InRange v → AllByRecursion InRange (when b v)
when_range true v h = (h, tt)
when_range false v h = tt

pub root_range : (b : Bool) (v : ℤ) (out vs : List ℤ) → InRange v → out ≡ [] → vs ≡ out ++ when b v → All InRange vs
root_range b v out vs h none pushed = subst (All InRange) (sym (pushed ∙ ap (λ z. z ++ when b v) none)) (All-from_recursion InRange (when b v) (when_range b v h))

-- ---- the equation and the rest of its clause
passes_at : (p : Literal → Bool) (o : Option Literal) (l : Literal) → o ≡ Some l → passes p o ≡ true → p l ≡ true
passes_at p o l is h = sym (ap (passes p) is) ∙ h

pub equation_within : (j i : ℕ) (c : List Literal) → passes (is_equation j) (slice_get c i) ≡ true → i < length c
equation_within j i [] h = absurd (cc)
equation_within j zero (l ∷ c) h = omega arith
equation_within j (suc i) (l ∷ c) h = let r = equation_within j i c h in omega (arith, r)

root_of-is : (j : ℕ) (rest : List Literal) (l : Literal) → is_equation j l ≡ true → root_of j rest (Some l) ≡ root j (neg_ℤ (term_of l).constant) rest
root_of-is j rest l h = refl

pub root_at_done : (j i : ℕ) (c rest : List Literal) (l : Literal) (k : ℤ) (r : Result (List ℤ) StepFault) → slice_get c i ≡ Some l → rest ≡ remove c i → k ≡ neg_ℤ (term_of l).constant
    → Worked (root j k rest) r → Worked (root_at j c (Some i)) r
root_at_done j i c rest l k r at gone is did =
    subst (λ o. Worked (root_of j (remove c i) o) r) (sym at) (subst (λ y. Worked (root j y (remove c i)) r) is (subst (λ z. Worked (root j k z) r) gone did))

pub rest_alone : (j i : ℕ) (c ls rest : List Literal) → All (IsAlone j) c → ls ≡ c → rest ≡ remove ls i → All (IsAlone j) rest
rest_alone j i c ls rest h same is =
    subst (All (IsAlone j)) (sym (is ∙ ap (λ z. remove z i) same)) (All-from_recursion (IsAlone j) (remove c i) (kept-removed (IsAlone j) c i (recursion_from_All (IsAlone j) c h)))

-- ---- numbers between bounds are in the range
two_stay : (p q : Place) (vs : List ℤ) (f : ℤ → ℤ → List ℤ) → Worked (next (computed p) (λ up. next (computed q) (λ down. just (f up down)))) (Ok vs) → (stays p ≡ true) × (stays q ≡ true)
unfolding next computed step just all_stay
two_stay p q vs f h =
    let old = at (record { budget = 0; spent = 0 }) [] in
    let runs = (passes_where_runs (raw (p ∷ []) ∷ raw (q ∷ []) ∷ []) old old (omega arith)).0 (((h.each old).ok vs refl).1.end) in
    let stay = runs.stay in
    (first_so _ _ (first_so _ _ stay), first_so _ _ (first_so _ _ (second_so _ _ stay)))

sum_range : (p : Place) → stays p ≡ true → InRange ((p.m *ℤ p.a) +ℤ (p.n *ℤ p.b))
sum_range p h = (Stays-from_test p h).whole

pub two_range : (m r : ℤ) (lo hi : Option ℤ) (vs : List ℤ) → Worked (two_between m r lo hi) (Ok vs) → All InRange vs
unfolding next computed step just
two_range m r lo hi vs h =
    let p : Place = up_from m r lo in
    let q : Place = down_from m r hi in
    let up : ℤ = (p.m *ℤ p.a) +ℤ (p.n *ℤ p.b) in
    let down : ℤ = (q.m *ℤ q.a) +ℤ (q.n *ℤ q.b) in
    let stay = two_stay p q vs (λ u d. when (is_at_most u hi) u ++ when (is_at_least d lo) d) h in
    subst (All InRange) (sym (worked_value h))
    (All-append InRange (when (is_at_most up hi) up) (when (is_at_least down lo) down)
    (All-from_recursion InRange _ (when_range (is_at_most up hi) up (sum_range p stay.0)))
    (All-from_recursion InRange _ (when_range (is_at_least down lo) down (sum_range q stay.1))))

pub two_ok_range : (m r : ℤ) (lo hi : Option ℤ) (o : Result (List ℤ) StepFault) → Worked (two_between m r lo hi) o → IfOk o (λ vs. All InRange vs)
two_ok_range m r lo hi (Ok vs) h = two_range m r lo hi vs h
two_ok_range m r lo hi (Err e) h = tt
