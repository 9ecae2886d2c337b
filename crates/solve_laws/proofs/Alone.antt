-- Literals and clauses that speak of one name alone, where the name becomes v.
use Rattle.std.proofs.Common.{◌≡◌, ℕ, ℤ, pos, negsuc, neg_ℤ, ◌+ℤ◌, ◌*ℤ◌, ◌≤ℤ◌, ◌<ℤ◌, unsigned_abs, true, false, not, ◌&&◌, cond, nat_eq, int_le, List, [], ◌∷◌, Option, Some, None, refl, sym, ◌∙◌, ap, subst, arith}
use Rattle.std.specs.Prelude.{◌↔◌, All}
use Rattle.std.specs.List.{AllByRecursion}
use Rattle.std.specs.Option.{option_map}
use Rattle.std.specs.Ordering.{int_eq}
use Rattle.std.specs.Int.{int_rem_euclid}
use Rattle.std.proofs.lemmas.Int.{ints}
use Rattle.std.proofs.lemmas.Bool.Decides.{nat_tests, Decides-int_eq}
use mathlib.Core.Logic.{inl, inr}
use Rattle.base_integers.specs.Divides.{Divides, divides, IsCongruent}
use Rattle.base_integers.specs.Entry.{put}
use Rattle.base_integers.specs.Gcd.{gcd}
use lib.IntN.{*ℤ_comm}
use Rattle.base_integers.proofs.Ring.{add-mul, mul-add, mul_assoc}
use Rattle.base_integers.proofs.Entries.{entry-put_same}
use Rattle.base_integers.proofs.Residues.{residue-is}
use Rattle.base_integers.proofs.Divisors.{congruent-sym, congruent-trans}
use Rattle.linear_term.specs.Linear.{Linear, IsRisingFrom, total, value_at, value_of, coef_at, coef_of, mentions, has_name}
use Rattle.clause_set.specs.declared.literal.Literal.{Literal}
use Rattle.clause_set.specs.declared.literal.Literal.TheVariants.{Eq, Geq, Div, NDiv}
use Rattle.clause_set.specs.Literals.{literal_truth, clause_truth}
use Rattle.clause_set.specs.Formed.{IsFormed}
use Rattle.clause_set.specs.Primitive.{IsSingleWith, IsUnit, IsShaped}
use Rattle.clause_set.proofs.Shapes.{IsOn}
use Rattle.std.proofs.lemmas.List.Elements.{recursion_from_All}
use Rattle.clause_set.specs.Clauses.{slack}
use Rattle.clause_set.specs.Bezout.{Bezout, bezout}
use Rattle.clause_set.proofs.NormalTruth.{le_decides, divides_decides}
use Rattle.clause_set.proofs.ClauseTruth.{Bounded, sum_of, slack-bounded, IsIn, AtMost, slack-at_most}
use Rattle.base_budget.specs.Trace.{just, step, next}
use Rattle.elim_rule_laws.specs.Divisions.{IsBezout}
use Rattle.elim_rule_laws.proofs.Bezouts.{bezout-is}
use Rattle.solve_laws.specs.Nearest.{is_at_most, is_at_least}
use Rattle.solve_laws.specs.Candidates.{IsSingle, IsAlone, Class, solutions, class_of, lower, upper}
use Rattle.solve_laws.proofs.Ranks.{IsBetween, and_left, and_right, both}

pub same_name : (j : ℕ) → nat_eq j j ≡ true
same_name j = grind (arith, nat_tests)

-- ---- a term with one name
pub single-value : (j : ℕ) (b : ℤ) (t : Linear) (e : List ℤ) (v : ℤ) → IsSingle j b t → value_of t (put e j v) ≡ (b *ℤ v) +ℤ t.constant
unfolding value_of
single-value j b t e v h =
    ap (λ ps. total (value_at (put e j v)) ps +ℤ t.constant) h ∙ ap (λ z. ((b *ℤ z) +ℤ pos 0) +ℤ t.constant) (entry-put_same e j v) ∙ omega (arith, ints)

pub single-coefficient : (j : ℕ) (b : ℤ) (t : Linear) → IsSingle j b t → coef_of t j ≡ b
unfolding coef_of
single-coefficient j b t h = ap (λ ps. total (coef_at j) ps) h ∙ ap (λ y. cond y b (pos 0) +ℤ pos 0) (same_name j) ∙ omega (arith, ints)

pub single-mentions : (j : ℕ) (b : ℤ) (t : Linear) → IsSingle j b t → mentions t j ≡ true
unfolding mentions
single-mentions j b t h = ap (λ ps. has_name ps j) h ∙ ap (λ y. cond y true false) (same_name j)

-- ---- a formed literal on j alone
single_of : (U : ℤ → Type 0) (j : ℕ) (t : Linear) (ps : List (ℕ × ℤ)) → t.pairs ≡ ps → IsRisingFrom 0 ps → IsSingleWith U ps → AllByRecursion (λ p. p.0 ≡ j) ps
    → (b : ℤ) × ((t.pairs ≡ (j, b) ∷ []) × U b)
single_of U j t [] is r s o = absurd s
single_of U j t (p ∷ []) is r s o = (p.1, (is ∙ ap (λ x. (x, p.1) ∷ []) o.0, s))
single_of U j t (p ∷ q ∷ ps) is r s o = absurd (omega (arith, r.1.0, o.0, o.1.0))

positive_of : (j : ℕ) (b : ℤ) (ps : List (ℕ × ℤ)) → ps ≡ (j, b) ∷ [] → All (λ p. pos 0 <ℤ p.1) ps → pos 0 <ℤ b
positive_of j b ps e h = (recursion_from_All (λ p. pos 0 <ℤ p.1) ((j, b) ∷ []) (subst (All (λ p. pos 0 <ℤ p.1)) e h)).0

pub alone_of : (j : ℕ) (l : Literal) → IsFormed l → IsShaped l → IsOn (λ y. y ≡ j) l → IsAlone j l
alone_of j (Eq t) f s o =
    let k = single_of (λ a. a ≡ pos 1) j t t.pairs refl f.literal.term.rising s o in k.1.0 ∙ ap (λ b. (j, b) ∷ []) k.1.1
alone_of j (Geq t) f s o =
    let k = single_of IsUnit j t t.pairs refl f.literal.term.rising s o in unit_bound j t k.0 k.1.0 k.1.1
  where
    unit_bound : (j : ℕ) (t : Linear) (b : ℤ) → t.pairs ≡ (j, b) ∷ [] → IsUnit b → IsAlone j (Geq t)
    unit_bound j t b e (inl u) = inl (e ∙ ap (λ c. (j, c) ∷ []) u)
    unit_bound j t b e (inr u) = inr (e ∙ ap (λ c. (j, c) ∷ []) u)
alone_of j (Div d t) f s o =
    let k = single_of (λ a. gcd a d ≡ pos 1) j t t.pairs refl f.literal.term.rising s o in
    (k.0, k.1.0, positive_of j k.0 t.pairs k.1.0 f.coefficients, f.literal.divisor, k.1.1)
alone_of j (NDiv d t) f s o =
    let k = single_of (λ a. gcd a d ≡ pos 1) j t t.pairs refl f.literal.term.rising s o in
    (k.0, k.1.0, positive_of j k.0 t.pairs k.1.0 f.coefficients, f.literal.divisor, k.1.1)

-- ---- a literal at v
same_at : (t : Linear) (j : ℕ) (b : ℤ) (e f : List ℤ) (v : ℤ) → IsSingle j b t → value_of t (put e j v) ≡ value_of t (put f j v)
same_at t j b e f v h = single-value j b t e v h ∙ sym (single-value j b t f v h)

pub alone-same : (j : ℕ) (l : Literal) (e f : List ℤ) (v : ℤ) → IsAlone j l → literal_truth l (put e j v) ≡ literal_truth l (put f j v)
alone-same j (Eq t) e f v h = ap (λ z. int_eq z (pos 0)) (same_at t j (pos 1) e f v h)
alone-same j (Geq t) e f v (inl h) = ap (λ z. int_le (pos 0) z) (same_at t j (pos 1) e f v h)
alone-same j (Geq t) e f v (inr h) = ap (λ z. int_le (pos 0) z) (same_at t j (negsuc 0) e f v h)
alone-same j (Div d t) e f v h = ap (λ z. divides (unsigned_abs d) z) (same_at t j h.0 e f v h.1)
alone-same j (NDiv d t) e f v h = ap (λ z. not (divides (unsigned_abs d) z)) (same_at t j h.0 e f v h.1)

pub clause-same : (j : ℕ) (c : List Literal) (e f : List ℤ) (v : ℤ) → AllByRecursion (IsAlone j) c → clause_truth c (put e j v) ≡ clause_truth c (put f j v)
clause-same j [] e f v h = refl
clause-same j (l ∷ ls) e f v h = ap (λ b. b && clause_truth ls (put e j v)) (alone-same j l e f v h.0) ∙ ap (λ b. literal_truth l (put f j v) && b) (clause-same j ls e f v h.1)

-- an equation j + k = 0 is true at −k alone
pub equation-root : (j : ℕ) (t : Linear) (e : List ℤ) (v : ℤ) → IsSingle j (pos 1) t → (literal_truth (Eq t) (put e j v) ≡ true) ↔ (v ≡ neg_ℤ t.constant)
equation-root j t e v h =
    let value = single-value j (pos 1) t e v h in (
      λ y. let z : value_of t (put e j v) ≡ pos 0 = (Decides-int_eq (value_of t (put e j v)) (pos 0)).0 y in omega (arith, ints, value, z),
      λ s. (Decides-int_eq (value_of t (put e j v)) (pos 0)).1 (omega (arith, ints, value, s)),
    )

-- ---- the residue class of a divisibility
-- d divides b·v + k exactly where v is −u·k modulo d, for u·b + w·d = 1
cofactor-one : (b d : ℤ) → pos 0 <ℤ b → pos 0 <ℤ d → gcd b d ≡ pos 1 → (((bezout b d).p *ℤ b) +ℤ ((bezout b d).q *ℤ d)) ≡ pos 1
cofactor-one b d hb hd g = let z : IsBezout b d (bezout b d) = bezout-is b d hb hd in sym z.sum ∙ z.divisor ∙ g

class-forth : (b d k u w v : ℤ) → (u *ℤ b) +ℤ (w *ℤ d) ≡ pos 1 → Divides d ((b *ℤ v) +ℤ k) → IsCongruent d v (neg_ℤ (u *ℤ k))
class-forth b d k u w v one h =
    let m : ℤ = h.quotient in
    let times : (u *ℤ (b *ℤ v)) +ℤ ((w *ℤ v) *ℤ d) ≡ v =
    omega (arith, ints, ap (λ z. z *ℤ v) one, add-mul (u *ℤ b) (w *ℤ d) v, mul_assoc u b v, mul_assoc w d v, ap (λ z. w *ℤ z) (*ℤ_comm d v), mul_assoc w v d) in
    record { quotient = (u *ℤ m) +ℤ (w *ℤ v); is = omega (arith, ints, times, mul-add u (b *ℤ v) k, ap (λ z. u *ℤ z) h.is, mul_assoc u m d, add-mul (u *ℤ m) (w *ℤ v) d) }

class-back : (b d k u w v : ℤ) → (u *ℤ b) +ℤ (w *ℤ d) ≡ pos 1 → IsCongruent d v (neg_ℤ (u *ℤ k)) → Divides d ((b *ℤ v) +ℤ k)
class-back b d k u w v one h =
    let q : ℤ = h.quotient in
    let is : v +ℤ (u *ℤ k) ≡ q *ℤ d = omega (arith, ints, h.is) in
    let times : (b *ℤ (u *ℤ k)) +ℤ ((w *ℤ k) *ℤ d) ≡ k =
    omega (arith, ints, ap (λ z. z *ℤ k) one, add-mul (u *ℤ b) (w *ℤ d) k, ap (λ z. z *ℤ k) (*ℤ_comm u b), mul_assoc b u k, mul_assoc w d k, ap (λ z. w *ℤ z) (*ℤ_comm d k), mul_assoc w k d) in
    record { quotient = (b *ℤ q) +ℤ (w *ℤ k); is = omega (arith, ints, times, mul-add b v (u *ℤ k), ap (λ z. b *ℤ z) is, mul_assoc b q d, add-mul (b *ℤ q) (w *ℤ k) d) }

pub divisibility-class : (j : ℕ) (d : ℤ) (t : Linear) (e : List ℤ) (v : ℤ) → IsAlone j (Div d t)
    → (literal_truth (Div d t) (put e j v) ≡ true) ↔ IsCongruent d v (solutions j d t).value.residue
unfolding next just step
divisibility-class j d t e v h =
    let b : ℤ = h.0 in
    let z : Bezout = bezout b d in
    let same : bezout (coef_of t j) d ≡ z = ap (λ k. bezout k d) (single-coefficient j b t h.1) in
    let one = cofactor-one b d h.2 h.3 h.4 in
    let value = single-value j b t e v h.1 in
    let is : IsCongruent d (neg_ℤ (z.p *ℤ t.constant)) (int_rem_euclid (neg_ℤ (z.p *ℤ t.constant)) d) = (residue-is d (neg_ℤ (z.p *ℤ t.constant)) h.3).congruent in
    let test = divides_decides d (value_of t (put e j v)) h.3 in
    let moved : int_rem_euclid (neg_ℤ (z.p *ℤ t.constant)) d ≡ int_rem_euclid (neg_ℤ ((bezout (coef_of t j) d).p *ℤ t.constant)) d =
    ap (λ y. int_rem_euclid (neg_ℤ (y.p *ℤ t.constant)) d) (sym same) in (
      λ y. subst (IsCongruent d v) moved (congruent-trans d v (neg_ℤ (z.p *ℤ t.constant)) _ (class-forth b d t.constant z.p z.q v one (subst (Divides d) value (test.0 y))) is),
      λ y. test.1 (subst (Divides d) (sym value) (class-back b d t.constant z.p z.q v one (congruent-trans d v (int_rem_euclid (neg_ℤ (z.p *ℤ t.constant)) d) (neg_ℤ (z.p *ℤ t.constant)) (subst (IsCongruent d v) (sym moved) y) (congruent-sym d (neg_ℤ (z.p *ℤ t.constant)) (int_rem_euclid (neg_ℤ (z.p *ℤ t.constant)) d) is)))),
    )

-- ---- bounds
sum-up : (j : ℕ) (e : List ℤ) (v : ℤ) → sum_of ((j, pos 1) ∷ []) (put e j v) ≡ v
sum-up j e v = ap (λ z. (pos 1 *ℤ z) +ℤ pos 0) (entry-put_same e j v) ∙ omega (arith, ints)

sum-down : (j : ℕ) (e : List ℤ) (v : ℤ) → sum_of ((j, negsuc 0) ∷ []) (put e j v) ≡ neg_ℤ v
sum-down j e v = ap (λ z. (negsuc 0 *ℤ z) +ℤ pos 0) (entry-put_same e j v) ∙ omega (arith, ints)

low_of : (v : ℤ) (o : Option ℤ) → Bounded v o → is_at_least v (option_map neg_ℤ o) ≡ true
low_of v None h = refl
low_of v (Some k) h = (le_decides (neg_ℤ k) v).1 (omega (arith, ints, h))

high_of : (v : ℤ) (o : Option ℤ) → Bounded (neg_ℤ v) o → is_at_most v o ≡ true
high_of v None h = refl
high_of v (Some k) h = (le_decides v k).1 (omega (arith, ints, h))

from_low_of : (v k : ℤ) (o : Option ℤ) → AtMost o k → is_at_least v (option_map neg_ℤ o) ≡ true → pos 0 ≤ℤ (v +ℤ k)
from_low_of v k None a h = absurd a
from_low_of v k (Some m) a h = omega (arith, ints, a, (le_decides (neg_ℤ m) v).0 h)

from_high_of : (v k : ℤ) (o : Option ℤ) → AtMost o k → is_at_most v o ≡ true → pos 0 ≤ℤ (neg_ℤ v +ℤ k)
from_high_of v k None a h = absurd a
from_high_of v k (Some m) a h = omega (arith, ints, a, (le_decides v m).0 h)

pub low-true : (j : ℕ) (c : List Literal) (e : List ℤ) (v : ℤ) → clause_truth c (put e j v) ≡ true → is_at_least v (lower j c) ≡ true
low-true j c e v h =
    low_of v (slack c ((j, pos 1) ∷ [])) (subst (λ z. Bounded z (slack c ((j, pos 1) ∷ []))) (sum-up j e v) (slack-bounded c ((j, pos 1) ∷ []) (put e j v) h))

pub high-true : (j : ℕ) (c : List Literal) (e : List ℤ) (v : ℤ) → clause_truth c (put e j v) ≡ true → is_at_most v (upper j c) ≡ true
high-true j c e v h =
    high_of v (slack c ((j, negsuc 0) ∷ [])) (subst (λ z. Bounded z (slack c ((j, negsuc 0) ∷ []))) (sum-down j e v) (slack-bounded c ((j, negsuc 0) ∷ []) (put e j v) h))

-- a bound of c is true between the bounds
pub bound-back : (j : ℕ) (c : List Literal) (t : Linear) (e : List ℤ) (v : ℤ) → IsIn (Geq t) c → IsAlone j (Geq t)
    → is_at_least v (lower j c) ≡ true → is_at_most v (upper j c) ≡ true → literal_truth (Geq t) (put e j v) ≡ true
bound-back j c t e v among (inl s) low high =
    let a : AtMost (slack c ((j, pos 1) ∷ [])) t.constant = subst (λ ps. AtMost (slack c ps) t.constant) s (slack-at_most c t among) in
    (le_decides (pos 0) (value_of t (put e j v))).1 (omega (arith, ints, single-value j (pos 1) t e v s, from_low_of v t.constant (slack c ((j, pos 1) ∷ [])) a low))
bound-back j c t e v among (inr s) low high =
    let a : AtMost (slack c ((j, negsuc 0) ∷ [])) t.constant = subst (λ ps. AtMost (slack c ps) t.constant) s (slack-at_most c t among) in
    (le_decides (pos 0) (value_of t (put e j v))).1 (omega (arith, ints, single-value j (negsuc 0) t e v s, from_high_of v t.constant (slack c ((j, negsuc 0) ∷ [])) a high))

-- ---- a clause of bounds and at most one divisibility, whose class is z
abbrev pub IsBoundOrClass : ℕ → Class → Literal → Type 0
IsBoundOrClass j z (Eq t) = ⊥
IsBoundOrClass j z (Geq t) = Unit {0}
IsBoundOrClass j z (Div d t) = (solutions j d t).value ≡ z
IsBoundOrClass j z (NDiv d t) = ⊥

literal-back : (j : ℕ) (c : List Literal) (z : Class) (l : Literal) (e : List ℤ) (v : ℤ) → IsIn l c → IsAlone j l → IsBoundOrClass j z l
    → IsCongruent z.modulus v z.residue → is_at_least v (lower j c) ≡ true → is_at_most v (upper j c) ≡ true → literal_truth l (put e j v) ≡ true
unfolding next just step
literal-back j c z (Eq t) e v among a b k low high = absurd b
literal-back j c z (Geq t) e v among a b k low high = bound-back j c t e v among a low high
literal-back j c z (Div d t) e v among a b k low high =
    (divisibility-class j d t e v a).1 (subst (λ y. IsCongruent y.modulus v y.residue) (sym b) k)
literal-back j c z (NDiv d t) e v among a b k low high = absurd b

all-back : (j : ℕ) (c : List Literal) (z : Class) (ls : List Literal) (e : List ℤ) (v : ℤ) → ((l : Literal) → IsIn l ls → IsIn l c)
    → AllByRecursion (IsAlone j) ls → AllByRecursion (IsBoundOrClass j z) ls
    → IsCongruent z.modulus v z.residue → is_at_least v (lower j c) ≡ true → is_at_most v (upper j c) ≡ true → clause_truth ls (put e j v) ≡ true
all-back j c z [] e v among a b k low high = refl
all-back j c z (l ∷ ls) e v among a b k low high =
    both _ _ (literal-back j c z l e v (among l (inl refl)) a.0 b.0 k low high) (all-back j c z ls e v (λ m i. among m (inr i)) a.1 b.1 k low high)

class-true : (j : ℕ) (c : List Literal) (e : List ℤ) (v : ℤ) → AllByRecursion (IsAlone j) c → clause_truth c (put e j v) ≡ true
    → IsCongruent (class_of j c).value.modulus v (class_of j c).value.residue
unfolding next just step
class-true j [] e v a h = record { quotient = v; is = omega (arith, ints) }
class-true j (Eq t ∷ ls) e v a h = class-true j ls e v a.1 (and_right _ _ h)
class-true j (Geq t ∷ ls) e v a h = class-true j ls e v a.1 (and_right _ _ h)
class-true j (Div d t ∷ ls) e v a h = (divisibility-class j d t e v a.0).0 (and_left _ _ h)
class-true j (NDiv d t ∷ ls) e v a h = class-true j ls e v a.1 (and_right _ _ h)

pub bounded-between : (j : ℕ) (c : List Literal) (e : List ℤ) (v : ℤ) → AllByRecursion (IsAlone j) c → AllByRecursion (IsBoundOrClass j (class_of j c).value) c
    → (clause_truth c (put e j v) ≡ true) ↔ IsBetween (class_of j c).value.modulus (class_of j c).value.residue (lower j c) (upper j c) v
bounded-between j c e v a b = (
  λ h. record { congruent = class-true j c e v a h; low = low-true j c e v h; high = high-true j c e v h },
  λ h. all-back j c (class_of j c).value c e v (λ l i. i) a b h.congruent h.low h.high,
)
