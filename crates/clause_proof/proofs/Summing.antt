-- Sums: what the falsities of literals say, and a weighted sum of it that is absurd.
use Rattle.std.proofs.Common.{◌≡◌, ℕ, ℤ, pos, negsuc, ◌+ℤ◌, ◌*ℤ◌, ◌≤ℤ◌, Bool, true, false, not, ◌&&◌, ◌||◌, List, [], ◌∷◌, map, Option, Some, None, int_le, cond, refl, sym, ap, ◌∙◌, subst, arith}
use Rattle.std.specs.List.{AllByRecursion, slice_get}
use Rattle.std.proofs.lemmas.Int.{ints}
use Rattle.std.proofs.lemmas.Bool.{and_parts}
use Rattle.linear_term.specs.Linear.{Linear, value_of, number}
use Rattle.linear_term.specs.Combination.{combination}
use Rattle.linear_term.proofs.Totals.{value_of-combination, value_of-number, by_test}
use Rattle.form_typed.specs.Truth.{Meaning}
use Rattle.clause_proof.specs.declared.line.Factor.{Factor}
use Rattle.clause_proof.specs.Clauses.{Definition, always, at_least_zero, is_zero, predicate, closure, DefinitionTruth, IsSo, IsFoundSo, AreLiteralsFalse, ClauseTruth}
use Rattle.clause_proof.specs.Atoms.{Signed, opposite_less_one, inequality_literal, equation_literal, same_definition}
use Rattle.clause_proof.specs.Lines.{Fact, fact_of, fact_at, with_fact, sum_of, found, is_absurd, literal_of_fact}
use Rattle.clause_proof.proofs.Canonical.{IsSigned, definition_stable, inequality_means, equation_means}
use Rattle.clause_proof.proofs.Equality.{same_definition_is}

-- what there is has the property
abbrev pub IfFound : {A : Type 0} → (A → Type 0) → Option A → Type 0
IfFound P None = Unit {0}
IfFound P (Some x) = P x

if_found : {A B : Type 0} (P : A → Type 0) (Q : B → Type 0) (o : Option A) (f : A → Option B) → IfFound P o → ((x : A) → P x → IfFound Q (f x)) → IfFound Q (found o f)
if_found P Q None f h k = tt
if_found P Q (Some x) f h k = k x h

-- the term is 0, or at least 0
abbrev pub IsTermSo : List ℤ → Bool → Linear → Type 0
IsTermSo e true t = value_of t e ≡ pos 0
IsTermSo e false t = pos 0 ≤ℤ value_of t e

abbrev pub IsFact : List ℤ → Fact → Type 0
IsFact e f = IsTermSo e f.1 f.0

less_value : (t : Linear) (e : List ℤ) → ¬ (pos 0 ≤ℤ value_of t e) → pos 0 ≤ℤ value_of (opposite_less_one t) e
less_value t e h = grind (arith, ints, value_of-combination (negsuc 0) (pos 1) t (number (negsuc 0)) e, value_of-number (negsuc 0) e)

-- what the falsity of a literal says
fact_is : (w : Meaning) (d : Definition) (e : List ℤ) (b : Bool) → ¬ (IsSo w e b d) → IfFound (IsFact e) (fact_of d b)
fact_is w (at_least_zero t) e true h = less_value t e h
fact_is w (at_least_zero t) e false h = definition_stable w e (at_least_zero t) h
fact_is w (is_zero t) e true h = tt
fact_is w (is_zero t) e false h = definition_stable w e (is_zero t) h
fact_is w always e b h = tt
fact_is w (predicate p ts) e b h = tt
fact_is w (closure f ts) e b h = tt

fact_found : (w : Meaning) (e : List ℤ) (b : Bool) (o : Option Definition) → ¬ (IsFoundSo w e b o) → IfFound (IsFact e) (found o (λ d. fact_of d b))
fact_found w e b None h = tt
fact_found w e b (Some d) h = fact_is w d e b h

times : (k z : ℤ) → pos 0 ≤ℤ k → pos 0 ≤ℤ z → pos 0 ≤ℤ (k *ℤ z)
times (pos n) (pos m) h j = omega (arith, ints)
times (negsuc n) z h j = absurd (omega (arith, ints))
times (pos n) (negsuc m) h j = absurd (omega (arith, ints))

sum_value : (e : List ℤ) (k : ℤ) (u t : Linear) → pos 0 ≤ℤ value_of u e → pos 0 ≤ℤ (k *ℤ value_of t e) → pos 0 ≤ℤ value_of (combination (pos 1) u k t) e
sum_value e k u t h j = omega (arith, ints, value_of-combination (pos 1) k u t e)

zero_times : (k z : ℤ) → z ≡ pos 0 → pos 0 ≤ℤ (k *ℤ z)
zero_times k z h = let is : k *ℤ z ≡ k *ℤ pos 0 = ap (λ x. k *ℤ x) h in omega (arith, ints, is)

zero_sum : (e : List ℤ) (k : ℤ) (u t : Linear) → value_of u e ≡ pos 0 → value_of t e ≡ pos 0 → value_of (combination (pos 1) u k t) e ≡ pos 0
zero_sum e k u t h j = let is : k *ℤ value_of t e ≡ k *ℤ pos 0 = ap (λ x. k *ℤ x) j in omega (arith, ints, value_of-combination (pos 1) k u t e, h, is)

at_least : (z : ℤ) → z ≡ pos 0 → pos 0 ≤ℤ z
at_least z h = omega (arith, ints, h)

le_is : (k : ℤ) → int_le (pos 0) k ≡ true → pos 0 ≤ℤ k
le_is k h = grind (arith, ints)

with_fact_is : (e : List ℤ) (k : ℤ) (u : Linear) (a : Bool) (t : Linear) (b : Bool) → IsTermSo e a u → IsTermSo e b t
    → IfFound (IsFact e) (cond (b || int_le (pos 0) k) (Some (combination (pos 1) u k t, a && b)) None)
with_fact_is e k u true t true h j = zero_sum e k u t h j
with_fact_is e k u false t true h j = sum_value e k u t h (zero_times k (value_of t e) j)
with_fact_is e k u true t false h j =
    by_test (IfFound (IsFact e)) (int_le (pos 0) k) (Some (combination (pos 1) u k t, false)) None
    (λ le. sum_value e k u t (at_least (value_of u e) h) (times k (value_of t e) (le_is k le) j)) (λ le. tt)
with_fact_is e k u false t false h j =
    by_test (IfFound (IsFact e)) (int_le (pos 0) k) (Some (combination (pos 1) u k t, false)) None
    (λ le. sum_value e k u t h (times k (value_of t e) (le_is k le) j)) (λ le. tt)

sum_is : (w : Meaning) (e : List ℤ) (ds : List Definition) (xs : List Factor) (u : Fact) → AreLiteralsFalse w e ds (map (λ x. x.literal) xs) → IsFact e u → IfFound (IsFact e) (sum_of ds xs u)
sum_is w e ds [] u h k = k
sum_is w e ds (x ∷ xs) u h k =
    if_found (IsFact e) (IsFact e) (found (fact_at ds x.literal) (with_fact x.by u)) (sum_of ds xs)
    (if_found (IsFact e) (IsFact e) (fact_at ds x.literal) (with_fact x.by u) (fact_found w e x.literal.positive (slice_get ds x.literal.variable) h.0)
    (λ y is. with_fact_is e x.by u.0 u.1 y.0 y.1 k is))
    (λ t is. sum_is w e ds xs t h.1 is)

fact_literal : (w : Meaning) (e : List ℤ) (t : Linear) (b : Bool) → IsTermSo e b t → IsSigned w e (literal_of_fact (t, b))
fact_literal w e t true h = (equation_means w t e).back h
fact_literal w e t false h = (inequality_means w t e).back h

false_literal : (w : Meaning) (e : List ℤ) (b : Bool) (d : Definition) → (not b && same_definition d always) ≡ true → IsSo w e b d → ⊥
false_literal w e true d h k = absurd (cc)
false_literal w e false d h k = let is : d ≡ always = same_definition_is d always h in k (subst (DefinitionTruth w e) (sym is) tt)

-- a clause of literals whose sum is absurd is true
pub sum_true : (w : Meaning) (e : List ℤ) (ds : List Definition) (xs : List Factor) (u : Fact) → sum_of ds xs (number (pos 0), true) ≡ Some u → is_absurd (literal_of_fact u) ≡ true
    → ClauseTruth w e ds (map (λ x. x.literal) xs)
sum_true w e ds xs u is test none =
    let sum : IsFact e u = subst (IfFound (IsFact e)) is (sum_is w e ds xs (number (pos 0), true) none (value_of-number (pos 0) e)) in
    false_literal w e (literal_of_fact u).positive (literal_of_fact u).definition test (fact_literal w e u.0 u.1 sum)
