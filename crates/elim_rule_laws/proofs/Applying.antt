-- What it tells that a rule applies.
use Rattle.std.proofs.Common.{◌≡◌, ◌≢◌, ◌+◌, ◌<◌, ℕ, ℤ, pos, ◌≤ℤ◌, ◌<ℤ◌, Bool, true, false, not, ◌&&◌, ◌||◌, cond, nat_eq, nat_lt, List, [], ◌∷◌, Option, Some, None, refl, ap, arith}
use Rattle.std.specs.Prelude.{remove, slice_get, count_by, All}
use Rattle.std.specs.List.{list_any, AllByRecursion}
use Rattle.std.proofs.lemmas.Int.{ints}
use Rattle.std.proofs.lemmas.Bool.Decides.{nat_tests}
use Rattle.std.proofs.lemmas.List.Elements.{recursion_from_All}
use Rattle.linear_term.specs.Linear.{Linear, total, coef_at, coef_of, mentions, IsReduced}
use Rattle.linear_term.proofs.Names.{unmentioned_from_coef}
use Rattle.base_budget.specs.declared.log.Entry.TheVariants.{Equation, Apart, Merge, Shift}
use Rattle.clause_set.specs.declared.literal.Literal.{Literal}
use Rattle.clause_set.specs.declared.literal.Literal.TheVariants.{Eq, Geq, Div, NDiv}
use Rattle.clause_set.specs.Names.{is_equation, is_divisibility, is_indivisibility}
use Rattle.clause_set.specs.Rules.{passes, is_only_divisibility, applies}
use Rattle.elim_rule_laws.proofs.EquationLists.{count-apart, count-none, any-none, kept-removed, and_left, and_right}
use Rattle.elim_rule_laws.proofs.Shift.{IsBoundOnly}

-- ---- the literal of the entry
pub record EquationAt (x i : ℕ) (c : List Literal) : Type 0 where
  pub term : Linear
  pub stands : slice_get c i ≡ Some (Eq term)
  pub mentioned : mentions term x ≡ true

pub record DivisibilityAt (x i : ℕ) (c : List Literal) : Type 0 where
  pub divisor : ℤ
  pub term : Linear
  pub stands : slice_get c i ≡ Some (Div divisor term)
  pub mentioned : mentions term x ≡ true

pub record IndivisibilityAt (x i : ℕ) (c : List Literal) : Type 0 where
  pub divisor : ℤ
  pub term : Linear
  pub stands : slice_get c i ≡ Some (NDiv divisor term)
  pub mentioned : mentions term x ≡ true

equation_in : (x i : ℕ) (c : List Literal) (o : Option Literal) → slice_get c i ≡ o → passes (is_equation x) o ≡ true → EquationAt x i c
equation_in x i c None e h = absurd (cc)
equation_in x i c (Some (Eq t)) e h = record { term = t; stands = e; mentioned = h }
equation_in x i c (Some (Geq t)) e h = absurd (cc)
equation_in x i c (Some (Div d t)) e h = absurd (cc)
equation_in x i c (Some (NDiv d t)) e h = absurd (cc)

divisibility_in : (x i : ℕ) (c : List Literal) (o : Option Literal) → slice_get c i ≡ o → passes (is_divisibility x) o ≡ true → DivisibilityAt x i c
divisibility_in x i c None e h = absurd (cc)
divisibility_in x i c (Some (Div d t)) e h = record { divisor = d; term = t; stands = e; mentioned = h }
divisibility_in x i c (Some (Eq t)) e h = absurd (cc)
divisibility_in x i c (Some (Geq t)) e h = absurd (cc)
divisibility_in x i c (Some (NDiv d t)) e h = absurd (cc)

indivisibility_in : (x i : ℕ) (c : List Literal) (o : Option Literal) → slice_get c i ≡ o → passes (is_indivisibility x) o ≡ true → IndivisibilityAt x i c
indivisibility_in x i c None e h = absurd (cc)
indivisibility_in x i c (Some (NDiv d t)) e h = record { divisor = d; term = t; stands = e; mentioned = h }
indivisibility_in x i c (Some (Eq t)) e h = absurd (cc)
indivisibility_in x i c (Some (Geq t)) e h = absurd (cc)
indivisibility_in x i c (Some (Div d t)) e h = absurd (cc)

pub equation_applies : (x i : ℕ) (c : List Literal) → applies x c (Equation i) ≡ true → EquationAt x i c
unfolding applies
equation_applies x i c h = equation_in x i c (slice_get c i) refl h

pub apart_applies : (x i : ℕ) (c : List Literal) → applies x c (Apart i) ≡ true → IndivisibilityAt x i c
unfolding applies
apart_applies x i c h = indivisibility_in x i c (slice_get c i) refl h

pub record PairAt (x i j : ℕ) (c : List Literal) : Type 0 where
  pub before : i < j
  pub first : DivisibilityAt x i c
  pub second : DivisibilityAt x j c

pub merge_applies : (x i j : ℕ) (c : List Literal) → applies x c (Merge i j) ≡ true → PairAt x i j c
unfolding applies
merge_applies x i j c h =
    let less : nat_lt i j ≡ true = and_left _ _ h in
    let both : (passes (is_divisibility x) (slice_get c i) && passes (is_divisibility x) (slice_get c j)) ≡ true = and_right _ _ h in
    record {
      before = grind (arith, nat_tests);
      first = divisibility_in x i c (slice_get c i) refl (and_left _ _ both);
      second = divisibility_in x j c (slice_get c j) refl (and_right _ _ both);
    }

-- ---- the only divisibility
pub record OnlyAt (x i : ℕ) (c : List Literal) : Type 0 where
  pub literal : DivisibilityAt x i c
  pub others : AllByRecursion (IsBoundOnly x) (remove c i)
  pub one : count_by (is_divisibility x) c ≡ 1
  pub none : list_any (λ l. is_equation x l || is_indivisibility x l) c ≡ false

bound_only : (x : ℕ) (ls : List Literal) → AllByRecursion (λ l. is_divisibility x l ≡ false) ls → AllByRecursion (λ l. (is_equation x l || is_indivisibility x l) ≡ false) ls
    → AllByRecursion (IsBoundOnly x) ls
bound_only x [] d n = tt
bound_only x (l ∷ ls) d n = (record { no_equation = first _ _ n.0; no_divisibility = d.0; no_indivisibility = second _ _ n.0 }, bound_only x ls d.1 n.1)
  where
    first : (a b : Bool) → (a || b) ≡ false → a ≡ false
    first true b h = absurd (cc)
    first false b h = refl

    second : (a b : Bool) → (a || b) ≡ false → b ≡ false
    second true b h = absurd (cc)
    second false b h = h

not_true : (b : Bool) → not b ≡ true → b ≡ false
not_true true h = absurd (cc)
not_true false h = refl

only_in : (x i : ℕ) (c : List Literal) → DivisibilityAt x i c → is_only_divisibility x c ≡ true → OnlyAt x i c
only_in x i c d h =
    let one_test : nat_eq (count_by (is_divisibility x) c) 1 ≡ true = and_left _ _ h in
    let one : count_by (is_divisibility x) c ≡ 1 = grind (arith, nat_tests) in
    let none : list_any (λ l. is_equation x l || is_indivisibility x l) c ≡ false = not_true _ (and_right _ _ h) in
    let split : count_by (is_divisibility x) c ≡ cond (is_divisibility x (Div d.divisor d.term)) 1 0 + count_by (is_divisibility x) (remove c i) =
    count-apart (is_divisibility x) c i (Div d.divisor d.term) d.stands in
    let counted = ap {B = ℕ} (λ b. cond b 1 0) d.mentioned in
    let rest : count_by (is_divisibility x) (remove c i) ≡ 0 = omega (arith, split, counted, one) in
    record {
      literal = d;
      others = bound_only x (remove c i) (count-none (is_divisibility x) (remove c i) rest)
          (kept-removed (λ l. (is_equation x l || is_indivisibility x l) ≡ false) c i (any-none (λ l. is_equation x l || is_indivisibility x l) c none));
      one = one;
      none = none;
    }

pub shift_applies : (x i : ℕ) (c : List Literal) → applies x c (Shift i) ≡ true → OnlyAt x i c
unfolding applies
shift_applies x i c h = only_in x i c (divisibility_in x i c (slice_get c i) refl (and_left _ _ h)) (and_right _ _ h)

-- ---- coefficients of names that occur
pub mentioned-not_zero : (t : Linear) (x : ℕ) → IsReduced t → mentions t x ≡ true → coef_of t x ≢ pos 0
mentioned-not_zero t x r m z = let free : mentions t x ≡ false = unmentioned_from_coef t x r z in absurd (cc)

coef_at-not_negative : (x y : ℕ) (k : ℤ) → pos 0 <ℤ k → pos 0 ≤ℤ coef_at x y k
coef_at-not_negative x y k h = by (nat_eq y x)
  where
    by : (b : Bool) → pos 0 ≤ℤ cond b k (pos 0)
    by true = omega (arith, ints)
    by false = omega (arith, ints)

total-not_negative : (x : ℕ) (ps : List (ℕ × ℤ)) → AllByRecursion (λ p. pos 0 <ℤ p.1) ps → pos 0 ≤ℤ total (coef_at x) ps
total-not_negative x [] h = omega (arith, ints)
total-not_negative x (p ∷ ps) h = omega (arith, ints, coef_at-not_negative x p.0 p.1 h.0, total-not_negative x ps h.1)

pub mentioned-positive : (t : Linear) (x : ℕ) → IsReduced t → All (λ p. pos 0 <ℤ p.1) t.pairs → mentions t x ≡ true → pos 0 <ℤ coef_of t x
unfolding coef_of
mentioned-positive t x r h m =
    let not_zero : coef_of t x ≢ pos 0 = mentioned-not_zero t x r m in
    let not_negative : pos 0 ≤ℤ total (coef_at x) t.pairs = total-not_negative x t.pairs (recursion_from_All (λ p. pos 0 <ℤ p.1) t.pairs h) in
    omega (arith, ints)
