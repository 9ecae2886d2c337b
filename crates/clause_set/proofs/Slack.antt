-- The tightest bound of several literals.
use Rattle.std.proofs.Common.{◌≡◌, ℕ, ◌+◌, ◌<◌, ℤ, pos, neg_ℤ, ◌+ℤ◌, Bool, true, false, ◌&&◌, ◌||◌, List, [], ◌∷◌, drop, length, get_or, int_le, int_lt, Option, Some, None, refl, sym, ◌∙◌, ap, arith}
use Rattle.std.specs.Int.{int_min}
use Rattle.std.specs.Ordering.{int_eq}
use Rattle.std.proofs.lemmas.Int.{ints}
use Rattle.clause_set.specs.declared.literal.Literal.{Literal}
use Rattle.clause_set.specs.declared.literal.Literal.TheVariants.{Geq}
use Rattle.clause_set.specs.Clauses.{least, same_pairs, slack_of, slack}
use Rattle.clause_set.specs.Dnfs.{is_within}
use Rattle.clause_set.specs.Normal.{negated}
use Rattle.clause_set.proofs.Terms.{negated-negated}
use Rattle.linear_term.specs.Linear.{Linear}
use Rattle.linear_term.proofs.Totals.{by_test}
use Rattle.std.specs.List.{list_any}
use Rattle.base_budget.proofs.Charging.{drop-item}

min_assoc : (a b c : ℤ) → int_min (int_min a b) c ≡ int_min a (int_min b c)
min_assoc a b c = grind (arith, ints)

pub least_assoc : (a b c : Option ℤ) → least (least a b) c ≡ least a (least b c)
least_assoc None b c = refl
least_assoc (Some a) None c = refl
least_assoc (Some a) (Some b) None = refl
least_assoc (Some a) (Some b) (Some c) = ap Some (min_assoc a b c)

pub least_none : (a : Option ℤ) → least a None ≡ a
least_none None = refl
least_none (Some a) = refl

pub slack_step : (a s : Option ℤ) (p : List (ℕ × ℤ)) (ls : List Literal) (i : ℕ) (l : Literal) → i < length ls → l ≡ get_or ls i l → s ≡ slack_of l p
    → least a (slack (drop i ls) p) ≡ least (least a s) (slack (drop (i + 1) ls) p)
slack_step a s p ls i l lt is e =
    ap (λ z. least a (slack z p)) (drop-item ls i l lt is) ∙ ap (λ z. least a (least z (slack (drop (i + 1) ls) p))) (sym e)
    ∙ sym (least_assoc a s (slack (drop (i + 1) ls) p))

-- the test j + k < 0 without the sum
pub negative_sum : (j k : ℤ) → int_lt j (neg_ℤ k) ≡ int_lt (j +ℤ k) (pos 0)
negative_sum j k = grind (arith, ints)

pub zero_sum : (j k : ℤ) → int_eq j (neg_ℤ k) ≡ int_eq (j +ℤ k) (pos 0)
zero_sum j k = grind (arith, ints)

-- the opposite of opposite coefficients
pub opposite_twice : (s p : List (ℕ × ℤ)) → same_pairs s (negated (negated p)) ≡ same_pairs s p
opposite_twice s p = ap (same_pairs s) (negated-negated p)

pub ruleset opposites = (opposite_twice)

pub ruleset apart = (negative_sum, zero_sum)

or_none : (a : Bool) → (a || false) ≡ a
or_none true = refl
or_none false = refl

and_true : (a : Bool) → (a && true) ≡ a
and_true true = refl
and_true false = refl

and_false : (a : Bool) → (a && false) ≡ false
and_false true = refl
and_false false = refl

pub ruleset slacks = (slack_step, least_none)

-- ---- one bound tight enough
le_min : (j k c : ℤ) → int_le (int_min j k) c ≡ (int_le j c || int_le k c)
le_min j k c = grind (arith, ints)

within-least : (a b : Option ℤ) (c : ℤ) → is_within (least a b) c ≡ (is_within a c || is_within b c)
within-least None b c = refl
within-least (Some a) None c = sym (or_none (int_le a c))
within-least (Some a) (Some b) c = le_min a b c

pub any-within : (ls : List Literal) (p : List (ℕ × ℤ)) (c : ℤ) → list_any (λ l. is_within (slack_of l p) c) ls ≡ is_within (slack ls p) c
any-within [] p c = refl
any-within (l ∷ ls) p c = ap (λ b. is_within (slack_of l p) c || b) (any-within ls p c) ∙ sym (within-least (slack_of l p) (slack ls p) c)

-- a bound of these coefficients
pub within_bound : (s : Linear) (p : List (ℕ × ℤ)) (c : ℤ) → is_within (slack_of (Geq s) p) c ≡ (int_le s.constant c && same_pairs s.pairs p)
within_bound s p c = by_test (λ z. is_within z c ≡ (int_le s.constant c && same_pairs s.pairs p)) (same_pairs s.pairs p) (Some s.constant) None
    (λ y. sym (ap (λ b. int_le s.constant c && b) y ∙ and_true (int_le s.constant c)))
    (λ n. sym (ap (λ b. int_le s.constant c && b) n ∙ and_false (int_le s.constant c)))

pub ruleset within = (within_bound)
