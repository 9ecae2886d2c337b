-- Products in the range.
use Rattle.std.proofs.Common.{rules, ◌≡◌, ℤ, pos, ◌*ℤ◌, ◌<ℤ◌, true, [], ◌∷◌, Ok, refl, ◌∙◌, ap, subst, arith}
use Rattle.std.proofs.lemmas.Int.{ints}
use mir.Syntax.{w128}
use mir.Val.{SFits}
use Rattle.base_integers.proofs.Order.{mul_lt_right}
use Rattle.linear_term.specs.Range.{InRange, stays, all_stay}
use Rattle.linear_term.proofs.Ranges.{Stays-from_test, All-from_all_stay}
use Rattle.linear_term.specs.declared.range.Place.{Place}
use Rattle.base_budget.specs.Trace.{compute}
use Rattle.base_budget.specs.Work.{Worked}
use Rattle.base_budget.proofs.Charging.{raw_ok}
use Rattle.clause_set.specs.Names.{product}
use Rattle.clause_set.specs.Literals.{IsDivisor}

-- each number of a list that stays in the range does
pub stays_at : (p : Place) → all_stay (p ∷ []) ≡ true → stays p ≡ true
stays_at p h = All-from_all_stay (p ∷ []) h 0 p (omega arith)

pub first_of_two : (p q : Place) → all_stay (p ∷ q ∷ []) ≡ true → stays p ≡ true
first_of_two p q h = All-from_all_stay (p ∷ q ∷ []) h 0 p (omega arith)

pub second_of_two : (p q : Place) → all_stay (p ∷ q ∷ []) ≡ true → stays q ≡ true
second_of_two p q h = All-from_all_stay (p ∷ q ∷ []) h 1 p (omega arith)

pub first_of_three : (p q r : Place) → all_stay (p ∷ q ∷ r ∷ []) ≡ true → stays p ≡ true
first_of_three p q r h = All-from_all_stay (p ∷ q ∷ r ∷ []) h 0 p (omega arith)

pub second_of_three : (p q r : Place) → all_stay (p ∷ q ∷ r ∷ []) ≡ true → stays q ≡ true
second_of_three p q r h = All-from_all_stay (p ∷ q ∷ r ∷ []) h 1 p (omega arith)

pub third_of_three : (p q r : Place) → all_stay (p ∷ q ∷ r ∷ []) ≡ true → stays r ≡ true
third_of_three p q r h = All-from_all_stay (p ∷ q ∷ r ∷ []) h 2 p (omega arith)

pub product_range : (m a : ℤ) → stays (product m a) ≡ true → InRange (m *ℤ a)
product_range m a h = (Stays-from_test (product m a) h).left

pub product_fits : (m a : ℤ) → stays (product m a) ≡ true → SFits w128 (m *ℤ a)
product_fits m a h = let r = product_range m a h in search rules

pub ruleset products = (product_range, product_fits)

pub positive_product : (m a : ℤ) → pos 0 <ℤ m → pos 0 <ℤ a → pos 0 <ℤ (m *ℤ a)
positive_product m a h k = let lt = mul_lt_right (pos 0) m a k h in omega (arith, ints, lt)

pub divisor_product : (m a : ℤ) → IsDivisor m → IsDivisor a → stays (product m a) ≡ true → IsDivisor (m *ℤ a)
divisor_product m a h k s = record { positive = positive_product m a h.positive k.positive; in_range = product_range m a s }

pub ruleset positive_products = (stays_at, divisor_product)

-- one product that stays, as work
pub one_computed : (m a n : ℤ) (p : Place) → p ≡ product m a → a ≡ n → all_stay (p ∷ []) ≡ true → Worked (compute (product m n ∷ [])) (Ok (tt {0}))
one_computed m a n p is same h = raw_ok _ tt tt (subst (λ z. all_stay (z ∷ []) ≡ true) (is ∙ ap (product m) same) h) refl
