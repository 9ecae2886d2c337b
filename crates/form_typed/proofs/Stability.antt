-- Truth is stable: what is not false is true.
use Rattle.std.proofs.Common.{◌≡◌, ◌↔◌, ℤ, ◌≤ℤ◌, ◌<ℤ◌, Bool, true, List, [], ◌∷◌, ◌++◌, arith}
use borrow.Author.Differences.{ints}
use Rattle.form_typed.specs.declared.typed.Relation.{Relation}
use Rattle.form_typed.specs.declared.typed.Relation.TheVariants.{Eq, Neq, Lt, Leq, Gt, Geq}
use Rattle.form_typed.specs.Formula.{Formula, Formulas, constant, compares, applies, negation, every, some, implies, iff, for_all, for_some, part, no_formula, and_formula}
use Rattle.form_typed.specs.Truth.{Meaning, Truth, AreAllTrue, IsRelated, opposite_relation}
use Rattle.form_typed.proofs.Values.{value_stable, values_stable}

-- a test that does not fail to be true is true
pub test_stable : (b : Bool) → ¬ (¬ (b ≡ true)) → b ≡ true
test_stable b h = grind arith

-- an equation of integers that is not false is true
pub equal_stable : (x y : ℤ) → ¬ (¬ (x ≡ y)) → x ≡ y
equal_stable x y h = grind (arith, ints)

less_stable : (x y : ℤ) → ¬ (¬ (x <ℤ y)) → x <ℤ y
less_stable x y h = grind (arith, ints)

at_most_stable : (x y : ℤ) → ¬ (¬ (x ≤ℤ y)) → x ≤ℤ y
at_most_stable x y h = grind (arith, ints)

less_not : (x y : ℤ) → ¬ (x <ℤ y) → y ≤ℤ x
less_not x y h = grind (arith, ints)

at_most_not : (x y : ℤ) → ¬ (x ≤ℤ y) → y <ℤ x
at_most_not x y h = grind (arith, ints)

-- a relation of integers that is not false is true
pub related_stable : (r : Relation) (x y : ℤ) → ¬ (¬ (IsRelated r x y)) → IsRelated r x y
related_stable Eq x y h = equal_stable x y h
related_stable Neq x y h = λ a. h (λ n. n a)
related_stable Lt x y h = less_stable x y h
related_stable Leq x y h = at_most_stable x y h
related_stable Gt x y h = less_stable y x h
related_stable Geq x y h = at_most_stable y x h

-- the opposite relation holds exactly where the relation does not
pub related_opposite : (r : Relation) (x y : ℤ) → IsRelated (opposite_relation r) x y ↔ ¬ (IsRelated r x y)
related_opposite Eq x y = (λ h. h, λ h. h)
related_opposite Neq x y = (λ h n. n h, λ h. equal_stable x y h)
related_opposite Lt x y = (λ h k. omega (arith, ints), λ h. less_not x y h)
related_opposite Leq x y = (λ h k. omega (arith, ints), λ h. at_most_not x y h)
related_opposite Gt x y = (λ h k. omega (arith, ints), λ h. less_not y x h)
related_opposite Geq x y = (λ h k. omega (arith, ints), λ h. at_most_not y x h)

mutual
  -- what is not false is true
  pub truth_stable : (w : Meaning) (f : Formula) (e : List ℤ) → ¬ (¬ (Truth w f e)) → Truth w f e
  truth_stable w (constant b) e h = test_stable b h
  truth_stable w (compares r s t) e h = value_stable w s e _ (λ x. value_stable w t e (λ y. IsRelated r x y) (λ y. related_stable r x y)) h
  truth_stable w (applies p ts) e h = values_stable w ts e (λ xs. w.truth p xs ≡ true) (λ xs. test_stable (w.truth p xs)) h
  truth_stable w (negation f) e h = λ a. h (λ n. n a)
  truth_stable w (every fs) e h = all_true_stable w fs e h
  truth_stable w (some fs) e h = λ a. h (λ n. n a)
  truth_stable w (implies f g) e h = λ a. truth_stable w g e (λ n. h (λ k. n (k a)))
  truth_stable w (iff f g) e h = (λ a. truth_stable w g e (λ n. h (λ k. n (k.0 a))), λ a. truth_stable w f e (λ n. h (λ k. n (k.1 a))))
  truth_stable w (for_all s f) e h = λ v t. truth_stable w f (e ++ v ∷ []) (λ n. h (λ k. n (k v t)))
  truth_stable w (for_some s f) e h = λ a. h (λ n. n a)
  truth_stable w (part k f) e h = truth_stable w f e h

  -- formulas that are not untrue together are true together
  pub all_true_stable : (w : Meaning) (fs : Formulas) (e : List ℤ) → ¬ (¬ (AreAllTrue w fs e)) → AreAllTrue w fs e
  all_true_stable w no_formula e h = tt
  all_true_stable w (and_formula f fs) e h = (truth_stable w f e (λ n. h (λ k. n (k.0))), all_true_stable w fs e (λ n. h (λ k. n (k.1))))
