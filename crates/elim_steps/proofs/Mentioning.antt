-- A name occurs in a term in normal form exactly where its coefficient is not 0.
use Rattle.std.proofs.Common.{◌≡◌, ℕ, ℤ, pos, Bool, true, false, not, refl, ◌∙◌, ap}
use Rattle.std.specs.Ordering.{int_eq}
use Rattle.std.proofs.lemmas.Bool.Decides.{Decides-int_eq}
use Rattle.linear_term.specs.Linear.{Linear, IsNormal, coef_of, mentions}
use Rattle.linear_term.proofs.Names.{coef_of-unmentioned, unmentioned_from_coef, reduced-normal}
use Rattle.clause_set.proofs.NormalTruth.{decides_false}

mentions-coefficient : (t : Linear) (x : ℕ) → IsNormal t → not (int_eq (coef_of t x) (pos 0)) ≡ mentions t x
mentions-coefficient t x h = by (mentions t x) refl
  where
    by : (b : Bool) → mentions t x ≡ b → not (int_eq (coef_of t x) (pos 0)) ≡ b
    by true m = ap not (decides_false (int_eq (coef_of t x) (pos 0)) (Decides-int_eq (coef_of t x) (pos 0)) (λ z. let f : mentions t x ≡ false = unmentioned_from_coef t x (reduced-normal t h) z in absurd cc))
    by false m = ap not ((Decides-int_eq (coef_of t x) (pos 0)).1 (coef_of-unmentioned t x m))

pub test_of_name : (t : Linear) (x : ℕ) (k : ℤ) (b : Bool) → IsNormal t → k ≡ coef_of t x → b ≡ int_eq k (pos 0) → not b ≡ mentions t x
test_of_name t x k b normal is test = ap not (test ∙ ap (λ z. int_eq z (pos 0)) is) ∙ mentions-coefficient t x normal

pub ruleset mentions_by_coefficient = (test_of_name)
