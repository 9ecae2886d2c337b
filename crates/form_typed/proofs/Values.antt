-- What follows from a term's value having a property: properties can be weakened, two that exclude each other cannot
-- both be had, and the negation of a property is had where the property is not.
use Rattle.std.proofs.Common.{ℤ, pos, ◌*ℤ◌, neg_ℤ, List, [], ◌∷◌, unsigned_abs}
use Rattle.std.specs.Int.{int_min, int_max}
use Rattle.form_typed.specs.Formula.{Expression, Expressions, number, name, call, minus, total, product, choice, absolute, lesser, greater, no_expression, and_expression}
use Rattle.form_typed.specs.Truth.{Meaning, Truth, HasValue, HaveValues}
use Rattle.base_integers.specs.Entry.{entry}
use Rattle.form_typed.specs.Lists.{sum_of}

mutual
  -- a property that follows from one that the value has is one that it has
  pub value_more : (w : Meaning) (t : Expression) (e : List ℤ) (P Q : ℤ → Type 0) → ((v : ℤ) → P v → Q v) → HasValue w t e P → HasValue w t e Q
  value_more w (number n) e P Q m h = m n h
  value_more w (name x) e P Q m h = m (entry e x) h
  value_more w (call f ts) e P Q m h = values_more w ts e (λ xs. P (w.value f xs)) (λ xs. Q (w.value f xs)) (λ xs. m (w.value f xs)) h
  value_more w (minus t) e P Q m h = value_more w t e (λ x. P (neg_ℤ x)) (λ x. Q (neg_ℤ x)) (λ x. m (neg_ℤ x)) h
  value_more w (total ts) e P Q m h = values_more w ts e (λ xs. P (sum_of xs)) (λ xs. Q (sum_of xs)) (λ xs. m (sum_of xs)) h
  value_more w (product s t) e P Q m h = value_more w s e _ _ (λ x. value_more w t e (λ y. P (x *ℤ y)) (λ y. Q (x *ℤ y)) (λ y. m (x *ℤ y))) h
  value_more w (choice f s t) e P Q m h = (λ k. value_more w s e P Q m (h.0 k), λ k. value_more w t e P Q m (h.1 k))
  value_more w (absolute t) e P Q m h = value_more w t e (λ x. P (pos (unsigned_abs x))) (λ x. Q (pos (unsigned_abs x))) (λ x. m (pos (unsigned_abs x))) h
  value_more w (lesser s t) e P Q m h = value_more w s e _ _ (λ x. value_more w t e (λ y. P (int_min x y)) (λ y. Q (int_min x y)) (λ y. m (int_min x y))) h
  value_more w (greater s t) e P Q m h = value_more w s e _ _ (λ x. value_more w t e (λ y. P (int_max x y)) (λ y. Q (int_max x y)) (λ y. m (int_max x y))) h

  -- the same of the values of a list of terms
  pub values_more : (w : Meaning) (ts : Expressions) (e : List ℤ) (P Q : List ℤ → Type 0) → ((xs : List ℤ) → P xs → Q xs) → HaveValues w ts e P → HaveValues w ts e Q
  values_more w no_expression e P Q m h = m [] h
  values_more w (and_expression t ts) e P Q m h = value_more w t e _ _ (λ x. values_more w ts e (λ xs. P (x ∷ xs)) (λ xs. Q (x ∷ xs)) (λ xs. m (x ∷ xs))) h

mutual
  -- a value cannot have two properties that exclude each other
  pub value_clash : (w : Meaning) (t : Expression) (e : List ℤ) (P Q : ℤ → Type 0) → ((v : ℤ) → P v → Q v → ⊥) → HasValue w t e P → HasValue w t e Q → ⊥
  value_clash w (number n) e P Q m h k = m n h k
  value_clash w (name x) e P Q m h k = m (entry e x) h k
  value_clash w (call f ts) e P Q m h k = values_clash w ts e (λ xs. P (w.value f xs)) (λ xs. Q (w.value f xs)) (λ xs. m (w.value f xs)) h k
  value_clash w (minus t) e P Q m h k = value_clash w t e (λ x. P (neg_ℤ x)) (λ x. Q (neg_ℤ x)) (λ x. m (neg_ℤ x)) h k
  value_clash w (total ts) e P Q m h k = values_clash w ts e (λ xs. P (sum_of xs)) (λ xs. Q (sum_of xs)) (λ xs. m (sum_of xs)) h k
  value_clash w (product s t) e P Q m h k = value_clash w s e _ _ (λ x. value_clash w t e (λ y. P (x *ℤ y)) (λ y. Q (x *ℤ y)) (λ y. m (x *ℤ y))) h k
  value_clash w (choice f s t) e P Q m h k = let untrue : ¬ (Truth w f e) = λ a. value_clash w s e P Q m (h.0 a) (k.0 a) in value_clash w t e P Q m (h.1 untrue) (k.1 untrue)
  value_clash w (absolute t) e P Q m h k = value_clash w t e (λ x. P (pos (unsigned_abs x))) (λ x. Q (pos (unsigned_abs x))) (λ x. m (pos (unsigned_abs x))) h k
  value_clash w (lesser s t) e P Q m h k = value_clash w s e _ _ (λ x. value_clash w t e (λ y. P (int_min x y)) (λ y. Q (int_min x y)) (λ y. m (int_min x y))) h k
  value_clash w (greater s t) e P Q m h k = value_clash w s e _ _ (λ x. value_clash w t e (λ y. P (int_max x y)) (λ y. Q (int_max x y)) (λ y. m (int_max x y))) h k

  -- the same of the values of a list of terms
  pub values_clash : (w : Meaning) (ts : Expressions) (e : List ℤ) (P Q : List ℤ → Type 0) → ((xs : List ℤ) → P xs → Q xs → ⊥) → HaveValues w ts e P → HaveValues w ts e Q → ⊥
  values_clash w no_expression e P Q m h k = m [] h k
  values_clash w (and_expression t ts) e P Q m h k = value_clash w t e _ _ (λ x. values_clash w ts e (λ xs. P (x ∷ xs)) (λ xs. Q (x ∷ xs)) (λ xs. m (x ∷ xs))) h k

mutual
  -- where the value has not the property P, it has each property that follows from not P
  pub value_not : (w : Meaning) (t : Expression) (e : List ℤ) (P Q : ℤ → Type 0) → ((v : ℤ) → ¬ (P v) → Q v) → ¬ (HasValue w t e P) → HasValue w t e Q
  value_not w (number n) e P Q m h = m n h
  value_not w (name x) e P Q m h = m (entry e x) h
  value_not w (call f ts) e P Q m h = values_not w ts e (λ xs. P (w.value f xs)) (λ xs. Q (w.value f xs)) (λ xs. m (w.value f xs)) h
  value_not w (minus t) e P Q m h = value_not w t e (λ x. P (neg_ℤ x)) (λ x. Q (neg_ℤ x)) (λ x. m (neg_ℤ x)) h
  value_not w (total ts) e P Q m h = values_not w ts e (λ xs. P (sum_of xs)) (λ xs. Q (sum_of xs)) (λ xs. m (sum_of xs)) h
  value_not w (product s t) e P Q m h = value_not w s e _ _ (λ x. value_not w t e (λ y. P (x *ℤ y)) (λ y. Q (x *ℤ y)) (λ y. m (x *ℤ y))) h
  value_not w (choice f s t) e P Q m h =
      (λ a. value_not w s e P Q m (λ k. h (λ _. k, λ n. absurd (n a))), λ n. value_not w t e P Q m (λ k. h (λ a. absurd (n a), λ _. k)))
  value_not w (absolute t) e P Q m h = value_not w t e (λ x. P (pos (unsigned_abs x))) (λ x. Q (pos (unsigned_abs x))) (λ x. m (pos (unsigned_abs x))) h
  value_not w (lesser s t) e P Q m h = value_not w s e _ _ (λ x. value_not w t e (λ y. P (int_min x y)) (λ y. Q (int_min x y)) (λ y. m (int_min x y))) h
  value_not w (greater s t) e P Q m h = value_not w s e _ _ (λ x. value_not w t e (λ y. P (int_max x y)) (λ y. Q (int_max x y)) (λ y. m (int_max x y))) h

  -- the same of the values of a list of terms
  pub values_not : (w : Meaning) (ts : Expressions) (e : List ℤ) (P Q : List ℤ → Type 0) → ((xs : List ℤ) → ¬ (P xs) → Q xs) → ¬ (HaveValues w ts e P) → HaveValues w ts e Q
  values_not w no_expression e P Q m h = m [] h
  values_not w (and_expression t ts) e P Q m h = value_not w t e _ _ (λ x. values_not w ts e (λ xs. P (x ∷ xs)) (λ xs. Q (x ∷ xs)) (λ xs. m (x ∷ xs))) h

-- what a value cannot fail to have, it has, for properties of which this is true at each number
pub value_stable : (w : Meaning) (t : Expression) (e : List ℤ) (P : ℤ → Type 0) → ((v : ℤ) → ¬ (¬ (P v)) → P v) → ¬ (¬ (HasValue w t e P)) → HasValue w t e P
value_stable w t e P s h = value_not w t e (λ v. ¬ (P v)) P s (λ k. h (λ p. value_clash w t e P (λ v. ¬ (P v)) (λ v a n. n a) p k))

-- the same of the values of a list of terms
pub values_stable : (w : Meaning) (ts : Expressions) (e : List ℤ) (P : List ℤ → Type 0) → ((xs : List ℤ) → ¬ (¬ (P xs)) → P xs) → ¬ (¬ (HaveValues w ts e P)) → HaveValues w ts e P
values_stable w ts e P s h = values_not w ts e (λ xs. ¬ (P xs)) P s (λ k. h (λ p. values_clash w ts e P (λ xs. ¬ (P xs)) (λ xs a n. n a) p k))
