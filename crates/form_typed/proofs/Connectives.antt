-- The laws of the connectives, the quantifiers and the values of terms.
use borrow.Author.Differences.{ints}
use Rattle.std.proofs.Common.{◌≡◌, ◌↔◌, ℤ, ◌<ℤ◌, ◌≤ℤ◌, arith, pos, ◌*ℤ◌, neg_ℤ, List, [], ◌∷◌, ◌++◌, map, All, refl, ap, ◌∙◌, sym, unsigned_abs}
use Rattle.std.specs.Int.{int_min, int_max}
use Rattle.std.proofs.lemmas.List.Elements.{All-nil, All-cons, All-head, All-tail}
use Rattle.form_typed.specs.Formula.{Formula, Formulas, Expression, Expressions, formulas, negation, every, some, implies, iff, for_all, for_some, no_formula, and_formula, number, name, call, minus, total, product, choice, absolute, lesser, greater, no_expression, and_expression}
use Rattle.form_typed.specs.declared.typed.Sort.{Sort}
use Rattle.form_typed.specs.declared.typed.Sort.TheVariants.{Int, Nat, Range}
use Rattle.form_typed.specs.Sorts.{IsValueOf}
use Rattle.form_typed.specs.Truth.{Meaning, Truth, AreAllTrue, AreAllFalse, HasValue, HaveValues}
use Rattle.form_typed.specs.Lists.{sum_of}
use Rattle.form_typed.proofs.Values.{value_more, values_more, value_clash}
use Rattle.form_typed.proofs.Stability.{truth_stable, equal_stable}

-- what is not not true is true, and the other way round
pub double_negation : (w : Meaning) (f : Formula) (e : List ℤ) → Truth w (negation (negation f)) e ↔ Truth w f e
double_negation w f e = (truth_stable w f e, λ a n. n a)

-- a conjunction is true where each of its members is
pub conjunction : (w : Meaning) (fs : List Formula) (e : List ℤ) → Truth w (every (formulas fs)) e ↔ All (λ f. Truth w f e) fs
conjunction w [] e = (λ _. All-nil (λ f. Truth w f e), λ _. tt)
conjunction w (f ∷ fs) e =
    let P : Formula → Type 0 = λ g. Truth w g e in
    (λ h. All-cons P f fs (h.0) ((conjunction w fs e).0 (h.1)), λ h. (All-head P f fs h, (conjunction w fs e).1 (All-tail P f fs h)))

-- formulas are all false where each of them is
pub all_false : (w : Meaning) (fs : List Formula) (e : List ℤ) → AreAllFalse w (formulas fs) e ↔ All (λ f. ¬ (Truth w f e)) fs
all_false w [] e = (λ _. All-nil (λ f. ¬ (Truth w f e)), λ _. tt)
all_false w (f ∷ fs) e =
    let P : Formula → Type 0 = λ g. ¬ (Truth w g e) in
    (λ h. All-cons P f fs (h.0) ((all_false w fs e).0 (h.1)), λ h. (All-head P f fs h, (all_false w fs e).1 (All-tail P f fs h)))

all_false_stable : (w : Meaning) (fs : Formulas) (e : List ℤ) → ¬ (¬ (AreAllFalse w fs e)) → AreAllFalse w fs e
all_false_stable w no_formula e h = tt
all_false_stable w (and_formula f fs) e h = (λ a. h (λ k. k.0 a), all_false_stable w fs e (λ n. h (λ k. n (k.1))))

-- a disjunction is false where each of its members is
pub disjunction : (w : Meaning) (fs : List Formula) (e : List ℤ) → (¬ (Truth w (some (formulas fs)) e)) ↔ All (λ f. ¬ (Truth w f e)) fs
disjunction w fs e = (λ h. (all_false w fs e).0 (all_false_stable w (formulas fs) e h), λ h k. k ((all_false w fs e).1 h))

-- a disjunction is true where one of its members is
pub disjunct : (w : Meaning) (before after : List Formula) (f : Formula) (e : List ℤ) → Truth w f e → Truth w (some (formulas (before ++ f ∷ after))) e
disjunct w [] after f e a h = h.0 a
disjunct w (g ∷ before) after f e a h = disjunct w before after f e a (h.1)

none_of_negations : (w : Meaning) (fs : List Formula) (e : List ℤ) → AreAllFalse w (formulas (map negation fs)) e → AreAllTrue w (formulas fs) e
none_of_negations w [] e h = tt
none_of_negations w (f ∷ fs) e h = (truth_stable w f e (h.0), none_of_negations w fs e (h.1))

negations_of_all : (w : Meaning) (fs : List Formula) (e : List ℤ) → AreAllTrue w (formulas fs) e → AreAllFalse w (formulas (map negation fs)) e
negations_of_all w [] e h = tt
negations_of_all w (f ∷ fs) e h = (λ n. n (h.0), negations_of_all w fs e (h.1))

-- the negation of a conjunction is the disjunction of the negations (De Morgan)
pub not_every : (w : Meaning) (fs : List Formula) (e : List ℤ) → Truth w (negation (every (formulas fs))) e ↔ Truth w (some (formulas (map negation fs))) e
not_every w fs e = (λ h k. h (none_of_negations w fs e k), λ h k. h (negations_of_all w fs e k))

all_negations : (w : Meaning) (fs : List Formula) (e : List ℤ) → AreAllFalse w (formulas fs) e → AreAllTrue w (formulas (map negation fs)) e
all_negations w [] e h = tt
all_negations w (f ∷ fs) e h = (h.0, all_negations w fs e (h.1))

false_by_negations : (w : Meaning) (fs : List Formula) (e : List ℤ) → AreAllTrue w (formulas (map negation fs)) e → AreAllFalse w (formulas fs) e
false_by_negations w [] e h = tt
false_by_negations w (f ∷ fs) e h = (h.0, false_by_negations w fs e (h.1))

-- the negation of a disjunction is the conjunction of the negations (De Morgan)
pub not_some : (w : Meaning) (fs : List Formula) (e : List ℤ) → Truth w (negation (some (formulas fs))) e ↔ Truth w (every (formulas (map negation fs))) e
not_some w fs e = (λ h. all_negations w fs e (all_false_stable w (formulas fs) e h), λ h k. k (false_by_negations w fs e h))

-- an implication is true where its left side is false or its right side is true
pub implication : (w : Meaning) (f g : Formula) (e : List ℤ) → Truth w (implies f g) e ↔ Truth w (some (formulas (negation f ∷ g ∷ []))) e
implication w f g e = (λ h k. k.0 (λ a. (k.1).0 (h a)), λ h a. truth_stable w g e (λ n. h (λ m. m a, (n, tt))))

-- an equivalence is two implications
pub equivalence : (w : Meaning) (f g : Formula) (e : List ℤ) → Truth w (iff f g) e ↔ Truth w (every (formulas (implies f g ∷ implies g f ∷ []))) e
equivalence w f g e = (λ h. (h.0, (h.1, tt)), λ h. (h.0, (h.1).0))

-- an existential formula is true where its body is true at some value of the type
pub witness : (w : Meaning) (s : Sort) (f : Formula) (e : List ℤ) (v : ℤ) → IsValueOf s v → Truth w f (e ++ v ∷ []) → Truth w (for_some s f) e
witness w s f e v t a h = h v t a

-- the negation of an existential formula is the universal one of the negation
pub not_for_some : (w : Meaning) (s : Sort) (f : Formula) (e : List ℤ) → Truth w (negation (for_some s f)) e ↔ Truth w (for_all s (negation f)) e
not_for_some w s f e = (λ h v t a. h (λ k. k v t a), λ h k. k h)

-- the negation of a universal formula is the existential one of the negation
pub not_for_all : (w : Meaning) (s : Sort) (f : Formula) (e : List ℤ) → Truth w (negation (for_all s f)) e ↔ Truth w (for_some s (negation f)) e
not_for_all w s f e = (λ h k. h (λ v t. truth_stable w f (e ++ v ∷ []) (k v t)), λ h k. h (λ v t n. n (k v t)))

-- over all integers the type asks for nothing
pub all_integers : (w : Meaning) (f : Formula) (e : List ℤ) → Truth w (for_all Int f) e ↔ ((v : ℤ) → Truth w f (e ++ v ∷ []))
all_integers w f e = (λ h v. h v tt, λ h v _. h v)

-- over the integers from 0 on: what is not below 0 is a value
pub naturals : (w : Meaning) (f : Formula) (e : List ℤ) → Truth w (for_all Nat f) e ↔ ((v : ℤ) → pos 0 ≤ℤ v → Truth w f (e ++ v ∷ []))
naturals w f e = (λ h. h, λ h. h)

no_integer : (a b v : ℤ) → b <ℤ a → IsValueOf (Range a b) v → ⊥
no_integer a b v lt h = let low = h.0 in let high = h.1 in omega (arith, ints)

-- where the bounds of a range are the wrong way round, what is so of all its values is so
pub empty_range : (w : Meaning) (f : Formula) (e : List ℤ) (a b : ℤ) → b <ℤ a → Truth w (for_all (Range a b) f) e
empty_range w f e a b lt v h = absurd (no_integer a b v lt h)

-- a term has one value at most
pub one_value : (w : Meaning) (t : Expression) (e : List ℤ) (u v : ℤ) → HasValue w t e (λ x. x ≡ u) → HasValue w t e (λ x. x ≡ v) → u ≡ v
one_value w t e u v h k = equal_stable u v (λ n. value_clash w t e (λ x. x ≡ u) (λ x. x ≡ v) (λ x a b. n (sym a ∙ b)) h k)

same_pair : (op : ℤ → ℤ → ℤ) (x x' y y' : ℤ) → x' ≡ x → y' ≡ y → op x' y' ≡ op x y
same_pair op x x' y y' p q = cc

same_list : (x x' : ℤ) (xs xs' : List ℤ) → x' ≡ x → xs' ≡ xs → x' ∷ xs' ≡ x ∷ xs
same_list x x' xs xs' p q = cc

own_pair : (w : Meaning) (s t : Expression) (e : List ℤ) (op : ℤ → ℤ → ℤ)
    → HasValue w s e (λ x. HasValue w s e (λ y. y ≡ x)) → HasValue w t e (λ x. HasValue w t e (λ y. y ≡ x))
    → HasValue w s e (λ x. HasValue w t e (λ y. HasValue w s e (λ x'. HasValue w t e (λ y'. op x' y' ≡ op x y))))
own_pair w s t e op h k =
    value_more w s e (λ x. HasValue w s e (λ x'. x' ≡ x)) _
    (λ x p. value_more w t e (λ y. HasValue w t e (λ y'. y' ≡ y)) _
    (λ y q. value_more w s e (λ x'. x' ≡ x) _ (λ x' a. value_more w t e (λ y'. y' ≡ y) _ (λ y' b. same_pair op x x' y y' a b) q) p) k) h

mutual
  -- the value of a term is the value of that term
  own_value : (w : Meaning) (t : Expression) (e : List ℤ) → HasValue w t e (λ x. HasValue w t e (λ y. y ≡ x))
  own_value w (number n) e = refl
  own_value w (name x) e = refl
  own_value w (call f ts) e = values_more w ts e _ _ (λ xs. values_more w ts e (λ ys. ys ≡ xs) _ (λ ys p. ap (w.value f) p)) (own_values w ts e)
  own_value w (minus t) e = value_more w t e _ _ (λ x. value_more w t e (λ y. y ≡ x) _ (λ y p. ap neg_ℤ p)) (own_value w t e)
  own_value w (total ts) e = values_more w ts e _ _ (λ xs. values_more w ts e (λ ys. ys ≡ xs) _ (λ ys p. ap sum_of p)) (own_values w ts e)
  own_value w (product s t) e = own_pair w s t e (λ x y. x *ℤ y) (own_value w s e) (own_value w t e)
  own_value w (choice f s t) e =
      (λ a. value_more w s e _ _ (λ x h. (λ _. h, λ n. absurd (n a))) (own_value w s e), λ n. value_more w t e _ _ (λ x h. (λ a. absurd (n a), λ _. h)) (own_value w t e))
  own_value w (absolute t) e = value_more w t e _ _ (λ x. value_more w t e (λ y. y ≡ x) _ (λ y p. ap (λ z. pos (unsigned_abs z)) p)) (own_value w t e)
  own_value w (lesser s t) e = own_pair w s t e int_min (own_value w s e) (own_value w t e)
  own_value w (greater s t) e = own_pair w s t e int_max (own_value w s e) (own_value w t e)

  own_values : (w : Meaning) (ts : Expressions) (e : List ℤ) → HaveValues w ts e (λ xs. HaveValues w ts e (λ ys. ys ≡ xs))
  own_values w no_expression e = refl
  own_values w (and_expression t ts) e =
      value_more w t e _ _ (λ x h. values_more w ts e _ _ (λ xs k. value_more w t e (λ y. y ≡ x) _ (λ y p. values_more w ts e (λ ys. ys ≡ xs) _ (λ ys q. same_list x y xs ys p q) k) h) (own_values w ts e)) (own_value w t e)

-- a term cannot fail to have a value
pub some_value : (w : Meaning) (t : Expression) (e : List ℤ) → ¬ ((v : ℤ) → ¬ (HasValue w t e (λ x. x ≡ v)))
some_value w t e h =
    let none : HasValue w t e (λ x. ⊥) = value_more w t e (λ x. HasValue w t e (λ y. y ≡ x)) (λ x. ⊥) (λ x k. h x k) (own_value w t e) in
    value_clash w t e (λ x. ⊥) (λ x. ⊥) (λ x a b. a) none none
