-- The value of a term and the truth of a formula in an interpretation at a list of integers, after the usual semantics
-- of first-order logic (SMT-LIB 2.6, section 5.3) over the integers.
--
-- Truth is written in a stable form, since the proofs have no excluded middle: a disjunction is true where not all its
-- members are false, and an existential formula where not every value of its type makes its body false. In ordinary mathematics
-- this is the usual truth; it is what makes a formula true exactly where its negation is not. The value of a term with
-- a condition depends on a truth that nobody can decide, so what is defined is that the value has a property; a term
-- has the value v where its value has the property of being v.
use Rattle.std.specs.Prelude.{◌≡◌, ℕ, ℤ, pos, ◌*ℤ◌, neg_ℤ, ◌<ℤ◌, ◌≤ℤ◌, Bool, true, List, [], ◌∷◌, ◌++◌, unsigned_abs}
use Rattle.std.specs.Int.{int_min, int_max}
use Rattle.form_typed.specs.declared.typed.Relation.{Relation}
use Rattle.form_typed.specs.declared.typed.Relation.TheVariants.{Eq, Neq, Lt, Leq, Gt, Geq}
use Rattle.form_typed.specs.Formula.{Formula, Formulas, Expression, Expressions, constant, compares, applies, negation, every, some, implies, iff, for_all, for_some, part, no_formula, and_formula, number, name, call, minus, total, product, choice, absolute, lesser, greater, no_expression, and_expression}
use Rattle.base_integers.specs.Entry.{entry}
use Rattle.form_typed.specs.Lists.{sum_of}
use Rattle.form_typed.specs.Sorts.{IsValueOf}

-- an interpretation: what the predicates and functions, by number, are at lists of integers
pub record Meaning : Type 0 where
  pub truth : ℕ → List ℤ → Bool
  pub value : ℕ → List ℤ → ℤ

-- the relation holds between x and y
abbrev pub IsRelated : Relation → ℤ → ℤ → Type 0
IsRelated Eq x y = x ≡ y
IsRelated Neq x y = ¬ (x ≡ y)
IsRelated Lt x y = x <ℤ y
IsRelated Leq x y = x ≤ℤ y
IsRelated Gt x y = y <ℤ x
IsRelated Geq x y = y ≤ℤ x

-- the relation that holds exactly where this one does not
abbrev pub opposite_relation : Relation → Relation
opposite_relation Eq = Neq
opposite_relation Neq = Eq
opposite_relation Lt = Geq
opposite_relation Leq = Gt
opposite_relation Gt = Leq
opposite_relation Geq = Lt

abbrev mutual
  -- the formula is true in the interpretation at the integers of its names
  pub Truth : Meaning → Formula → List ℤ → Type 0
  Truth w (constant b) e = b ≡ true
  Truth w (compares r s t) e = HasValue w s e (λ x. HasValue w t e (λ y. IsRelated r x y))
  Truth w (applies p ts) e = HaveValues w ts e (λ xs. w.truth p xs ≡ true)
  Truth w (negation f) e = ¬ (Truth w f e)
  Truth w (every fs) e = AreAllTrue w fs e
  Truth w (some fs) e = ¬ (AreAllFalse w fs e)
  Truth w (implies f g) e = Truth w f e → Truth w g e
  Truth w (iff f g) e = (Truth w f e → Truth w g e) × (Truth w g e → Truth w f e)
  Truth w (for_all s f) e = (v : ℤ) → IsValueOf s v → Truth w f (e ++ v ∷ [])
  Truth w (for_some s f) e = ¬ ((v : ℤ) → IsValueOf s v → ¬ (Truth w f (e ++ v ∷ [])))
  Truth w (part k f) e = Truth w f e

  -- every formula of the list is true
  pub AreAllTrue : Meaning → Formulas → List ℤ → Type 0
  AreAllTrue w no_formula e = Unit {0}
  AreAllTrue w (and_formula f fs) e = Truth w f e × AreAllTrue w fs e

  -- every formula of the list is false
  pub AreAllFalse : Meaning → Formulas → List ℤ → Type 0
  AreAllFalse w no_formula e = Unit {0}
  AreAllFalse w (and_formula f fs) e = (¬ (Truth w f e)) × AreAllFalse w fs e

  -- the value of the term has the property P
  pub HasValue : Meaning → Expression → List ℤ → (ℤ → Type 0) → Type 0
  HasValue w (number n) e P = P n
  HasValue w (name x) e P = P (entry e x)
  HasValue w (call f ts) e P = HaveValues w ts e (λ xs. P (w.value f xs))
  HasValue w (minus t) e P = HasValue w t e (λ x. P (neg_ℤ x))
  HasValue w (total ts) e P = HaveValues w ts e (λ xs. P (sum_of xs))
  HasValue w (product s t) e P = HasValue w s e (λ x. HasValue w t e (λ y. P (x *ℤ y)))
  HasValue w (choice f s t) e P = (Truth w f e → HasValue w s e P) × (¬ (Truth w f e) → HasValue w t e P)
  HasValue w (absolute t) e P = HasValue w t e (λ x. P (pos (unsigned_abs x)))
  HasValue w (lesser s t) e P = HasValue w s e (λ x. HasValue w t e (λ y. P (int_min x y)))
  HasValue w (greater s t) e P = HasValue w s e (λ x. HasValue w t e (λ y. P (int_max x y)))

  -- the list of the values of the terms has the property P
  pub HaveValues : Meaning → Expressions → List ℤ → (List ℤ → Type 0) → Type 0
  HaveValues w no_expression e P = P []
  HaveValues w (and_expression t ts) e P = HasValue w t e (λ x. HaveValues w ts e (λ xs. P (x ∷ xs)))
