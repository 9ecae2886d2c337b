-- The extent of an encoding.
use Rattle.std.proofs.Common.{◌≡◌, ℕ, suc, ◌+◌, max, pos, negsuc, Bool, true, false, not, cond, List, [], ◌∷◌, ◌++◌, refl, ◌∙◌, arith}
use Rattle.std.specs.Bool.{beq}
use Rattle.linear_term.specs.Linear as linear
use Rattle.linear_term.specs.Linear.{Linear}
use Rattle.form_typed.specs.declared.typed.Relation.{Relation}
use Rattle.form_typed.specs.declared.typed.Relation.TheVariants.{Eq, Neq, Lt, Leq, Gt, Geq}
use Rattle.form_typed.specs.Formula.{Formula, Formulas, Expression, Expressions, constant, compares, applies, negation, every, some, implies, iff, for_all, for_some, part, no_formula, and_formula, number, name, call, minus, total, product, choice, absolute, lesser, greater, no_expression, and_expression}
use Rattle.base_budget.specs.Trace.{Traced, just, step, next, combining}
use Rattle.formula.specs.Form.{Form, Forms, holds, fails, differs, conjunction, disjunction, no_form, and_form, forms}
use Rattle.form_encoding.specs.Extent.{Extent, leaf, nothing, beside, above, above_two, in_both, extent, extents, extent_with, extents_with, measured, all_measured}
use Rattle.pri_typing.specs.WellFormed.{is_numeric}
use Rattle.form_encoding.specs.Encoding.{named, multiple, related, signed_relation, product_of, junction, cases, encoded, all_encoded, with_value, with_values, with_sum, with_more}
use Rattle.form_encoding.proofs.Measuring.{measured-more, measured-above, measured-nothing, measured-junction, measured-quantified}
use Rattle.form_encoding.proofs.Bounding.{measured-bound}

measured-two : (g h : Form) (a b : Extent) → measured g ≡ a → measured h ≡ b → all_measured (forms (g ∷ h ∷ [])) ≡ beside a (beside b nothing)
measured-two g h a b p q = measured-more g (forms (h ∷ [])) a (beside b nothing) p (measured-more h no_form b nothing q measured-nothing)

measured-pair : (plus : Bool) (g h : Form) (a b : Extent) → measured g ≡ a → measured h ≡ b → measured (junction plus (forms (g ∷ h ∷ []))) ≡ above_two a b
measured-pair plus g h a b p q = measured-junction plus (forms (g ∷ h ∷ [])) (beside a (beside b nothing)) (measured-two g h a b p q)

measured-cases : (when first unless second : Traced Form) (c rest : Extent) → measured when.value ≡ c → measured first.value ≡ rest → measured unless.value ≡ c → measured second.value ≡ rest
    → measured (cases when first unless second).value ≡ in_both c rest
unfolding next just
measured-cases when first unless second c rest p q r s =
    measured-pair false (conjunction (forms (when.value ∷ first.value ∷ []))) (conjunction (forms (unless.value ∷ second.value ∷ []))) (above_two c rest) (above_two c rest)
    (measured-pair true when.value first.value c rest p q) (measured-pair true unless.value second.value c rest r s)

measured-related : (r : Relation) (a b : Linear) → measured (related r a b).value ≡ leaf
unfolding next just
measured-related Eq a b = refl
measured-related Neq a b = refl
measured-related Geq a b = refl
measured-related Gt a b = refl
measured-related Leq a b = refl
measured-related Lt a b = refl

measured-predicate : (plus : Bool) (p : ℕ) (ls : List Linear) → measured (cond plus (holds p ls) (fails p ls)) ≡ leaf
measured-predicate true p ls = refl
measured-predicate false p ls = refl

mutual
  unfolding next just step

  pub extent_is : (f : Formula) (at : List ℕ) (n : ℕ) (plus : Bool) → measured (encoded at n plus f).value ≡ extent f
  extent_is (constant b) at n plus = measured-junction (beq b plus) no_form nothing measured-nothing
  extent_is (compares r s t) at n plus =
      extent_with_is s at n (λ m a. with_value at t m (λ k b. related (signed_relation plus r) a b)) (extent_with t leaf)
      (λ m a. extent_with_is t at m (λ k b. related (signed_relation plus r) a b) leaf (λ k b. measured-related (signed_relation plus r) a b))
  extent_is (applies p ts) at n plus = extents_with_is ts at n (λ m ls. just (cond plus (holds p ls) (fails p ls))) leaf (λ m ls. measured-predicate plus p ls)
  extent_is (negation f) at n plus = extent_is f at n (not plus)
  extent_is (every fs) at n plus = measured-junction plus (all_encoded at n plus fs).value (extents fs) (extents_are fs at n plus)
  extent_is (some fs) at n plus = measured-junction (not plus) (all_encoded at n plus fs).value (extents fs) (extents_are fs at n plus)
  extent_is (implies f g) at n plus = measured-pair (not plus) (encoded at n (not plus) f).value (encoded at n plus g).value (extent f) (extent g) (extent_is f at n (not plus)) (extent_is g at n plus)
  extent_is (iff f g) at n plus =
      measured-pair true (junction false (forms ((encoded at n (not plus) f).value ∷ (encoded at n true g).value ∷ [])))
      (junction false (forms ((encoded at n plus f).value ∷ (encoded at n false g).value ∷ []))) (above_two (extent f) (extent g)) (above_two (extent f) (extent g))
      (measured-pair false (encoded at n (not plus) f).value (encoded at n true g).value (extent f) (extent g) (extent_is f at n (not plus)) (extent_is g at n true))
      (measured-pair false (encoded at n plus f).value (encoded at n false g).value (extent f) (extent g) (extent_is f at n plus) (extent_is g at n false))
  extent_is (for_all s f) at n plus = measured-bound plus n s (encoded (at ++ n ∷ []) (suc n) plus f) (extent f) (extent_is f (at ++ n ∷ []) (suc n) plus)
  extent_is (for_some s f) at n plus = measured-bound (not plus) n s (encoded (at ++ n ∷ []) (suc n) plus f) (extent f) (extent_is f (at ++ n ∷ []) (suc n) plus)
  extent_is (part k f) at n plus = extent_is f at n plus

  extents_are : (fs : Formulas) (at : List ℕ) (n : ℕ) (plus : Bool) → all_measured (all_encoded at n plus fs).value ≡ extents fs
  extents_are no_formula at n plus = measured-nothing
  extents_are (and_formula f fs) at n plus = measured-more (encoded at n plus f).value (all_encoded at n plus fs).value (extent f) (extents fs) (extent_is f at n plus) (extents_are fs at n plus)

  extent_with_is : (t : Expression) (at : List ℕ) (n : ℕ) (rest : ℕ → Linear → Traced Form) (E : Extent) → ((m : ℕ) (a : Linear) → measured (rest m a).value ≡ E)
      → measured (with_value at t n rest).value ≡ extent_with t E
  extent_with_is (number v) at n rest E h = h n (linear.number v)
  extent_with_is (name x) at n rest E h = h n (named at x)
  extent_with_is (call f ts) at n rest E h =
      extents_with_is ts at n _ (above (above_two leaf E)) (λ m ls.
      measured-quantified true (disjunction (forms (differs f ls (linear.name m) ∷ (rest (suc m) (linear.name m)).value ∷ []))) (above_two leaf E)
      (measured-pair false (differs f ls (linear.name m)) (rest (suc m) (linear.name m)).value leaf E refl (h (suc m) (linear.name m))))
  extent_with_is (minus t) at n rest E h = extent_with_is t at n (λ m a. next (multiple (negsuc 0) a) (rest m)) E (λ m a. h m _)
  extent_with_is (total ts) at n rest E h = extent_sum_is ts at n rest E h
  extent_with_is (product s t) at n rest E h =
      extent_with_is s at n (λ m a. with_value at t m (λ k b. next (product_of (is_numeric s) a b) (rest k))) (extent_with t E)
      (λ m a. extent_with_is t at m (λ k b. next (product_of (is_numeric s) a b) (rest k)) E (λ k b. h k _))
  extent_with_is (choice f s t) at n rest E h =
      extent_with_is s at n _ (extent_with t (in_both (extent f) E)) (λ m a. extent_with_is t at m (λ k b. cases (encoded at k true f) (rest k a) (encoded at k false f) (rest k b)) (in_both (extent f) E)
      (λ k b. measured-cases (encoded at k true f) (rest k a) (encoded at k false f) (rest k b) (extent f) E (extent_is f at k true) (h k a) (extent_is f at k false) (h k b)))
  extent_with_is (absolute t) at n rest E h =
      extent_with_is t at n _ (in_both leaf E) (λ m a.
      measured-cases (related Geq a (linear.number (pos 0))) (rest m a) (related Lt a (linear.number (pos 0))) (next (multiple (negsuc 0) a) (rest m)) leaf E (measured-related Geq a (linear.number (pos 0))) (h m a) (measured-related Lt a (linear.number (pos 0))) (h m _))
  extent_with_is (lesser s t) at n rest E h =
      extent_with_is s at n _ (extent_with t (in_both leaf E)) (λ m a. extent_with_is t at m (λ k b. cases (related Leq a b) (rest k a) (related Gt a b) (rest k b)) (in_both leaf E)
      (λ k b. measured-cases (related Leq a b) (rest k a) (related Gt a b) (rest k b) leaf E (measured-related Leq a b) (h k a) (measured-related Gt a b) (h k b)))
  extent_with_is (greater s t) at n rest E h =
      extent_with_is s at n _ (extent_with t (in_both leaf E)) (λ m a. extent_with_is t at m (λ k b. cases (related Geq a b) (rest k a) (related Lt a b) (rest k b)) (in_both leaf E)
      (λ k b. measured-cases (related Geq a b) (rest k a) (related Lt a b) (rest k b) leaf E (measured-related Geq a b) (h k a) (measured-related Lt a b) (h k b)))

  extents_with_is : (ts : Expressions) (at : List ℕ) (n : ℕ) (rest : ℕ → List Linear → Traced Form) (E : Extent) → ((m : ℕ) (ls : List Linear) → measured (rest m ls).value ≡ E)
      → measured (with_values at ts n rest).value ≡ extents_with ts E
  extents_with_is no_expression at n rest E h = h n []
  extents_with_is (and_expression t ts) at n rest E h =
      extent_with_is t at n _ (extents_with ts E) (λ m a. extents_with_is ts at m (λ k ls. rest k (a ∷ ls)) E (λ k ls. h k (a ∷ ls)))

  extent_sum_is : (ts : Expressions) (at : List ℕ) (n : ℕ) (rest : ℕ → Linear → Traced Form) (E : Extent) → ((m : ℕ) (a : Linear) → measured (rest m a).value ≡ E)
      → measured (with_sum at ts n rest).value ≡ extents_with ts E
  extent_sum_is no_expression at n rest E h = h n (linear.number (pos 0))
  extent_sum_is (and_expression t ts) at n rest E h = extent_with_is t at n _ (extents_with ts E) (λ m a. extent_more_is ts at m a rest E h)

  extent_more_is : (ts : Expressions) (at : List ℕ) (n : ℕ) (s : Linear) (rest : ℕ → Linear → Traced Form) (E : Extent) → ((m : ℕ) (a : Linear) → measured (rest m a).value ≡ E)
      → measured (with_more at ts n s rest).value ≡ extents_with ts E
  extent_more_is no_expression at n s rest E h = h n s
  extent_more_is (and_expression (minus t) ts) at n s rest E h =
      extent_with_is t at n (λ m a. next (combining (pos 1) s (negsuc 0) a) (λ z. with_more at ts m z rest)) (extents_with ts E) (λ m a. extent_more_is ts at m _ rest E h)
  extent_more_is (and_expression t ts) at n s rest E h =
      extent_with_is t at n (λ m a. next (combining (pos 1) s (pos 1) a) (λ z. with_more at ts m z rest)) (extents_with ts E) (λ m a. extent_more_is ts at m _ rest E h)
