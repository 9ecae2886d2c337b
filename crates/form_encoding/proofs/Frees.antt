-- An encoding has an application exactly where the formula has one.
use Rattle.std.proofs.Common.{◌≡◌, ℕ, suc, pos, negsuc, Bool, true, false, ◌&&◌, not, cond, List, [], ◌∷◌, ◌++◌, refl, ◌∙◌}
use Rattle.std.specs.Bool.{beq}
use Rattle.std.proofs.lemmas.Bool.{and_parts, and_from}
use Rattle.linear_term.specs.Linear as linear
use Rattle.linear_term.specs.Linear.{Linear}
use Rattle.form_typed.specs.declared.typed.Relation.{Relation}
use Rattle.form_typed.specs.declared.typed.Relation.TheVariants.{Eq, Neq, Lt, Leq, Gt, Geq}
use Rattle.form_typed.specs.Formula.{Formula, Formulas, Expression, Expressions, constant, compares, applies, negation, every, some, implies, iff, for_all, for_some, part, no_formula, and_formula, number, name, call, minus, total, product, choice, absolute, lesser, greater, no_expression, and_expression}
use Rattle.base_budget.specs.Trace.{Traced, just, step, next, combining}
use Rattle.form_encoding.proofs.Types.{pure-bound}
use Rattle.pri_typing.specs.Everywhere.{Property, Everywhere, AllEverywhere, TermEverywhere, TermsEverywhere}
use Rattle.pri_typing.specs.Problems.{IsNoPredicate, IsNoCall}
use Rattle.pri_typing.specs.WellFormed.{is_numeric}
use Rattle.formula.specs.Form.{Form, Forms, is_pure, are_pure, holds, fails, no_form, forms}
use Rattle.form_encoding.specs.Encoding.{named, multiple, related, signed_relation, product_of, junction, cases, encoded, all_encoded, with_value, with_values, with_sum, with_more}

-- whether a formula has no application, found in the order of its encoding: b says it of what comes after a term
abbrev mutual
  is_free : Formula → Bool
  is_free (constant b) = true
  is_free (compares r s t) = free_with s (free_with t true)
  is_free (applies p ts) = frees_with ts false
  is_free (negation f) = is_free f
  is_free (every fs) = frees fs
  is_free (some fs) = frees fs
  is_free (implies f g) = is_free f && is_free g
  is_free (iff f g) = is_free f && is_free g
  is_free (for_all s f) = is_free f
  is_free (for_some s f) = is_free f
  is_free (part k f) = is_free f

  frees : Formulas → Bool
  frees no_formula = true
  frees (and_formula f fs) = is_free f && frees fs

  free_with : Expression → Bool → Bool
  free_with (number v) b = b
  free_with (name x) b = b
  free_with (call f ts) b = frees_with ts false
  free_with (minus t) b = free_with t b
  free_with (total ts) b = frees_with ts b
  free_with (product s t) b = free_with s (free_with t b)
  free_with (choice f s t) b = free_with s (free_with t (is_free f && b))
  free_with (absolute t) b = free_with t b
  free_with (lesser s t) b = free_with s (free_with t b)
  free_with (greater s t) b = free_with s (free_with t b)

  frees_with : Expressions → Bool → Bool
  frees_with no_expression b = b
  frees_with (and_expression t ts) b = free_with t (frees_with ts b)

impossible : false ≡ true → ⊥
impossible h = cc

one_pair : (a b : Bool) → (a && (b && true)) ≡ (a && b)
one_pair true true = refl
one_pair true false = refl
one_pair false b = refl

two_pairs : (a b : Bool) → ((a && (b && true)) && ((a && (b && true)) && true)) ≡ (a && b)
two_pairs true true = refl
two_pairs true false = refl
two_pairs false b = refl

pure-junction : (plus : Bool) (gs : Forms) → is_pure (junction plus gs) ≡ are_pure gs
pure-junction true gs = refl
pure-junction false gs = refl

pure-cases : (when first unless second : Traced Form) (c rest : Bool) → is_pure when.value ≡ c → is_pure first.value ≡ rest → is_pure unless.value ≡ c → is_pure second.value ≡ rest
    → is_pure (cases when first unless second).value ≡ (c && rest)
unfolding next just
pure-cases when first unless second c rest p q r s = (λ i. (p i && (q i && true)) && ((r i && (s i && true)) && true)) ∙ two_pairs c rest

pure-related : (r : Relation) (a b : Linear) → is_pure (related r a b).value ≡ true
unfolding next just
pure-related Eq a b = refl
pure-related Neq a b = refl
pure-related Geq a b = refl
pure-related Gt a b = refl
pure-related Leq a b = refl
pure-related Lt a b = refl

pure-predicate : (plus : Bool) (p : ℕ) (ls : List Linear) → is_pure (cond plus (holds p ls) (fails p ls)) ≡ false
pure-predicate true p ls = refl
pure-predicate false p ls = refl

mutual
  unfolding next just step

  pub free_is : (f : Formula) (at : List ℕ) (n : ℕ) (plus : Bool) → is_pure (encoded at n plus f).value ≡ is_free f
  free_is (constant b) at n plus = pure-junction (beq b plus) no_form
  free_is (compares r s t) at n plus =
      free_with_is s at n (λ m a. with_value at t m (λ k b. related (signed_relation plus r) a b)) (free_with t true)
      (λ m a. free_with_is t at m (λ k b. related (signed_relation plus r) a b) true (λ k b. pure-related (signed_relation plus r) a b))
  free_is (applies p ts) at n plus = frees_with_is ts at n (λ m ls. just (cond plus (holds p ls) (fails p ls))) false (λ m ls. pure-predicate plus p ls)
  free_is (negation f) at n plus = free_is f at n (not plus)
  free_is (every fs) at n plus = pure-junction plus (all_encoded at n plus fs).value ∙ frees_are fs at n plus
  free_is (some fs) at n plus = pure-junction (not plus) (all_encoded at n plus fs).value ∙ frees_are fs at n plus
  free_is (implies f g) at n plus =
      pure-junction (not plus) (forms ((encoded at n (not plus) f).value ∷ (encoded at n plus g).value ∷ []))
      ∙ (λ i. free_is f at n (not plus) i && (free_is g at n plus i && true)) ∙ one_pair (is_free f) (is_free g)
  free_is (iff f g) at n plus =
      (λ i. (free_is f at n (not plus) i && (free_is g at n true i && true)) && ((free_is f at n plus i && (free_is g at n false i && true)) && true))
      ∙ two_pairs (is_free f) (is_free g)
  free_is (for_all s f) at n plus = pure-bound plus n s (encoded (at ++ n ∷ []) (suc n) plus f) ∙ free_is f (at ++ n ∷ []) (suc n) plus
  free_is (for_some s f) at n plus = pure-bound (not plus) n s (encoded (at ++ n ∷ []) (suc n) plus f) ∙ free_is f (at ++ n ∷ []) (suc n) plus
  free_is (part k f) at n plus = free_is f at n plus

  frees_are : (fs : Formulas) (at : List ℕ) (n : ℕ) (plus : Bool) → are_pure (all_encoded at n plus fs).value ≡ frees fs
  frees_are no_formula at n plus = refl
  frees_are (and_formula f fs) at n plus = λ i. free_is f at n plus i && frees_are fs at n plus i

  free_with_is : (t : Expression) (at : List ℕ) (n : ℕ) (rest : ℕ → Linear → Traced Form) (E : Bool) → ((m : ℕ) (a : Linear) → is_pure (rest m a).value ≡ E)
      → is_pure (with_value at t n rest).value ≡ free_with t E
  free_with_is (number v) at n rest E h = h n (linear.number v)
  free_with_is (name x) at n rest E h = h n (named at x)
  free_with_is (call f ts) at n rest E h = frees_with_is ts at n _ false (λ m ls. refl)
  free_with_is (minus t) at n rest E h = free_with_is t at n (λ m a. next (multiple (negsuc 0) a) (rest m)) E (λ m a. h m _)
  free_with_is (total ts) at n rest E h = free_sum_is ts at n rest E h
  free_with_is (product s t) at n rest E h =
      free_with_is s at n (λ m a. with_value at t m (λ k b. next (product_of (is_numeric s) a b) (rest k))) (free_with t E)
      (λ m a. free_with_is t at m (λ k b. next (product_of (is_numeric s) a b) (rest k)) E (λ k b. h k _))
  free_with_is (choice f s t) at n rest E h =
      free_with_is s at n _ (free_with t (is_free f && E)) (λ m a. free_with_is t at m (λ k b. cases (encoded at k true f) (rest k a) (encoded at k false f) (rest k b)) (is_free f && E)
      (λ k b. pure-cases (encoded at k true f) (rest k a) (encoded at k false f) (rest k b) (is_free f) E (free_is f at k true) (h k a) (free_is f at k false) (h k b)))
  free_with_is (absolute t) at n rest E h =
      free_with_is t at n _ E (λ m a.
      pure-cases (related Geq a (linear.number (pos 0))) (rest m a) (related Lt a (linear.number (pos 0))) (next (multiple (negsuc 0) a) (rest m)) true E (pure-related Geq a (linear.number (pos 0))) (h m a) (pure-related Lt a (linear.number (pos 0))) (h m _))
  free_with_is (lesser s t) at n rest E h =
      free_with_is s at n _ (free_with t E) (λ m a. free_with_is t at m (λ k b. cases (related Leq a b) (rest k a) (related Gt a b) (rest k b)) E
      (λ k b. pure-cases (related Leq a b) (rest k a) (related Gt a b) (rest k b) true E (pure-related Leq a b) (h k a) (pure-related Gt a b) (h k b)))
  free_with_is (greater s t) at n rest E h =
      free_with_is s at n _ (free_with t E) (λ m a. free_with_is t at m (λ k b. cases (related Geq a b) (rest k a) (related Lt a b) (rest k b)) E
      (λ k b. pure-cases (related Geq a b) (rest k a) (related Lt a b) (rest k b) true E (pure-related Geq a b) (h k a) (pure-related Lt a b) (h k b)))

  frees_with_is : (ts : Expressions) (at : List ℕ) (n : ℕ) (rest : ℕ → List Linear → Traced Form) (E : Bool) → ((m : ℕ) (ls : List Linear) → is_pure (rest m ls).value ≡ E)
      → is_pure (with_values at ts n rest).value ≡ frees_with ts E
  frees_with_is no_expression at n rest E h = h n []
  frees_with_is (and_expression t ts) at n rest E h =
      free_with_is t at n _ (frees_with ts E) (λ m a. frees_with_is ts at m (λ k ls. rest k (a ∷ ls)) E (λ k ls. h k (a ∷ ls)))

  free_sum_is : (ts : Expressions) (at : List ℕ) (n : ℕ) (rest : ℕ → Linear → Traced Form) (E : Bool) → ((m : ℕ) (a : Linear) → is_pure (rest m a).value ≡ E)
      → is_pure (with_sum at ts n rest).value ≡ frees_with ts E
  free_sum_is no_expression at n rest E h = h n (linear.number (pos 0))
  free_sum_is (and_expression t ts) at n rest E h = free_with_is t at n _ (frees_with ts E) (λ m a. free_more_is ts at m a rest E h)

  free_more_is : (ts : Expressions) (at : List ℕ) (n : ℕ) (s : Linear) (rest : ℕ → Linear → Traced Form) (E : Bool) → ((m : ℕ) (a : Linear) → is_pure (rest m a).value ≡ E)
      → is_pure (with_more at ts n s rest).value ≡ frees_with ts E
  free_more_is no_expression at n s rest E h = h n s
  free_more_is (and_expression (minus t) ts) at n s rest E h =
      free_with_is t at n (λ m a. next (combining (pos 1) s (negsuc 0) a) (λ z. with_more at ts m z rest)) (frees_with ts E) (λ m a. free_more_is ts at m _ rest E h)
  free_more_is (and_expression t ts) at n s rest E h =
      free_with_is t at n (λ m a. next (combining (pos 1) s (pos 1) a) (λ z. with_more at ts m z rest)) (frees_with ts E) (λ m a. free_more_is ts at m _ rest E h)

-- A formula is free of applications where it has none at any place.

abbrev none : Property
none = record { of_formula = IsNoPredicate; of_term = IsNoCall }

mutual
  pub free_everywhere : (n : ℕ) (f : Formula) → is_free f ≡ true → Everywhere none n f
  free_everywhere n (constant b) h = tt
  free_everywhere n (compares r s t) h = let p = with_everywhere n s (free_with t true) h in (tt, p.0, (with_everywhere n t true p.1).0)
  free_everywhere n (applies p ts) h = absurd (impossible (withs_everywhere n ts false h).1)
  free_everywhere n (negation f) h = (tt, free_everywhere n f h)
  free_everywhere n (every fs) h = (tt, all_free_everywhere n fs h)
  free_everywhere n (some fs) h = (tt, all_free_everywhere n fs h)
  free_everywhere n (implies f g) h = let p = and_parts (is_free f) (is_free g) h in (tt, free_everywhere n f p.0, free_everywhere n g p.1)
  free_everywhere n (iff f g) h = let p = and_parts (is_free f) (is_free g) h in (tt, free_everywhere n f p.0, free_everywhere n g p.1)
  free_everywhere n (for_all s f) h = (tt, free_everywhere (suc n) f h)
  free_everywhere n (for_some s f) h = (tt, free_everywhere (suc n) f h)
  free_everywhere n (part k f) h = (tt, free_everywhere n f h)

  all_free_everywhere : (n : ℕ) (fs : Formulas) → frees fs ≡ true → AllEverywhere none n fs
  all_free_everywhere n no_formula h = tt
  all_free_everywhere n (and_formula f fs) h = let p = and_parts (is_free f) (frees fs) h in (free_everywhere n f p.0, all_free_everywhere n fs p.1)

  with_everywhere : (n : ℕ) (t : Expression) (b : Bool) → free_with t b ≡ true → TermEverywhere none n t × (b ≡ true)
  with_everywhere n (number v) b h = (tt, h)
  with_everywhere n (name x) b h = (tt, h)
  with_everywhere n (call f ts) b h = absurd (impossible (withs_everywhere n ts false h).1)
  with_everywhere n (minus t) b h = let p = with_everywhere n t b h in ((tt, p.0), p.1)
  with_everywhere n (total ts) b h = let p = withs_everywhere n ts b h in ((tt, p.0), p.1)
  with_everywhere n (product s t) b h = let p = with_everywhere n s (free_with t b) h in let q = with_everywhere n t b p.1 in ((tt, p.0, q.0), q.1)
  with_everywhere n (choice f s t) b h =
      let p = with_everywhere n s (free_with t (is_free f && b)) h in
      let q = with_everywhere n t (is_free f && b) p.1 in
      let r = and_parts (is_free f) b q.1 in ((tt, free_everywhere n f r.0, p.0, q.0), r.1)
  with_everywhere n (absolute t) b h = let p = with_everywhere n t b h in ((tt, p.0), p.1)
  with_everywhere n (lesser s t) b h = let p = with_everywhere n s (free_with t b) h in let q = with_everywhere n t b p.1 in ((tt, p.0, q.0), q.1)
  with_everywhere n (greater s t) b h = let p = with_everywhere n s (free_with t b) h in let q = with_everywhere n t b p.1 in ((tt, p.0, q.0), q.1)

  withs_everywhere : (n : ℕ) (ts : Expressions) (b : Bool) → frees_with ts b ≡ true → TermsEverywhere none n ts × (b ≡ true)
  withs_everywhere n no_expression b h = (tt, h)
  withs_everywhere n (and_expression t ts) b h = let p = with_everywhere n t (frees_with ts b) h in let q = withs_everywhere n ts b p.1 in ((p.0, q.0), q.1)

mutual
  pub everywhere_free : (n : ℕ) (f : Formula) → Everywhere none n f → is_free f ≡ true
  everywhere_free n (constant b) h = refl
  everywhere_free n (compares r s t) h = everywhere_with n s (free_with t true) h.1 (everywhere_with n t true h.2 refl)
  everywhere_free n (applies p ts) h = absurd h.0
  everywhere_free n (negation f) h = everywhere_free n f h.1
  everywhere_free n (every fs) h = all_everywhere_free n fs h.1
  everywhere_free n (some fs) h = all_everywhere_free n fs h.1
  everywhere_free n (implies f g) h = and_from (is_free f) (is_free g) (everywhere_free n f h.1) (everywhere_free n g h.2)
  everywhere_free n (iff f g) h = and_from (is_free f) (is_free g) (everywhere_free n f h.1) (everywhere_free n g h.2)
  everywhere_free n (for_all s f) h = everywhere_free (suc n) f h.1
  everywhere_free n (for_some s f) h = everywhere_free (suc n) f h.1
  everywhere_free n (part k f) h = everywhere_free n f h.1

  all_everywhere_free : (n : ℕ) (fs : Formulas) → AllEverywhere none n fs → frees fs ≡ true
  all_everywhere_free n no_formula h = refl
  all_everywhere_free n (and_formula f fs) h = and_from (is_free f) (frees fs) (everywhere_free n f h.0) (all_everywhere_free n fs h.1)

  everywhere_with : (n : ℕ) (t : Expression) (b : Bool) → TermEverywhere none n t → b ≡ true → free_with t b ≡ true
  everywhere_with n (number v) b h k = k
  everywhere_with n (name x) b h k = k
  everywhere_with n (call f ts) b h k = absurd h.0
  everywhere_with n (minus t) b h k = everywhere_with n t b h.1 k
  everywhere_with n (total ts) b h k = everywhere_withs n ts b h.1 k
  everywhere_with n (product s t) b h k = everywhere_with n s (free_with t b) h.1 (everywhere_with n t b h.2 k)
  everywhere_with n (choice f s t) b h k =
      everywhere_with n s (free_with t (is_free f && b)) h.2 (everywhere_with n t (is_free f && b) h.3 (and_from (is_free f) b (everywhere_free n f h.1) k))
  everywhere_with n (absolute t) b h k = everywhere_with n t b h.1 k
  everywhere_with n (lesser s t) b h k = everywhere_with n s (free_with t b) h.1 (everywhere_with n t b h.2 k)
  everywhere_with n (greater s t) b h k = everywhere_with n s (free_with t b) h.1 (everywhere_with n t b h.2 k)

  everywhere_withs : (n : ℕ) (ts : Expressions) (b : Bool) → TermsEverywhere none n ts → b ≡ true → frees_with ts b ≡ true
  everywhere_withs n no_expression b h k = k
  everywhere_withs n (and_expression t ts) b h k = everywhere_with n t (frees_with ts b) h.0 (everywhere_withs n ts b h.1 k)
