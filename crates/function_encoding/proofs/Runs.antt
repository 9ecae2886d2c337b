-- The actions of a term finish it for the rest.
use Rattle.std.proofs.Common.{◌≡◌, ℕ, suc, pos, negsuc, Bool, true, false, cond, List, [], ◌∷◌, ◌++◌, length, reverse, take, drop, refl, sym, ap, ◌∙◌, append_assoc}
use Rattle.std.proofs.lemmas.List.{reverse-append, reverse-reverse, length-reverse}
use Rattle.std.proofs.Math.Seq.{take-append_seam, drop-append_seam}
use Rattle.linear_term.specs.Linear as linear
use Rattle.linear_term.specs.Linear.{Linear}
use Rattle.form_typed.specs.declared.typed.Relation.{Relation}
use Rattle.form_typed.specs.declared.typed.Relation.TheVariants.{Leq, Geq, Lt, Gt}
use Rattle.form_typed.specs.Formula.{Expression, Expressions, compares, applies, number, name, call, minus, total, product, choice, absolute, lesser, greater, no_expression, and_expression}
use Rattle.base_budget.specs.Trace.{Traced, just, next, combining}
use Rattle.base_budget.proofs.Tracing.{next-assoc, next-just}
use Rattle.pri_typing.specs.WellFormed.{is_numeric, size}
use Rattle.formula.specs.Form.{Form, holds, fails}
use Rattle.form_encoding.specs.Encoding.{named, multiple, product_of, related, signed_relation, cases, encoded, with_value, with_values, with_sum, with_more}
use Rattle.function_encoding.specs.Actions.{Action, negate, multiply, add, apply, choose, take_absolute, take_extreme, relate, predicate, behind, ran, compiled, compiled_all, compiled_sum, compiled_more}

-- a term that is put on the stack, for the rest
pushed : (m : Traced Linear) (vs : List Linear) (g : List Linear → Traced Form) → next (next m (λ a. just (a ∷ vs))) g ≡ next m (λ a. g (a ∷ vs))
pushed m vs g = next-assoc m (λ a. just (a ∷ vs)) g ∙ (λ i. next m (λ a. next-just (a ∷ vs) g i))

-- a predicate with its sign
abbrev said : Bool → ℕ → List Linear → Form
said plus p ls = cond plus (holds p ls) (fails p ls)

-- as many as the arguments are
take_these : (xs ys : List Linear) (k : ℕ) → length xs ≡ k → take k (xs ++ ys) ≡ xs
take_these xs ys k e = ap (λ j. take j (xs ++ ys)) (sym e) ∙ take-append_seam xs ys

drop_these : (xs ys : List Linear) (k : ℕ) → length xs ≡ k → drop k (xs ++ ys) ≡ ys
drop_these xs ys k e = ap (λ j. drop j (xs ++ ys)) (sym e) ∙ drop-append_seam xs ys

turned_twice : (xs : List Linear) → reverse (reverse xs) ≡ xs
turned_twice xs = reverse-reverse xs

these : (ls vs : List Linear) (k : ℕ) → length ls ≡ k → reverse (take k (reverse ls ++ vs)) ≡ ls
these ls vs k e = ap reverse (take_these (reverse ls) vs k (length-reverse ls ∙ e)) ∙ turned_twice ls

below : (ls vs : List Linear) (k : ℕ) → length ls ≡ k → drop k (reverse ls ++ vs) ≡ vs
below ls vs k e = drop_these (reverse ls) vs k (length-reverse ls ∙ e)

one_more : (a : Linear) (ls vs : List Linear) → reverse ls ++ a ∷ vs ≡ reverse (a ∷ ls) ++ vs
one_more a ls vs = sym (append_assoc (reverse ls) (a ∷ []) vs) ∙ ap (λ xs. xs ++ vs) (sym (reverse-append (a ∷ []) ls))

-- the rest is given as many terms as there are
agree : (ts : Expressions) (at : List ℕ) (n : ℕ) (f g : ℕ → List Linear → Traced Form) → ((m : ℕ) (ls : List Linear) → length ls ≡ size ts → f m ls ≡ g m ls) → with_values at ts n f ≡ with_values at ts n g
agree no_expression at n f g h = h n [] refl
agree (and_expression t ts) at n f g h =
    λ i. with_value at t n (λ m a. agree ts at m (λ k ls. f k (a ∷ ls)) (λ k ls. g k (a ∷ ls)) (λ k ls e. h k (a ∷ ls) (ap suc e)) i)

mutual
  pub compiled_is : (t : Expression) (at : List ℕ) (c : List Action) (n : ℕ) (vs : List Linear) → ran at (compiled t c) n vs ≡ with_value at t n (λ m a. ran at c m (a ∷ vs))
  compiled_is (number v) at c n vs = next-just (linear.number v ∷ vs) (ran at c n)
  compiled_is (name x) at c n vs = next-just (named at x ∷ vs) (ran at c n)
  compiled_is (call f ts) at c n vs =
      compiled_all_is ts at (apply f (size ts) ∷ c) n vs
      ∙ agree ts at n (λ m ls. ran at (apply f (size ts) ∷ c) m (reverse ls ++ vs)) (λ m ls. next (ran at c (suc m) (linear.name m ∷ vs)) (λ g. just (behind f ls m g)))
      (λ m ls e. λ i. next (ran at c (suc m) (linear.name m ∷ below ls vs (size ts) e i)) (λ g. just (behind f (these ls vs (size ts) e i) m g)))
  compiled_is (minus t) at c n vs = compiled_is t at (negate ∷ c) n vs ∙ (λ i. with_value at t n (λ m a. pushed (multiple (negsuc 0) a) vs (ran at c m) i))
  compiled_is (total ts) at c n vs = compiled_sum_is ts at c n vs
  compiled_is (product s t) at c n vs =
      compiled_is s at (compiled t (multiply (is_numeric s) ∷ c)) n vs ∙ (λ i. with_value at s n (λ m a. compiled_is t at (multiply (is_numeric s) ∷ c) m (a ∷ vs) i))
      ∙ (λ i. with_value at s n (λ m a. with_value at t m (λ k b. pushed (product_of (is_numeric s) a b) vs (ran at c k) i)))
  compiled_is (choice f s t) at c n vs =
      compiled_is s at (compiled t (choose f ∷ c)) n vs ∙ (λ i. with_value at s n (λ m a. compiled_is t at (choose f ∷ c) m (a ∷ vs) i))
      ∙ (λ i. with_value at s n (λ m a. with_value at t m (λ k b. cases (encoded at k true f) (ran at c k (a ∷ vs)) (encoded at k false f) (next-just (b ∷ vs) (ran at c k) i))))
  compiled_is (absolute t) at c n vs =
      compiled_is t at (take_absolute ∷ c) n vs
      ∙ (λ i. with_value at t n (λ m a. cases (related Geq a (linear.number (pos 0))) (ran at c m (a ∷ vs)) (related Lt a (linear.number (pos 0))) (pushed (multiple (negsuc 0) a) vs (ran at c m) i)))
  compiled_is (lesser s t) at c n vs =
      compiled_is s at (compiled t (take_extreme Leq ∷ c)) n vs ∙ (λ i. with_value at s n (λ m a. compiled_is t at (take_extreme Leq ∷ c) m (a ∷ vs) i))
      ∙ (λ i. with_value at s n (λ m a. with_value at t m (λ k b. cases (related Leq a b) (ran at c k (a ∷ vs)) (related Gt a b) (next-just (b ∷ vs) (ran at c k) i))))
  compiled_is (greater s t) at c n vs =
      compiled_is s at (compiled t (take_extreme Geq ∷ c)) n vs ∙ (λ i. with_value at s n (λ m a. compiled_is t at (take_extreme Geq ∷ c) m (a ∷ vs) i))
      ∙ (λ i. with_value at s n (λ m a. with_value at t m (λ k b. cases (related Geq a b) (ran at c k (a ∷ vs)) (related Lt a b) (next-just (b ∷ vs) (ran at c k) i))))

  compiled_all_is : (ts : Expressions) (at : List ℕ) (c : List Action) (n : ℕ) (vs : List Linear) → ran at (compiled_all ts c) n vs ≡ with_values at ts n (λ m ls. ran at c m (reverse ls ++ vs))
  compiled_all_is no_expression at c n vs = refl
  compiled_all_is (and_expression t ts) at c n vs =
      compiled_is t at (compiled_all ts c) n vs ∙ (λ i. with_value at t n (λ m a. compiled_all_is ts at c m (a ∷ vs) i))
      ∙ (λ i. with_value at t n (λ m a. with_values at ts m (λ k ls. ran at c k (one_more a ls vs i))))

  compiled_sum_is : (ts : Expressions) (at : List ℕ) (c : List Action) (n : ℕ) (vs : List Linear) → ran at (compiled_sum ts c) n vs ≡ with_sum at ts n (λ m a. ran at c m (a ∷ vs))
  compiled_sum_is no_expression at c n vs = next-just (linear.number (pos 0) ∷ vs) (ran at c n)
  compiled_sum_is (and_expression t ts) at c n vs = compiled_is t at (compiled_more ts c) n vs ∙ (λ i. with_value at t n (λ m a. compiled_more_is ts at c m a vs i))

  compiled_more_is : (ts : Expressions) (at : List ℕ) (c : List Action) (n : ℕ) (s : Linear) (vs : List Linear)
      → ran at (compiled_more ts c) n (s ∷ vs) ≡ with_more at ts n s (λ m a. ran at c m (a ∷ vs))
  compiled_more_is no_expression at c n s vs = refl
  compiled_more_is (and_expression (minus t) ts) at c n s vs =
      compiled_is t at (add true ∷ compiled_more ts c) n (s ∷ vs)
      ∙ (λ i. with_value at t n (λ m a. pushed (combining (pos 1) s (negsuc 0) a) vs (ran at (compiled_more ts c) m) i))
      ∙ (λ i. with_value at t n (λ m a. next (combining (pos 1) s (negsuc 0) a) (λ z. compiled_more_is ts at c m z vs i)))
  compiled_more_is (and_expression t ts) at c n s vs =
      compiled_is t at (add false ∷ compiled_more ts c) n (s ∷ vs)
      ∙ (λ i. with_value at t n (λ m a. pushed (combining (pos 1) s (pos 1) a) vs (ran at (compiled_more ts c) m) i))
      ∙ (λ i. with_value at t n (λ m a. next (combining (pos 1) s (pos 1) a) (λ z. compiled_more_is ts at c m z vs i)))

-- an atom of a relation
pub relation_is : (r : Relation) (s t : Expression) (at : List ℕ) (n : ℕ) (plus : Bool)
    → ran at (compiled s (compiled t (relate (signed_relation plus r) ∷ []))) n [] ≡ encoded at n plus (compares r s t)
relation_is r s t at n plus =
    compiled_is s at (compiled t (relate (signed_relation plus r) ∷ [])) n [] ∙ (λ i. with_value at s n (λ m a. compiled_is t at (relate (signed_relation plus r) ∷ []) m (a ∷ []) i))

-- an atom of a predicate
pub predicate_is : (p : ℕ) (ts : Expressions) (at : List ℕ) (n : ℕ) (plus : Bool)
    → ran at (compiled_all ts (predicate plus p (size ts) ∷ [])) n [] ≡ encoded at n plus (applies p ts)
predicate_is p ts at n plus =
    compiled_all_is ts at (predicate plus p (size ts) ∷ []) n []
    ∙ agree ts at n (λ m ls. ran at (predicate plus p (size ts) ∷ []) m (reverse ls ++ [])) (λ m ls. just (said plus p ls)) (λ m ls e. λ i. just (said plus p (these ls [] (size ts) e i)))
