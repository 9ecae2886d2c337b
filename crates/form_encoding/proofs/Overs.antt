-- Which names an encoding speaks of.
use Rattle.std.proofs.Common.{ℕ, suc, ◌<◌, ◌≤◌, pos, negsuc, Bool, true, false, not, cond, List, [], ◌∷◌, ◌++◌, All, arith}
use Rattle.std.specs.Bool.{beq}
use Rattle.std.proofs.lemmas.List.Elements.{All-nil, All-cons, All-head, All-tail}
use Rattle.linear_term.specs.Linear as linear
use Rattle.linear_term.specs.Linear.{Linear, IsOver}
use Rattle.linear_term.proofs.Names.{combination-over}
use Rattle.form_typed.specs.declared.typed.Relation.{Relation}
use Rattle.form_typed.specs.declared.typed.Relation.TheVariants.{Eq, Neq, Lt, Leq, Gt, Geq}
use Rattle.form_typed.specs.Formula.{Formula, Formulas, Expression, Expressions, constant, compares, applies, negation, every, some, implies, iff, for_all, for_some, part, no_formula, and_formula, number, name, call, minus, total, product, choice, absolute, lesser, greater, no_expression, and_expression}
use Rattle.base_budget.specs.Trace.{Traced, just, step, next, combining}
use Rattle.formula.specs.Form.{Form, Forms, IsFormOver, AreFormsOver, holds, fails, differs, universal, disjunction, no_form, forms}
use Rattle.form_encoding.proofs.Types.{bound_over}
use Rattle.pri_typing.specs.WellFormed.{is_numeric}
use Rattle.form_encoding.specs.Encoding.{named, multiple, related, signed_relation, product_of, junction, cases, encoded, all_encoded, with_value, with_values, with_sum, with_more}
use Rattle.formula.proofs.Extending.{over_number, over_name, over_more}
use Rattle.form_encoding.proofs.Extending.{below_more, below-append, named_over}
use Rattle.form_encoding.proofs.Arithmetic.{product_over}
use Rattle.form_encoding.proofs.Keeping.{multiple_over}

overs_more : (n m : ℕ) (ls : List Linear) → n ≤ m → All (IsOver n) ls → All (IsOver m) ls
overs_more n m [] le h = All-nil (IsOver m)
overs_more n m (a ∷ ls) le h = All-cons (IsOver m) a ls (over_more n m a le (All-head (IsOver n) a ls h)) (overs_more n m ls le (All-tail (IsOver n) a ls h))

related_over : (r : Relation) (n : ℕ) (a b : Linear) → IsOver n a → IsOver n b → IsFormOver n (related r a b).value
unfolding next just step
related_over Eq n a b ha hb = combination-over n (pos 1) (negsuc 0) a b ha hb
related_over Neq n a b ha hb = combination-over n (pos 1) (negsuc 0) a b ha hb
related_over Geq n a b ha hb = combination-over n (pos 1) (negsuc 0) a b ha hb
related_over Gt n a b ha hb = combination-over n (pos 1) (pos 1) _ (linear.number (negsuc 0)) (combination-over n (pos 1) (negsuc 0) a b ha hb) (over_number n (negsuc 0))
related_over Leq n a b ha hb = combination-over n (pos 1) (negsuc 0) b a hb ha
related_over Lt n a b ha hb = combination-over n (pos 1) (pos 1) _ (linear.number (negsuc 0)) (combination-over n (pos 1) (negsuc 0) b a hb ha) (over_number n (negsuc 0))

junction_over : (plus : Bool) (n : ℕ) (gs : Forms) → AreFormsOver n gs → IsFormOver n (junction plus gs)
junction_over true n gs h = h
junction_over false n gs h = h

predicate_over : (plus : Bool) (n p : ℕ) (ls : List Linear) → All (IsOver n) ls → IsFormOver n (cond plus (holds p ls) (fails p ls))
predicate_over true n p ls h = h
predicate_over false n p ls h = h

abbrev RestOver : ℕ → (ℕ → Linear → Traced Form) → Type 0
RestOver n rest = (m : ℕ) (a : Linear) → n ≤ m → IsOver m a → IsFormOver m (rest m a).value

abbrev RestsOver : ℕ → (ℕ → List Linear → Traced Form) → Type 0
RestsOver n rest = (m : ℕ) (ls : List Linear) → n ≤ m → All (IsOver m) ls → IsFormOver m (rest m ls).value

mutual
  unfolding next just step

  -- an encoding speaks of names below n alone
  pub encoded_over : (f : Formula) (at : List ℕ) (n : ℕ) (plus : Bool) → All (λ x. x < n) at → IsFormOver n (encoded at n plus f).value
  encoded_over (constant b) at n plus h = junction_over (beq b plus) n no_form tt
  encoded_over (compares r s t) at n plus h =
      with_over s at n (λ m a. with_value at t m (λ k b. related (signed_relation plus r) a b)) h
      (λ m a le oa. with_over t at m (λ k b. related (signed_relation plus r) a b) (below_more n m at le h) (λ k b lk ob. related_over (signed_relation plus r) k a b (over_more m k a lk oa) ob))
  encoded_over (applies p ts) at n plus h = withs_over ts at n (λ m ls. just (cond plus (holds p ls) (fails p ls))) h (λ m ls le os. predicate_over plus m p ls os)
  encoded_over (negation f) at n plus h = encoded_over f at n (not plus) h
  encoded_over (every fs) at n plus h = junction_over plus n (all_encoded at n plus fs).value (all_encoded_over fs at n plus h)
  encoded_over (some fs) at n plus h = junction_over (not plus) n (all_encoded at n plus fs).value (all_encoded_over fs at n plus h)
  encoded_over (implies f g) at n plus h = junction_over (not plus) n _ (encoded_over f at n (not plus) h, (encoded_over g at n plus h, tt))
  encoded_over (iff f g) at n plus h =
      ((encoded_over f at n (not plus) h, (encoded_over g at n true h, tt)), ((encoded_over f at n plus h, (encoded_over g at n false h, tt)), tt))
  encoded_over (for_all s f) at n plus h =
      bound_over n plus s (encoded (at ++ n ∷ []) (suc n) plus f) (encoded_over f (at ++ n ∷ []) (suc n) plus (below-append (suc n) at n (below_more n (suc n) at (omega arith) h) (omega arith)))
  encoded_over (for_some s f) at n plus h =
      bound_over n (not plus) s (encoded (at ++ n ∷ []) (suc n) plus f) (encoded_over f (at ++ n ∷ []) (suc n) plus (below-append (suc n) at n (below_more n (suc n) at (omega arith) h) (omega arith)))
  encoded_over (part k f) at n plus h = encoded_over f at n plus h

  all_encoded_over : (fs : Formulas) (at : List ℕ) (n : ℕ) (plus : Bool) → All (λ x. x < n) at → AreFormsOver n (all_encoded at n plus fs).value
  all_encoded_over no_formula at n plus h = tt
  all_encoded_over (and_formula f fs) at n plus h = (encoded_over f at n plus h, all_encoded_over fs at n plus h)

  with_over : (t : Expression) (at : List ℕ) (n : ℕ) (rest : ℕ → Linear → Traced Form) → All (λ x. x < n) at → RestOver n rest → IsFormOver n (with_value at t n rest).value
  with_over (number v) at n rest h r = r n (linear.number v) (omega arith) (over_number n v)
  with_over (name x) at n rest h r = r n (named at x) (omega arith) (named_over at n x h)
  with_over (call f ts) at n rest h r =
      withs_over ts at n (λ m ls. next (rest (suc m) (linear.name m)) (λ g. just (universal (disjunction (forms (differs f ls (linear.name m) ∷ g ∷ [])))))) h
      (λ m ls le os. ((overs_more m (suc m) ls (omega arith) os, over_name (suc m) m (omega arith)), (r (suc m) (linear.name m) (omega arith) (over_name (suc m) m (omega arith)), tt)))
  with_over (minus t) at n rest h r = with_over t at n (λ m a. next (multiple (negsuc 0) a) (rest m)) h (λ m a le oa. r m _ le (multiple_over m (negsuc 0) a oa))
  with_over (total ts) at n rest h r = sum_over ts at n rest h r
  with_over (product s t) at n rest h r =
      with_over s at n (λ m a. with_value at t m (λ k b. next (product_of (is_numeric s) a b) (rest k))) h
      (λ m a le oa. with_over t at m (λ k b. next (product_of (is_numeric s) a b) (rest k)) (below_more n m at le h)
      (λ k b lk ob. r k _ (omega arith) (product_over (is_numeric s) k a b (over_more m k a lk oa) ob)))
  with_over (choice f s t) at n rest h r =
      with_over s at n (λ m a. with_value at t m (λ k b. cases (encoded at k true f) (rest k a) (encoded at k false f) (rest k b))) h
      (λ m a le oa. with_over t at m (λ k b. cases (encoded at k true f) (rest k a) (encoded at k false f) (rest k b)) (below_more n m at le h)
      (λ k b lk ob.
      let g : All (λ x. x < k) at = below_more n k at (omega arith) h in
      ((encoded_over f at k true g, (r k a (omega arith) (over_more m k a lk oa), tt)), ((encoded_over f at k false g, (r k b (omega arith) ob, tt)), tt))))
  with_over (absolute t) at n rest h r =
      with_over t at n (λ m a. cases (related Geq a (linear.number (pos 0))) (rest m a) (related Lt a (linear.number (pos 0))) (next (multiple (negsuc 0) a) (rest m))) h
      (λ m a le oa. (
        (related_over Geq m a (linear.number (pos 0)) oa (over_number m (pos 0)), (r m a le oa, tt)),
        ((related_over Lt m a (linear.number (pos 0)) oa (over_number m (pos 0)), (r m _ le (multiple_over m (negsuc 0) a oa), tt)), tt),
      ))
  with_over (lesser s t) at n rest h r =
      with_over s at n (λ m a. with_value at t m (λ k b. cases (related Leq a b) (rest k a) (related Gt a b) (rest k b))) h
      (λ m a le oa. with_over t at m (λ k b. cases (related Leq a b) (rest k a) (related Gt a b) (rest k b)) (below_more n m at le h)
      (λ k b lk ob. let oa' = over_more m k a lk oa in
      ((related_over Leq k a b oa' ob, (r k a (omega arith) oa', tt)), ((related_over Gt k a b oa' ob, (r k b (omega arith) ob, tt)), tt))))
  with_over (greater s t) at n rest h r =
      with_over s at n (λ m a. with_value at t m (λ k b. cases (related Geq a b) (rest k a) (related Lt a b) (rest k b))) h
      (λ m a le oa. with_over t at m (λ k b. cases (related Geq a b) (rest k a) (related Lt a b) (rest k b)) (below_more n m at le h)
      (λ k b lk ob. let oa' = over_more m k a lk oa in
      ((related_over Geq k a b oa' ob, (r k a (omega arith) oa', tt)), ((related_over Lt k a b oa' ob, (r k b (omega arith) ob, tt)), tt))))

  withs_over : (ts : Expressions) (at : List ℕ) (n : ℕ) (rest : ℕ → List Linear → Traced Form) → All (λ x. x < n) at → RestsOver n rest → IsFormOver n (with_values at ts n rest).value
  withs_over no_expression at n rest h r = r n [] (omega arith) (All-nil (IsOver n))
  withs_over (and_expression t ts) at n rest h r =
      with_over t at n (λ m a. with_values at ts m (λ k ls. rest k (a ∷ ls))) h
      (λ m a le oa. withs_over ts at m (λ k ls. rest k (a ∷ ls)) (below_more n m at le h)
      (λ k ls lk os. r k (a ∷ ls) (omega arith) (All-cons (IsOver k) a ls (over_more m k a lk oa) os)))

  sum_over : (ts : Expressions) (at : List ℕ) (n : ℕ) (rest : ℕ → Linear → Traced Form) → All (λ x. x < n) at → RestOver n rest → IsFormOver n (with_sum at ts n rest).value
  sum_over no_expression at n rest h r = r n (linear.number (pos 0)) (omega arith) (over_number n (pos 0))
  sum_over (and_expression t ts) at n rest h r =
      with_over t at n (λ m a. with_more at ts m a rest) h
      (λ m a le oa. more_over ts at m a rest (below_more n m at le h) oa (λ k b lk ob. r k b (omega arith) ob))

  more_over : (ts : Expressions) (at : List ℕ) (n : ℕ) (s : Linear) (rest : ℕ → Linear → Traced Form) → All (λ x. x < n) at → IsOver n s → RestOver n rest
      → IsFormOver n (with_more at ts n s rest).value
  more_over no_expression at n s rest h os r = r n s (omega arith) os
  more_over (and_expression (minus t) ts) at n s rest h os r =
      with_over t at n (λ m a. next (combining (pos 1) s (negsuc 0) a) (λ z. with_more at ts m z rest)) h
      (λ m a le oa. more_over ts at m _ rest (below_more n m at le h) (combination-over m (pos 1) (negsuc 0) s a (over_more n m s le os) oa) (λ k b lk ob. r k b (omega arith) ob))
  more_over (and_expression t ts) at n s rest h os r =
      with_over t at n (λ m a. next (combining (pos 1) s (pos 1) a) (λ z. with_more at ts m z rest)) h
      (λ m a le oa. more_over ts at m _ rest (below_more n m at le h) (combination-over m (pos 1) (pos 1) s a (over_more n m s le os) oa) (λ k b lk ob. r k b (omega arith) ob))
