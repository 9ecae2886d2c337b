-- The terms of an encoding are reduced: they are numbers, names and what is combined of them.
use Rattle.std.proofs.Common.{length, sym, subst, append_assoc, append-nil, ℕ, zero, suc, ◌+◌, ◌<◌, arith, ◌≢◌, ℤ, pos, negsuc, Bool, true, false, not, cond, List, [], ◌∷◌, ◌++◌}
use Rattle.std.specs.Bool.{beq}
use Rattle.std.specs.List.{AllByRecursion}
use Rattle.std.proofs.lemmas.List.Elements.{All-from_recursion}
use Rattle.linear_term.specs.Linear as linear
use Rattle.linear_term.specs.Linear.{Linear, IsReduced}
use Rattle.linear_term.proofs.Names.{reduced-combination}
use Rattle.form_typed.specs.declared.typed.Relation.{Relation}
use Rattle.form_typed.specs.declared.typed.Relation.TheVariants.{Eq, Neq, Lt, Leq, Gt, Geq}
use Rattle.form_typed.specs.Formula.{Formula, Formulas, Expression, Expressions, formula, constant, compares, applies, negation, every, some, implies, iff, for_all, for_some, part, no_formula, and_formula, number, name, call, minus, total, product, choice, absolute, lesser, greater, no_expression, and_expression}
use Rattle.base_budget.specs.Trace.{Traced, just, step, next, combining}
use Rattle.formula.specs.Form.{Form, Forms, holds, fails, differs, universal, disjunction, no_form, and_form, forms}
use Rattle.formula.specs.Reduced.{HasReducedTerms, HaveReducedTerms}
use Rattle.pri_typing.specs.declared.problem.Problem.{Problem}
use Rattle.pri_typing.specs.Problems.{assumed_by}
use Rattle.pri_typing.specs.WellFormed.{is_numeric}
use Rattle.form_encoding.specs.Encoding.{named, multiple, related, signed_relation, product_of, junction, quantified, SortBound, least, greatest, bounds, inequality, within, outside, limits, restricted, bound_by, cases, encoded, all_encoded, with_value, with_values, with_sum, with_more}
use Rattle.form_typed.specs.declared.typed.Sort.{Sort}
use Rattle.form_encoding.specs.Occurrences.{occurs}
use Rattle.form_encoding.specs.Problems.{append, body, parts_root, problem_root, constants, types}
use Rattle.form_encoding.specs.Root.{conditions, for_last, names_from}

number_reduced : (v : ℤ) → IsReduced (linear.number v)
number_reduced v = record { rising = tt; not_zero = All-from_recursion (λ p. p.1 ≢ pos 0) [] tt }

zero-less : (x : ℕ) → 0 < x + 1
zero-less x = omega arith

name_reduced : (x : ℕ) → IsReduced (linear.name x)
name_reduced x = record { rising = (zero-less x, tt); not_zero = All-from_recursion (λ p. p.1 ≢ pos 0) ((x, pos 1) ∷ []) ((λ e. cc), tt) }

named_reduced : (at : List ℕ) (x : ℕ) → IsReduced (named at x)
named_reduced [] x = number_reduced (pos 0)
named_reduced (y ∷ ys) zero = name_reduced y
named_reduced (y ∷ ys) (suc x) = named_reduced ys x

multiple_reduced : (k : ℤ) (t : Linear) → IsReduced t → IsReduced (multiple k t).value
unfolding step
multiple_reduced k t h = reduced-combination k (pos 0) t (linear.number (pos 0)) h (number_reduced (pos 0))

product_reduced : (left : Bool) (s t : Linear) → IsReduced s → IsReduced t → IsReduced (product_of left s t).value
product_reduced true s t h k = multiple_reduced s.constant t k
product_reduced false s t h k = multiple_reduced t.constant s h

related_reduced : (r : Relation) (a b : Linear) → IsReduced a → IsReduced b → HasReducedTerms (related r a b).value
unfolding next just step
related_reduced Eq a b ha hb = reduced-combination (pos 1) (negsuc 0) a b ha hb
related_reduced Neq a b ha hb = reduced-combination (pos 1) (negsuc 0) a b ha hb
related_reduced Geq a b ha hb = reduced-combination (pos 1) (negsuc 0) a b ha hb
related_reduced Gt a b ha hb = reduced-combination (pos 1) (pos 1) _ (linear.number (negsuc 0)) (reduced-combination (pos 1) (negsuc 0) a b ha hb) (number_reduced (negsuc 0))
related_reduced Leq a b ha hb = reduced-combination (pos 1) (negsuc 0) b a hb ha
related_reduced Lt a b ha hb = reduced-combination (pos 1) (pos 1) _ (linear.number (negsuc 0)) (reduced-combination (pos 1) (negsuc 0) b a hb ha) (number_reduced (negsuc 0))

junction_reduced : (plus : Bool) (gs : Forms) → HaveReducedTerms gs → HasReducedTerms (junction plus gs)
junction_reduced true gs h = h
junction_reduced false gs h = h

quantified_reduced : (plus : Bool) (g : Form) → HasReducedTerms g → HasReducedTerms (quantified plus g)
quantified_reduced true g h = h
quantified_reduced false g h = h

inequality_reduced : (k m : ℤ) (x : ℕ) (t : Linear) → IsReduced t → HasReducedTerms (inequality k x m t).value
unfolding next just step
inequality_reduced k m x t h = reduced-combination k m (linear.name x) t (name_reduced x) h

limit_reduced : (all : Bool) (x : ℕ) (b : SortBound) → HasReducedTerms (cond all (outside x b) (within x b)).value
unfolding next just step
limit_reduced true x (least n) =
    inequality_reduced (negsuc 0) (pos 1) x _ (reduced-combination (pos 1) (negsuc 0) (linear.number n) (linear.number (pos 1)) (number_reduced n) (number_reduced (pos 1)))
limit_reduced true x (greatest n) =
    inequality_reduced (pos 1) (pos 1) x _ (reduced-combination (negsuc 0) (negsuc 0) (linear.number n) (linear.number (pos 1)) (number_reduced n) (number_reduced (pos 1)))
limit_reduced false x (least n) = inequality_reduced (pos 1) (negsuc 0) x (linear.number n) (number_reduced n)
limit_reduced false x (greatest n) = inequality_reduced (negsuc 0) (pos 1) x (linear.number n) (number_reduced n)

limits_reduced : (all : Bool) (x : ℕ) (bs : List SortBound) (gs : List Form) → HaveReducedTerms (forms gs) → HaveReducedTerms (forms ((limits all x bs).value ++ gs))
unfolding next just
limits_reduced all x [] gs h = h
limits_reduced all x (b ∷ bs) gs h = (limit_reduced all x b, limits_reduced all x bs gs h)

restricted_reduced : (all : Bool) (x : ℕ) (bs : List SortBound) (g : Form) → HasReducedTerms g → HasReducedTerms (restricted all (limits all x bs).value g)
unfolding next just
restricted_reduced all x [] g h = h
restricted_reduced true x (b ∷ bs) g h = limits_reduced true x (b ∷ bs) (g ∷ []) (h, tt)
restricted_reduced false x (b ∷ bs) g h = limits_reduced false x (b ∷ bs) (g ∷ []) (h, tt)

bound_reduced : (all : Bool) (x : ℕ) (s : Sort) (work : Traced Form) → HasReducedTerms work.value → HasReducedTerms (bound_by all x s work).value
unfolding next just
bound_reduced all x s work h = quantified_reduced all _ (restricted_reduced all x (bounds s) work.value h)

predicate_reduced : (plus : Bool) (p : ℕ) (ls : List Linear) → AllByRecursion IsReduced ls → HasReducedTerms (cond plus (holds p ls) (fails p ls))
predicate_reduced true p ls h = h
predicate_reduced false p ls h = h

abbrev RestReduced : (ℕ → Linear → Traced Form) → Type 0
RestReduced rest = (m : ℕ) (a : Linear) → IsReduced a → HasReducedTerms (rest m a).value

abbrev RestsReduced : (ℕ → List Linear → Traced Form) → Type 0
RestsReduced rest = (m : ℕ) (ls : List Linear) → AllByRecursion IsReduced ls → HasReducedTerms (rest m ls).value

mutual
  unfolding next just step

  encoded_reduced : (f : Formula) (at : List ℕ) (n : ℕ) (plus : Bool) → HasReducedTerms (encoded at n plus f).value
  encoded_reduced (constant b) at n plus = junction_reduced (beq b plus) no_form tt
  encoded_reduced (compares r s t) at n plus =
      with_reduced s at n (λ m a. with_value at t m (λ k b. related (signed_relation plus r) a b))
      (λ m a ra. with_reduced t at m (λ k b. related (signed_relation plus r) a b) (λ k b rb. related_reduced (signed_relation plus r) a b ra rb))
  encoded_reduced (applies p ts) at n plus = withs_reduced ts at n (λ m ls. just (cond plus (holds p ls) (fails p ls))) (λ m ls rs. predicate_reduced plus p ls rs)
  encoded_reduced (negation f) at n plus = encoded_reduced f at n (not plus)
  encoded_reduced (every fs) at n plus = junction_reduced plus (all_encoded at n plus fs).value (all_encoded_reduced fs at n plus)
  encoded_reduced (some fs) at n plus = junction_reduced (not plus) (all_encoded at n plus fs).value (all_encoded_reduced fs at n plus)
  encoded_reduced (implies f g) at n plus = junction_reduced (not plus) _ (encoded_reduced f at n (not plus), (encoded_reduced g at n plus, tt))
  encoded_reduced (iff f g) at n plus =
      ((encoded_reduced f at n (not plus), (encoded_reduced g at n true, tt)), ((encoded_reduced f at n plus, (encoded_reduced g at n false, tt)), tt))
  encoded_reduced (for_all s f) at n plus = bound_reduced plus n s (encoded (at ++ n ∷ []) (suc n) plus f) (encoded_reduced f (at ++ n ∷ []) (suc n) plus)
  encoded_reduced (for_some s f) at n plus = bound_reduced (not plus) n s (encoded (at ++ n ∷ []) (suc n) plus f) (encoded_reduced f (at ++ n ∷ []) (suc n) plus)
  encoded_reduced (part k f) at n plus = encoded_reduced f at n plus

  all_encoded_reduced : (fs : Formulas) (at : List ℕ) (n : ℕ) (plus : Bool) → HaveReducedTerms (all_encoded at n plus fs).value
  all_encoded_reduced no_formula at n plus = tt
  all_encoded_reduced (and_formula f fs) at n plus = (encoded_reduced f at n plus, all_encoded_reduced fs at n plus)

  with_reduced : (t : Expression) (at : List ℕ) (n : ℕ) (rest : ℕ → Linear → Traced Form) → RestReduced rest → HasReducedTerms (with_value at t n rest).value
  with_reduced (number v) at n rest r = r n (linear.number v) (number_reduced v)
  with_reduced (name x) at n rest r = r n (named at x) (named_reduced at x)
  with_reduced (call f ts) at n rest r =
      withs_reduced ts at n (λ m ls. next (rest (suc m) (linear.name m)) (λ g. just (universal (disjunction (forms (differs f ls (linear.name m) ∷ g ∷ []))))))
      (λ m ls rs. ((rs, name_reduced m), (r (suc m) (linear.name m) (name_reduced m), tt)))
  with_reduced (minus t) at n rest r = with_reduced t at n (λ m a. next (multiple (negsuc 0) a) (rest m)) (λ m a ra. r m _ (multiple_reduced (negsuc 0) a ra))
  with_reduced (total ts) at n rest r = sum_reduced ts at n rest r
  with_reduced (product s t) at n rest r =
      with_reduced s at n (λ m a. with_value at t m (λ k b. next (product_of (is_numeric s) a b) (rest k)))
      (λ m a ra. with_reduced t at m (λ k b. next (product_of (is_numeric s) a b) (rest k)) (λ k b rb. r k _ (product_reduced (is_numeric s) a b ra rb)))
  with_reduced (choice f s t) at n rest r =
      with_reduced s at n (λ m a. with_value at t m (λ k b. cases (encoded at k true f) (rest k a) (encoded at k false f) (rest k b)))
      (λ m a ra. with_reduced t at m (λ k b. cases (encoded at k true f) (rest k a) (encoded at k false f) (rest k b))
      (λ k b rb. ((encoded_reduced f at k true, (r k a ra, tt)), ((encoded_reduced f at k false, (r k b rb, tt)), tt))))
  with_reduced (absolute t) at n rest r =
      with_reduced t at n (λ m a. cases (related Geq a (linear.number (pos 0))) (rest m a) (related Lt a (linear.number (pos 0))) (next (multiple (negsuc 0) a) (rest m)))
      (λ m a ra. (
        (related_reduced Geq a (linear.number (pos 0)) ra (number_reduced (pos 0)), (r m a ra, tt)),
        ((related_reduced Lt a (linear.number (pos 0)) ra (number_reduced (pos 0)), (r m _ (multiple_reduced (negsuc 0) a ra), tt)), tt),
      ))
  with_reduced (lesser s t) at n rest r =
      with_reduced s at n (λ m a. with_value at t m (λ k b. cases (related Leq a b) (rest k a) (related Gt a b) (rest k b)))
      (λ m a ra. with_reduced t at m (λ k b. cases (related Leq a b) (rest k a) (related Gt a b) (rest k b))
      (λ k b rb. ((related_reduced Leq a b ra rb, (r k a ra, tt)), ((related_reduced Gt a b ra rb, (r k b rb, tt)), tt))))
  with_reduced (greater s t) at n rest r =
      with_reduced s at n (λ m a. with_value at t m (λ k b. cases (related Geq a b) (rest k a) (related Lt a b) (rest k b)))
      (λ m a ra. with_reduced t at m (λ k b. cases (related Geq a b) (rest k a) (related Lt a b) (rest k b))
      (λ k b rb. ((related_reduced Geq a b ra rb, (r k a ra, tt)), ((related_reduced Lt a b ra rb, (r k b rb, tt)), tt))))

  withs_reduced : (ts : Expressions) (at : List ℕ) (n : ℕ) (rest : ℕ → List Linear → Traced Form) → RestsReduced rest → HasReducedTerms (with_values at ts n rest).value
  withs_reduced no_expression at n rest r = r n [] tt
  withs_reduced (and_expression t ts) at n rest r =
      with_reduced t at n (λ m a. with_values at ts m (λ k ls. rest k (a ∷ ls)))
      (λ m a ra. withs_reduced ts at m (λ k ls. rest k (a ∷ ls)) (λ k ls rs. r k (a ∷ ls) (ra, rs)))

  sum_reduced : (ts : Expressions) (at : List ℕ) (n : ℕ) (rest : ℕ → Linear → Traced Form) → RestReduced rest → HasReducedTerms (with_sum at ts n rest).value
  sum_reduced no_expression at n rest r = r n (linear.number (pos 0)) (number_reduced (pos 0))
  sum_reduced (and_expression t ts) at n rest r =
      with_reduced t at n (λ m a. with_more at ts m a rest) (λ m a ra. more_reduced ts at m a rest ra r)

  more_reduced : (ts : Expressions) (at : List ℕ) (n : ℕ) (s : Linear) (rest : ℕ → Linear → Traced Form) → IsReduced s → RestReduced rest → HasReducedTerms (with_more at ts n s rest).value
  more_reduced no_expression at n s rest rs r = r n s rs
  more_reduced (and_expression (minus t) ts) at n s rest rs r =
      with_reduced t at n (λ m a. next (combining (pos 1) s (negsuc 0) a) (λ z. with_more at ts m z rest))
      (λ m a ra. more_reduced ts at m _ rest (reduced-combination (pos 1) (negsuc 0) s a rs ra) r)
  more_reduced (and_expression t ts) at n s rest rs r =
      with_reduced t at n (λ m a. next (combining (pos 1) s (pos 1) a) (λ z. with_more at ts m z rest))
      (λ m a ra. more_reduced ts at m _ rest (reduced-combination (pos 1) (pos 1) s a rs ra) r)

last_reduced : (m : ℕ) (ss : List Sort) (work : Traced Form) → HasReducedTerms work.value → HasReducedTerms (for_last m ss work).value
last_reduced m [] work h = h
last_reduced m (s ∷ ss) work h = bound_reduced true m s (for_last (suc m) ss work) (last_reduced (suc m) ss work h)

one_reduced : (b : Bool) (x : ℕ) (s : Sort) (gs : List Form) → HaveReducedTerms (forms gs) → HaveReducedTerms (forms ((cond b (limits false x (bounds s)) (just [])).value ++ gs))
unfolding just
one_reduced true x s gs h = limits_reduced false x (bounds s) gs h
one_reduced false x s gs h = h

conditions_reduced : (kept : ℕ → Bool) (x : ℕ) (ss : List Sort) (gs : List Form) → HaveReducedTerms (forms gs) → HaveReducedTerms (forms ((conditions kept x ss).value ++ gs))
unfolding next just
conditions_reduced kept x [] gs h = h
conditions_reduced kept x (s ∷ ss) gs h =
    let front : List Form = (cond (kept x) (limits false x (bounds s)) (just [])).value in
    let back : List Form = (conditions kept (suc x) ss).value in
    subst (λ l. HaveReducedTerms (forms l)) (sym (append_assoc front back gs)) (one_reduced (kept x) x s (back ++ gs) (conditions_reduced kept (suc x) ss gs h))

with_conditions : (hs : List Form) (g : Form) → HaveReducedTerms (forms (hs ++ g ∷ [])) → HasReducedTerms (restricted false hs g)
with_conditions [] g h = h.0
with_conditions (f ∷ hs) g h = h

append_reduced : (gs : Forms) (hs : List Form) → HaveReducedTerms gs → HaveReducedTerms (forms hs) → HaveReducedTerms (append gs hs)
append_reduced no_form hs p q = q
append_reduced (and_form g gs) hs p q = (p.0, append_reduced gs hs (p.1) q)

-- the terms of an encoded problem are reduced, below the quantifiers of its universal constants and with them
pub body_reduced : (p : Problem) → HasReducedTerms (body p).value
body_reduced p = encoded_reduced (formula p.formula) (names_from 0 (constants p)) (constants p) true

pub problem_reduced : (p : Problem) → HasReducedTerms (problem_root p).value
unfolding next just
problem_reduced p =
    let es = p.existential_types in
    let g : Form = (for_last (length es) p.universal_types (body p)).value in
    with_conditions (conditions (λ x. true) 0 es).value g
    (conditions_reduced (λ x. true) 0 es (g ∷ []) (last_reduced (length es) p.universal_types (body p) (body_reduced p), tt))

-- and those of what parts assume
pub parts_reduced : (p : Problem) (set : List ℕ) → HasReducedTerms (parts_root p set).value
unfolding next just
parts_reduced p set =
    let own : List Form = (conditions (λ x. occurs x (assumed_by p set)) 0 (types p)).value in
    append_reduced _ own (encoded_reduced (assumed_by p set) (names_from 0 (constants p)) (constants p) true)
    (subst (λ l. HaveReducedTerms (forms l)) (append-nil own) (conditions_reduced (λ x. occurs x (assumed_by p set)) 0 (types p) [] tt))
