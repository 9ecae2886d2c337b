-- Each operator: what it becomes has, at arguments of some values, the value that it answers at these.
use Rattle.std.proofs.Common.{◌≡◌, ℤ, pos, ◌*ℤ◌, neg_ℤ, Bool, true, false, not, List, [], ◌∷◌, ◌++◌, map, refl, sym, ap, subst, unsigned_abs, int_lt, int_le, if◌then◌else◌, arith}
use Rattle.std.specs.Bool.{beq}
use Rattle.std.specs.Ordering.{int_eq}
use Rattle.std.proofs.lemmas.Int.{ints}
use Rattle.form_typed.specs.declared.typed.Relation.{Relation}
use Rattle.form_typed.specs.declared.typed.Relation.TheVariants as relation
use Rattle.form_typed.specs.Formula as logic
use Rattle.form_typed.specs.Formula.{Formula, Formulas, Expression, Expressions, formulas, expressions}
use Rattle.form_typed.specs.Lists.{sum_of}
use Rattle.form_typed.specs.Truth.{Meaning, Truth, AreAllTrue, AreAllFalse, HasValue, HaveValues, IsRelated}
use Rattle.form_typed.proofs.Values.{value_more, values_more, value_clash}
use Rattle.smt_terms.specs.declared.operator.Operator.{Operator}
use Rattle.smt_terms.specs.declared.operator.Operator.TheVariants as op
use Rattle.smt_terms.specs.Operators.{Value, integer, truth, as_integer, as_truth, is_same, is_other, is_related, compares_values, all_of, some_of, either, either_of, implied, neighbours, pairs, product_of, difference_of, chosen, applied}
use Rattle.smt_terms.specs.Translation.{Said, a_formula, a_term, formula_in, term_in, joined, either_said, implied_said, multiplied, subtracted, equal_said, unequal_said, compared_said, chosen_said, operated}
use Rattle.smt_terms.specs.Meaning.{SignedFact, IsValue}
use Rattle.smt_terms.proofs.Signs.{signed_not, signed_test, signed_alone, signed_and, signed_none, signed_some, signed_iff, signed_implies, signed_either, signed_choice}

-- formulas or terms with their values
pub data AreValues (w : Meaning) (e : List ℤ) : List Said → List Value → Type 0 where
  none : AreValues w e [] []
  more : {s : Said} {v : Value} {ss : List Said} {vs : List Value} → IsValue w s e v → AreValues w e ss vs → AreValues w e (s ∷ ss) (v ∷ vs)

-- formulas with their truths
data AreTruths (w : Meaning) (e : List ℤ) : List Formula → List Bool → Type 0 where
  no_truth : AreTruths w e [] []
  and_truth : {f : Formula} {b : Bool} {fs : List Formula} {bs : List Bool} → SignedFact b (Truth w f e) → AreTruths w e fs bs → AreTruths w e (f ∷ fs) (b ∷ bs)

-- terms with their integers
pub data AreNumbers (w : Meaning) (e : List ℤ) : List Expression → List ℤ → Type 0 where
  no_number : AreNumbers w e [] []
  and_number : {t : Expression} {v : ℤ} {ts : List Expression} {vs : List ℤ} → HasValue w t e (λ x. x ≡ v) → AreNumbers w e ts vs → AreNumbers w e (t ∷ ts) (v ∷ vs)

truth_in : (w : Meaning) (s : Said) (e : List ℤ) (v : Value) → IsValue w s e v → SignedFact (as_truth v) (Truth w (formula_in s) e)
truth_in w (a_formula f) e (truth b) h = h
truth_in w (a_formula f) e (integer v) h = absurd h
truth_in w (a_term t) e (integer v) h = λ p. let bad : false ≡ true = p in cc
truth_in w (a_term t) e (truth b) h = absurd h

number_in : (w : Meaning) (s : Said) (e : List ℤ) (v : Value) → IsValue w s e v → HasValue w (term_in s) e (λ x. x ≡ as_integer v)
number_in w (a_formula f) e (truth b) h = refl
number_in w (a_formula f) e (integer v) h = absurd h
number_in w (a_term t) e (integer v) h = h
number_in w (a_term t) e (truth b) h = absurd h

truths_in : {w : Meaning} {e : List ℤ} {ss : List Said} {vs : List Value} → AreValues w e ss vs → AreTruths w e (map formula_in ss) (map as_truth vs)
truths_in none = no_truth
truths_in {w} {e} (more {s} {v} h k) = and_truth {f = formula_in s} {b = as_truth v} (truth_in w s e v h) (truths_in k)

pub numbers_in : {w : Meaning} {e : List ℤ} {ss : List Said} {vs : List Value} → AreValues w e ss vs → AreNumbers w e (map term_in ss) (map as_integer vs)
numbers_in none = no_number
numbers_in {w} {e} (more {s} {v} h k) = and_number {t = term_in s} {v = as_integer v} (number_in w s e v h) (numbers_in k)

-- Connectives.

all_true : {w : Meaning} {e : List ℤ} {fs : List Formula} {bs : List Bool} → AreTruths w e fs bs → SignedFact (all_of bs) (AreAllTrue w (formulas fs) e)
all_true no_truth = tt
all_true {w} {e} (and_truth {f} {b} {fs} {bs} h k) = signed_and b (all_of bs) (Truth w f e) (AreAllTrue w (formulas fs) e) h (all_true k)

all_false : {w : Meaning} {e : List ℤ} {fs : List Formula} {bs : List Bool} → AreTruths w e fs bs → SignedFact (not (some_of bs)) (AreAllFalse w (formulas fs) e)
all_false no_truth = tt
all_false {w} {e} (and_truth {f} {b} {fs} {bs} h k) = signed_none b (some_of bs) (Truth w f e) (AreAllFalse w (formulas fs) e) h (all_false k)

joined_is : {w : Meaning} {e : List ℤ} {fs : List Formula} {bs : List Bool} → AreTruths w e fs bs → SignedFact (all_of bs) (Truth w (joined fs) e)
joined_is no_truth = tt
joined_is {w} {e} (and_truth {f} {b} h no_truth) = signed_alone b (Truth w f e) h
joined_is (and_truth {f} {b} h (and_truth {f = g} {b = c} j k)) = all_true (and_truth {f = f} {b = b} h (and_truth {f = g} {b = c} j k))

some_true : {w : Meaning} {e : List ℤ} {fs : List Formula} {bs : List Bool} → AreTruths w e fs bs → SignedFact (some_of bs) (¬ (AreAllFalse w (formulas fs) e))
some_true {w} {e} {fs} {bs} h = signed_some (some_of bs) (AreAllFalse w (formulas fs) e) (all_false h)

either_is : {w : Meaning} {e : List ℤ} {gs : List Formula} {bs : List Bool} (f : Formula) (a : Bool) → SignedFact a (Truth w f e) → AreTruths w e gs bs
    → SignedFact (either_of a bs) (Truth w (either_said f gs) e)
either_is f a h no_truth = h
either_is {w} {e} f a h (and_truth {f = g} {b} j k) =
    either_is (logic.negation (logic.iff f g)) (either a b) (signed_either a b (Truth w f e) (Truth w g e) h j) k

implied_is : {w : Meaning} {e : List ℤ} {fs : List Formula} {bs : List Bool} → AreTruths w e fs bs → SignedFact (implied bs) (Truth w (implied_said fs) e)
implied_is no_truth = tt
implied_is (and_truth h no_truth) = h
implied_is {w} {e} (and_truth {f} {b = a} h (and_truth {f = g} {b} {fs = gs} {bs} j k)) =
    signed_implies a (implied (b ∷ bs)) (Truth w f e) (Truth w (implied_said (g ∷ gs)) e) h (implied_is (and_truth {f = g} {b = b} j k))

-- a test of two values and the formula that it becomes
abbrev TestLaw : Meaning → List ℤ → (Said → Said → Formula) → (Value → Value → Bool) → Type 0
TestLaw w e F T = (s t : Said) (v u : Value) → IsValue w s e v → IsValue w t e u → SignedFact (T v u) (Truth w (F s t) e)

neighbours_are : {w : Meaning} {e : List ℤ} {ss : List Said} {vs : List Value} (F : Said → Said → Formula) (T : Value → Value → Bool) → TestLaw w e F T
    → AreValues w e ss vs → AreTruths w e (neighbours F ss) (neighbours T vs)
neighbours_are F T l none = no_truth
neighbours_are F T l (more h none) = no_truth
neighbours_are F T l (more {s} {v} h (more {s = t} {v = u} j k)) =
    and_truth {f = F s t} {b = T v u} (l s t v u h j) (neighbours_are F T l (more {s = t} {v = u} j k))

truths_beside : {w : Meaning} {e : List ℤ} {fs gs : List Formula} {bs cs : List Bool} → AreTruths w e fs bs → AreTruths w e gs cs → AreTruths w e (fs ++ gs) (bs ++ cs)
truths_beside no_truth k = k
truths_beside (and_truth {f} {b} h j) k = and_truth {f = f} {b = b} h (truths_beside j k)

each_with : {w : Meaning} {e : List ℤ} {ss : List Said} {vs : List Value} (F : Said → Said → Formula) (T : Value → Value → Bool) → TestLaw w e F T
    → (s : Said) (v : Value) → IsValue w s e v → AreValues w e ss vs → AreTruths w e (map (F s) ss) (map (T v) vs)
each_with F T l s v h none = no_truth
each_with F T l s v h (more {s = t} {v = u} j k) = and_truth {f = F s t} {b = T v u} (l s t v u h j) (each_with F T l s v h k)

pairs_are : {w : Meaning} {e : List ℤ} {ss : List Said} {vs : List Value} (F : Said → Said → Formula) (T : Value → Value → Bool) → TestLaw w e F T
    → AreValues w e ss vs → AreTruths w e (pairs F ss) (pairs T vs)
pairs_are F T l none = no_truth
pairs_are F T l (more {s} {v} h k) = truths_beside (each_with F T l s v h k) (pairs_are F T l k)

-- Relations.

equal_test : (x y : ℤ) → SignedFact (int_eq x y) (x ≡ y)
equal_test x y = by (int_eq x y) refl
  where
    by : (b : Bool) → int_eq x y ≡ b → SignedFact b (x ≡ y)
    by true h = grind (arith, ints)
    by false h = λ p. grind (arith, ints)

less_test : (x y : ℤ) → SignedFact (int_lt x y) (IsRelated relation.Lt x y)
less_test x y = by (int_lt x y) refl
  where
    by : (b : Bool) → int_lt x y ≡ b → SignedFact b (IsRelated relation.Lt x y)
    by true h = grind (arith, ints)
    by false h = λ p. grind (arith, ints)

most_test : (x y : ℤ) → SignedFact (int_le x y) (IsRelated relation.Leq x y)
most_test x y = by (int_le x y) refl
  where
    by : (b : Bool) → int_le x y ≡ b → SignedFact b (IsRelated relation.Leq x y)
    by true h = grind (arith, ints)
    by false h = λ p. grind (arith, ints)

related_test : (r : Relation) (x y : ℤ) → SignedFact (is_related r x y) (IsRelated r x y)
related_test relation.Eq x y = equal_test x y
related_test relation.Neq x y = signed_not (int_eq x y) (x ≡ y) (equal_test x y)
related_test relation.Lt x y = less_test x y
related_test relation.Leq x y = most_test x y
related_test relation.Gt x y = less_test y x
related_test relation.Geq x y = most_test y x

-- two terms are related where their values are
two_values : (w : Meaning) (s t : Expression) (e : List ℤ) (x y : ℤ) (R : ℤ → ℤ → Type 0) (c : Bool) → SignedFact c (R x y) → HasValue w s e (λ a. a ≡ x) → HasValue w t e (λ b. b ≡ y)
    → SignedFact c (HasValue w s e (λ a. HasValue w t e (λ b. R a b)))
two_values w s t e x y R true r h k =
    value_more w s e (λ a. a ≡ x) _ (λ a p. value_more w t e (λ b. b ≡ y) (λ b. R a b) (λ b q. subst (λ z. R a z) (sym q) (subst (λ z. R z y) (sym p) r)) k) h
two_values w s t e x y R false r h k =
    λ both. value_clash w s e (λ a. a ≡ x) (λ a. HasValue w t e (λ b. R a b))
    (λ a p there. value_clash w t e (λ b. b ≡ y) (λ b. R a b) (λ b q z. r (subst (λ i. R i y) p (subst (λ i. R a i) q z))) k there) h both

compared_is : (w : Meaning) (e : List ℤ) (r : Relation) → TestLaw w e (compared_said r) (compares_values r)
compared_is w e r s t v u h k =
    two_values w (term_in s) (term_in t) e (as_integer v) (as_integer u) (IsRelated r) (is_related r (as_integer v) (as_integer u)) (related_test r (as_integer v) (as_integer u))
    (number_in w s e v h) (number_in w t e u k)

equal_is : (w : Meaning) (e : List ℤ) → TestLaw w e equal_said is_same
equal_is w e (a_term s) (a_term t) (integer x) (integer y) h k = two_values w s t e x y (IsRelated relation.Eq) (int_eq x y) (equal_test x y) h k
equal_is w e (a_formula f) (a_formula g) (truth a) (truth b) h k = signed_iff a b (Truth w f e) (Truth w g e) h k
equal_is w e (a_term s) (a_formula g) (integer x) (truth b) h k = λ p. let bad : false ≡ true = p in cc
equal_is w e (a_formula f) (a_term t) (truth a) (integer y) h k = λ p. let bad : false ≡ true = p in cc
equal_is w e (a_term s) t (truth a) u h k = absurd h
equal_is w e (a_formula f) t (integer x) u h k = absurd h
equal_is w e (a_term s) (a_term t) (integer x) (truth b) h k = absurd k
equal_is w e (a_term s) (a_formula g) (integer x) (integer y) h k = absurd k
equal_is w e (a_formula f) (a_term t) (truth a) (truth b) h k = absurd k
equal_is w e (a_formula f) (a_formula g) (truth a) (integer y) h k = absurd k

unequal_is : (w : Meaning) (e : List ℤ) → TestLaw w e unequal_said is_other
unequal_is w e (a_term s) (a_term t) (integer x) (integer y) h k = two_values w s t e x y (IsRelated relation.Neq) (not (int_eq x y)) (related_test relation.Neq x y) h k
unequal_is w e (a_formula f) (a_formula g) (truth a) (truth b) h k = signed_not (beq a b) _ (signed_iff a b (Truth w f e) (Truth w g e) h k)
unequal_is w e (a_term s) (a_formula g) (integer x) (truth b) h k = refl
unequal_is w e (a_formula f) (a_term t) (truth a) (integer y) h k = refl
unequal_is w e (a_term s) t (truth a) u h k = absurd h
unequal_is w e (a_formula f) t (integer x) u h k = absurd h
unequal_is w e (a_term s) (a_term t) (integer x) (truth b) h k = absurd k
unequal_is w e (a_term s) (a_formula g) (integer x) (integer y) h k = absurd k
unequal_is w e (a_formula f) (a_term t) (truth a) (truth b) h k = absurd k
unequal_is w e (a_formula f) (a_formula g) (truth a) (integer y) h k = absurd k

-- Conditions.

choice_is : (w : Meaning) (c : Formula) (s t : Expression) (e : List ℤ) (b : Bool) (x y : ℤ) → SignedFact b (Truth w c e) → HasValue w s e (λ z. z ≡ x) → HasValue w t e (λ z. z ≡ y)
    → HasValue w (logic.choice c s t) e (λ z. z ≡ (if b then x else y))
choice_is w c s t e true x y h j k = (λ _. j, λ n. absurd (n h))
choice_is w c s t e false x y h j k = (λ a. absurd (h a), λ _. k)

chosen_is : (w : Meaning) (e : List ℤ) (c : Formula) (b : Bool) (s t : Said) (v u : Value) → SignedFact b (Truth w c e) → IsValue w s e v → IsValue w t e u
    → IsValue w (chosen_said c s t) e (chosen b v u)
chosen_is w e c b (a_term s) t (integer x) u h j k = choice_is w c s (term_in t) e b x (as_integer u) h j (number_in w t e u k)
chosen_is w e c b (a_formula f) t (truth a) u h j k = signed_choice b a (as_truth u) (Truth w c e) (Truth w f e) (Truth w (formula_in t) e) h j (truth_in w t e u k)
chosen_is w e c b (a_term s) t (truth a) u h j k = absurd j
chosen_is w e c b (a_formula f) t (integer x) u h j k = absurd j

-- Sums and products.

same_list : (x x' : ℤ) (xs xs' : List ℤ) → x' ≡ x → xs' ≡ xs → x' ∷ xs' ≡ x ∷ xs
same_list x x' xs xs' p q = cc

pub values_are : {w : Meaning} {e : List ℤ} {ts : List Expression} {vs : List ℤ} → AreNumbers w e ts vs → HaveValues w (expressions ts) e (λ xs. xs ≡ vs)
values_are no_number = refl
values_are {w} {e} (and_number {t} {v} {ts} {vs} h k) =
    value_more w t e (λ x. x ≡ v) _ (λ x p. values_more w (expressions ts) e (λ xs. xs ≡ vs) (λ xs. x ∷ xs ≡ v ∷ vs) (λ xs q. same_list v x vs xs p q) (values_are k)) h

total_is : {w : Meaning} {e : List ℤ} {ts : List Expression} {vs : List ℤ} → AreNumbers w e ts vs → HasValue w (logic.total (expressions ts)) e (λ x. x ≡ sum_of vs)
total_is {w} {e} {ts} {vs} h = values_more w (expressions ts) e (λ xs. xs ≡ vs) (λ xs. sum_of xs ≡ sum_of vs) (λ xs p. ap sum_of p) (values_are h)

minus_is : (w : Meaning) (t : Expression) (e : List ℤ) (v : ℤ) → HasValue w t e (λ x. x ≡ v) → HasValue w (logic.minus t) e (λ x. x ≡ neg_ℤ v)
minus_is w t e v h = value_more w t e (λ x. x ≡ v) (λ x. neg_ℤ x ≡ neg_ℤ v) (λ x p. ap neg_ℤ p) h

negatives : {w : Meaning} {e : List ℤ} {ts : List Expression} {vs : List ℤ} → AreNumbers w e ts vs → AreNumbers w e (map logic.minus ts) (map neg_ℤ vs)
negatives no_number = no_number
negatives {w} {e} (and_number {t} {v} h k) = and_number {t = logic.minus t} {v = neg_ℤ v} (minus_is w t e v h) (negatives k)

subtracted_is : {w : Meaning} {e : List ℤ} {ts : List Expression} {vs : List ℤ} → AreNumbers w e ts vs → HasValue w (subtracted ts) e (λ x. x ≡ difference_of vs)
subtracted_is no_number = refl
subtracted_is {w} {e} (and_number {t} {v} h no_number) = minus_is w t e v h
subtracted_is (and_number {t} {v} h (and_number {t = s} {v = u} j k)) = total_is (and_number {t = t} {v = v} h (negatives (and_number {t = s} {v = u} j k)))

times_is : (w : Meaning) (s t : Expression) (e : List ℤ) (x y : ℤ) → HasValue w s e (λ a. a ≡ x) → HasValue w t e (λ b. b ≡ y) → HasValue w (logic.product s t) e (λ z. z ≡ x *ℤ y)
times_is w s t e x y h k = two_values w s t e x y (λ a b. a *ℤ b ≡ x *ℤ y) true refl h k

multiplied_is : {w : Meaning} {e : List ℤ} {ts : List Expression} {vs : List ℤ} (s : Expression) (x : ℤ) → HasValue w s e (λ a. a ≡ x) → AreNumbers w e ts vs
    → HasValue w (multiplied s ts) e (λ z. z ≡ product_of x vs)
multiplied_is s x h no_number = h
multiplied_is {w} {e} s x h (and_number {t} {v} j k) = multiplied_is (logic.product s t) (x *ℤ v) (times_is w s t e x v h j) k

absolute_is : (w : Meaning) (t : Expression) (e : List ℤ) (v : ℤ) → HasValue w t e (λ x. x ≡ v) → HasValue w (logic.absolute t) e (λ x. x ≡ pos (unsigned_abs v))
absolute_is w t e v h = value_more w t e (λ x. x ≡ v) (λ x. pos (unsigned_abs x) ≡ pos (unsigned_abs v)) (λ x p. ap (λ z. pos (unsigned_abs z)) p) h

junk : (w : Meaning) (e : List ℤ) → IsValue w (a_formula (logic.constant false)) e (truth false)
junk w e = λ p. let bad : false ≡ true = p in cc

-- what an operator becomes has the value that it answers
pub operated_is : {w : Meaning} {e : List ℤ} {ss : List Said} {vs : List Value} (o : Operator) → AreValues w e ss vs → IsValue w (operated o ss) e (applied o vs)
operated_is (op.Truth b) h = signed_test b
operated_is {w} {e} op.Not none = junk w e
operated_is {w} {e} op.Not (more {s} {v} h k) = signed_not (as_truth v) (Truth w (formula_in s) e) (truth_in w s e v h)
operated_is op.And none = tt
operated_is op.And (more h none) = h
operated_is op.And (more {s} {v} h (more {s = t} {v = u} j k)) = all_true (truths_in (more {s = s} {v = v} h (more {s = t} {v = u} j k)))
operated_is op.Or none = λ n. n tt
operated_is op.Or (more h none) = h
operated_is op.Or (more {s} {v} h (more {s = t} {v = u} j k)) = some_true (truths_in (more {s = s} {v = v} h (more {s = t} {v = u} j k)))
operated_is {w} {e} op.Xor none = junk w e
operated_is op.Xor (more h none) = h
operated_is {w} {e} op.Xor (more {s} {v} h (more {s = t} {v = u} j k)) =
    either_is (formula_in s) (as_truth v) (truth_in w s e v h) (truths_in (more {s = t} {v = u} j k))
operated_is op.Implies none = tt
operated_is op.Implies (more h none) = h
operated_is op.Implies (more {s} {v} h (more {s = t} {v = u} j k)) = implied_is (truths_in (more {s = s} {v = v} h (more {s = t} {v = u} j k)))
operated_is {w} {e} op.Equal h = joined_is (neighbours_are equal_said is_same (equal_is w e) h)
operated_is {w} {e} op.Distinct h = joined_is (pairs_are unequal_said is_other (unequal_is w e) h)
operated_is {w} {e} op.Choose none = junk w e
operated_is {w} {e} op.Choose (more h none) = junk w e
operated_is {w} {e} op.Choose (more h (more j none)) = junk w e
operated_is {w} {e} op.Choose (more {s = c} {v = b} h (more {s} {v} j (more {s = t} {v = u} k l))) = chosen_is w e (formula_in c) (as_truth b) s t v u (truth_in w c e b h) j k
operated_is {w} {e} (op.Compare r) h = joined_is (neighbours_are (compared_said r) (compares_values r) (compared_is w e r) h)
operated_is op.Plus none = refl
operated_is op.Plus (more h none) = h
operated_is op.Plus (more {s} {v} h (more {s = t} {v = u} j k)) = total_is (numbers_in (more {s = s} {v = v} h (more {s = t} {v = u} j k)))
operated_is op.Minus h = subtracted_is (numbers_in h)
operated_is {w} {e} op.Times none = junk w e
operated_is op.Times (more h none) = h
operated_is {w} {e} op.Times (more {s} {v} h (more {s = t} {v = u} j k)) =
    multiplied_is (term_in s) (as_integer v) (number_in w s e v h) (numbers_in (more {s = t} {v = u} j k))
operated_is {w} {e} op.Abs none = junk w e
operated_is {w} {e} op.Abs (more {s} {v} h k) = absolute_is w (term_in s) e (as_integer v) (number_in w s e v h)
