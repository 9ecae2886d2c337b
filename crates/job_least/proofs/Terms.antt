-- A plain term has one value, and it is that of the linear term that it is.
use Rattle.std.proofs.Common.{◌≡◌, ℕ, zero, suc, ◌+◌, ◌≤◌, ℤ, pos, negsuc, neg_ℤ, ◌+ℤ◌, ◌*ℤ◌, Bool, true, false, ◌&&◌, ◌||◌, List, [], ◌∷◌, length, refl, sym, ap, ◌∙◌, arith}
use Rattle.std.specs.Cmp.{first_so, second_so}
use Rattle.std.specs.Prelude.{◌<◌}
use Rattle.std.proofs.lemmas.Int.{ints}
use Rattle.std.proofs.lemmas.List.Elements.{All-nil, All-cons}
use Rattle.base_integers.specs.Entry.{entry}
use Rattle.base_integers.proofs.Entries.{entry-past}
use Rattle.linear_term.specs.Linear as linear
use Rattle.linear_term.specs.Linear.{Linear, value_of, IsOver}
use Rattle.linear_term.specs.Combination.{combination}
use Rattle.linear_term.proofs.Totals.{value_of-combination, value_of-number, value_of-name}
use Rattle.linear_term.proofs.Names.{combination-over}
use Rattle.form_typed.specs.Formula.{Expression, Expressions, number, name, call, minus, total, product, choice, absolute, lesser, greater, no_expression, and_expression}
use Rattle.form_typed.specs.Truth.{Meaning, HasValue, HaveValues}
use Rattle.form_typed.specs.Lists.{sum_of}
use Rattle.base_budget.specs.Trace.{just, step, next}
use Rattle.pri_typing.specs.WellFormed.{is_numeric, are_numeric}
use Rattle.form_encoding.specs.Encoding.{named, product_of}
use Rattle.form_encoding.specs.Root.{names_from}
use Rattle.form_encoding.specs.Plain.{IsPlain, ArePlain, linear_of, linear_sum, linear_more}
use Rattle.form_encoding.proofs.Products.{IsTermLinear, AreTermsLinear}
use Rattle.job_least.proofs.PlainValues.{plain_value, plain_values}

mutual
  pub plain_has : (w : Meaning) (t : Expression) (e : List ℤ) (P : ℤ → Type 0) → IsPlain t → HasValue w t e P ≡ P (plain_value t e)
  plain_has w (number v) e P p = refl
  plain_has w (name x) e P p = refl
  plain_has w (call f ts) e P p = absurd p
  plain_has w (minus t) e P p = plain_has w t e (λ x. P (neg_ℤ x)) p
  plain_has w (total ts) e P p = plain_have w ts e (λ xs. P (sum_of xs)) p
  plain_has w (product s t) e P p =
      plain_has w s e (λ x. HasValue w t e (λ y. P (x *ℤ y))) p.0 ∙ plain_has w t e (λ y. P (plain_value s e *ℤ y)) p.1
  plain_has w (choice f s t) e P p = absurd p
  plain_has w (absolute t) e P p = absurd p
  plain_has w (lesser s t) e P p = absurd p
  plain_has w (greater s t) e P p = absurd p

  pub plain_have : (w : Meaning) (ts : Expressions) (e : List ℤ) (P : List ℤ → Type 0) → ArePlain ts → HaveValues w ts e P ≡ P (plain_values ts e)
  plain_have w no_expression e P p = refl
  plain_have w (and_expression t ts) e P p =
      plain_has w t e (λ x. HaveValues w ts e (λ xs. P (x ∷ xs))) p.0 ∙ plain_have w ts e (λ xs. P (plain_value t e ∷ xs)) p.1

-- The names.

-- the names of `at` stand for themselves at e
pub Reads : List ℕ → List ℤ → Type 0
Reads at e = (x : ℕ) → value_of (named at x) e ≡ entry e x

named_from : (m n x : ℕ) (e : List ℤ) → length e ≤ m + n → value_of (named (names_from m n) x) e ≡ entry e (m + x)
named_from m zero x e h = value_of-number (pos 0) e ∙ sym (entry-past e (m + x) (omega arith))
named_from m (suc n) zero e h = value_of-name m e ∙ ap (λ y. entry e y) (omega arith)
named_from m (suc n) (suc x) e h = named_from (suc m) n x e (omega arith) ∙ ap (λ y. entry e y) (omega arith)

none_more : (x : ℕ) → 0 + x ≡ x
none_more x = omega arith

pub reads_all : (n : ℕ) (e : List ℤ) → length e ≡ n → Reads (names_from 0 n) e
unfolding Reads
reads_all n e h x = named_from 0 n x e (omega arith) ∙ ap (λ y. entry e y) (none_more x)

-- Numbers.

Closed : Linear → Type 0
Closed t = (d : List ℤ) → value_of t d ≡ t.constant

combination_constant : (m n : ℤ) (s t : Linear) → (combination m s n t).constant ≡ (m *ℤ s.constant) +ℤ (n *ℤ t.constant)
unfolding combination
combination_constant m n s t = refl

closed_combination : (m n : ℤ) (s t : Linear) → Closed s → Closed t → Closed (combination m s n t)
unfolding Closed
closed_combination m n s t h k d =
    value_of-combination m n s t d ∙ (λ i. (m *ℤ h d i) +ℤ (n *ℤ k d i)) ∙ sym (combination_constant m n s t)

closed_number : (k : ℤ) → Closed (linear.number k)
unfolding Closed
closed_number k d = value_of-number k d

multiple_value : (k : ℤ) (t : Linear) (e : List ℤ) → value_of (combination k t (pos 0) (linear.number (pos 0))) e ≡ k *ℤ value_of t e
multiple_value k t e = omega (arith, ints, value_of-combination k (pos 0) t (linear.number (pos 0)) e)

product_value : (p q : Bool) (a b : Linear) (e : List ℤ) → (p || q) ≡ true → (p ≡ true → Closed a) → (q ≡ true → Closed b)
    → value_of (product_of p a b).value e ≡ value_of a e *ℤ value_of b e
unfolding step Closed
product_value true q a b e one ha hb = multiple_value a.constant b e ∙ ap (λ z. z *ℤ value_of b e) (sym (ha refl e))
product_value false true a b e one ha hb =
    let is : value_of b e ≡ b.constant = hb refl e in
    multiple_value b.constant a e ∙ ap (λ z. z *ℤ value_of a e) (sym is) ∙ (omega (arith, ints))
product_value false false a b e one ha hb = cc

product_closed : (p q : Bool) (a b : Linear) → (p && q) ≡ true → (p ≡ true → Closed a) → (q ≡ true → Closed b) → Closed (product_of p a b).value
unfolding step
product_closed true q a b both ha hb = closed_combination a.constant (pos 0) b (linear.number (pos 0)) (hb both) (closed_number (pos 0))
product_closed false q a b both ha hb = cc

mutual
  unfolding next just step

  closed_of : (t : Expression) (at : List ℕ) → is_numeric t ≡ true → Closed (linear_of at t).value
  closed_of (number v) at h = closed_number v
  closed_of (name x) at h = cc
  closed_of (call f ts) at h = cc
  closed_of (minus t) at h = closed_combination (negsuc 0) (pos 0) (linear_of at t).value (linear.number (pos 0)) (closed_of t at h) (closed_number (pos 0))
  closed_of (total ts) at h = closed_sum ts at h
  closed_of (product s t) at h =
      product_closed (is_numeric s) (is_numeric t) (linear_of at s).value (linear_of at t).value h (λ q. closed_of s at q) (λ q. closed_of t at q)
  closed_of (choice f s t) at h = cc
  closed_of (absolute t) at h = cc
  closed_of (lesser s t) at h = cc
  closed_of (greater s t) at h = cc

  closed_sum : (ts : Expressions) (at : List ℕ) → are_numeric ts ≡ true → Closed (linear_sum at ts).value
  closed_sum no_expression at h = closed_number (pos 0)
  closed_sum (and_expression t ts) at h =
      closed_more ts at (linear_of at t).value (second_so (is_numeric t) (are_numeric ts) h) (closed_of t at (first_so (is_numeric t) (are_numeric ts) h))

  closed_more : (ts : Expressions) (at : List ℕ) (s : Linear) → are_numeric ts ≡ true → Closed s → Closed (linear_more at ts s).value
  closed_more no_expression at s h c = c
  closed_more (and_expression (minus t) ts) at s h c =
      closed_more ts at (combination (pos 1) s (negsuc 0) (linear_of at t).value) (second_so (is_numeric t) (are_numeric ts) h)
      (closed_combination (pos 1) (negsuc 0) s (linear_of at t).value c (closed_of t at (first_so (is_numeric t) (are_numeric ts) h)))
  closed_more (and_expression t ts) at s h c =
      closed_more ts at (combination (pos 1) s (pos 1) (linear_of at t).value) (second_so (is_numeric t) (are_numeric ts) h)
      (closed_combination (pos 1) (pos 1) s (linear_of at t).value c (closed_of t at (first_so (is_numeric t) (are_numeric ts) h)))

-- Values.

minus_value : (t : Linear) (e : List ℤ) (v : ℤ) → value_of t e ≡ v → value_of (combination (negsuc 0) t (pos 0) (linear.number (pos 0))) e ≡ neg_ℤ v
minus_value t e v h = omega (arith, ints, multiple_value (negsuc 0) t e)

less_value : (s t : Linear) (e : List ℤ) (v u : ℤ) → value_of t e ≡ v
    → value_of (combination (pos 1) s (negsuc 0) t) e +ℤ u ≡ value_of s e +ℤ (neg_ℤ v +ℤ u)
less_value s t e v u h = omega (arith, ints, value_of-combination (pos 1) (negsuc 0) s t e)

more_value : (s t : Linear) (e : List ℤ) (v u : ℤ) → value_of t e ≡ v
    → value_of (combination (pos 1) s (pos 1) t) e +ℤ u ≡ value_of s e +ℤ (v +ℤ u)
more_value s t e v u h = omega (arith, ints, value_of-combination (pos 1) (pos 1) s t e)

add_zero : (v : ℤ) → v ≡ v +ℤ pos 0
add_zero v = omega (arith, ints)

mutual
  unfolding next just step Reads

  pub value_is : (t : Expression) (at : List ℕ) (e : List ℤ) → Reads at e → IsPlain t → IsTermLinear t → value_of (linear_of at t).value e ≡ plain_value t e
  value_is (number v) at e r p l = value_of-number v e
  value_is (name x) at e r p l = r x
  value_is (call f ts) at e r p l = absurd p
  value_is (minus t) at e r p l = minus_value (linear_of at t).value e (plain_value t e) (value_is t at e r p l)
  value_is (total ts) at e r p l = sum_is ts at e r p l
  value_is (product s t) at e r p l =
      product_value (is_numeric s) (is_numeric t) (linear_of at s).value (linear_of at t).value e l.0 (λ q. closed_of s at q) (λ q. closed_of t at q)
      ∙ (λ i. value_is s at e r p.0 l.1 i *ℤ value_is t at e r p.1 l.2 i)
  value_is (choice f s t) at e r p l = absurd p
  value_is (absolute t) at e r p l = absurd p
  value_is (lesser s t) at e r p l = absurd p
  value_is (greater s t) at e r p l = absurd p

  sum_is : (ts : Expressions) (at : List ℕ) (e : List ℤ) → Reads at e → ArePlain ts → AreTermsLinear ts → value_of (linear_sum at ts).value e ≡ sum_of (plain_values ts e)
  sum_is no_expression at e r p l = value_of-number (pos 0) e
  sum_is (and_expression t ts) at e r p l =
      more_is ts at (linear_of at t).value e r p.1 l.1 ∙ ap (λ z. z +ℤ sum_of (plain_values ts e)) (value_is t at e r p.0 l.0)

  more_is : (ts : Expressions) (at : List ℕ) (s : Linear) (e : List ℤ) → Reads at e → ArePlain ts → AreTermsLinear ts
      → value_of (linear_more at ts s).value e ≡ value_of s e +ℤ sum_of (plain_values ts e)
  more_is no_expression at s e r p l = add_zero (value_of s e)
  more_is (and_expression (minus t) ts) at s e r p l =
      more_is ts at (combination (pos 1) s (negsuc 0) (linear_of at t).value) e r p.1 l.1
      ∙ less_value s (linear_of at t).value e (plain_value t e) (sum_of (plain_values ts e)) (value_is t at e r p.0 l.0)
  more_is (and_expression t ts) at s e r p l =
      more_is ts at (combination (pos 1) s (pos 1) (linear_of at t).value) e r p.1 l.1
      ∙ more_value s (linear_of at t).value e (plain_value t e) (sum_of (plain_values ts e)) (value_is t at e r p.0 l.0)

-- Names.

over_number : (n : ℕ) (k : ℤ) → IsOver n (linear.number k)
over_number n k = All-nil (λ (p : ℕ × ℤ). p.0 < n)

over_name : (n x : ℕ) → x < n → IsOver n (linear.name x)
over_name n x h = All-cons (λ (p : ℕ × ℤ). p.0 < n) (x, pos 1) [] h (All-nil (λ (p : ℕ × ℤ). p.0 < n))

over_named : (k m n x : ℕ) → m + n ≤ k → IsOver k (named (names_from m n) x)
over_named k m zero x h = over_number k (pos 0)
over_named k m (suc n) zero h = over_name k m (omega arith)
over_named k m (suc n) (suc x) h = over_named k (suc m) n x (omega arith)

-- each name of `at` is a term over n
AreOver : ℕ → List ℕ → Type 0
AreOver n at = (x : ℕ) → IsOver n (named at x)

over_product : (p : Bool) (k : ℕ) (a b : Linear) → IsOver k a → IsOver k b → IsOver k (product_of p a b).value
unfolding step
over_product true k a b ha hb = combination-over k a.constant (pos 0) b (linear.number (pos 0)) hb (over_number k (pos 0))
over_product false k a b ha hb = combination-over k b.constant (pos 0) a (linear.number (pos 0)) ha (over_number k (pos 0))

mutual
  unfolding next just step AreOver

  over_of : (t : Expression) (at : List ℕ) (n : ℕ) → AreOver n at → IsPlain t → IsOver n (linear_of at t).value
  over_of (number v) at n r p = over_number n v
  over_of (name x) at n r p = r x
  over_of (call f ts) at n r p = absurd p
  over_of (minus t) at n r p = combination-over n (negsuc 0) (pos 0) (linear_of at t).value (linear.number (pos 0)) (over_of t at n r p) (over_number n (pos 0))
  over_of (total ts) at n r p = over_sum ts at n r p
  over_of (product s t) at n r p = over_product (is_numeric s) n (linear_of at s).value (linear_of at t).value (over_of s at n r p.0) (over_of t at n r p.1)
  over_of (choice f s t) at n r p = absurd p
  over_of (absolute t) at n r p = absurd p
  over_of (lesser s t) at n r p = absurd p
  over_of (greater s t) at n r p = absurd p

  over_sum : (ts : Expressions) (at : List ℕ) (n : ℕ) → AreOver n at → ArePlain ts → IsOver n (linear_sum at ts).value
  over_sum no_expression at n r p = over_number n (pos 0)
  over_sum (and_expression t ts) at n r p = over_more ts at (linear_of at t).value n r p.1 (over_of t at n r p.0)

  over_more : (ts : Expressions) (at : List ℕ) (s : Linear) (n : ℕ) → AreOver n at → ArePlain ts → IsOver n s → IsOver n (linear_more at ts s).value
  over_more no_expression at s n r p h = h
  over_more (and_expression (minus t) ts) at s n r p h =
      over_more ts at (combination (pos 1) s (negsuc 0) (linear_of at t).value) n r p.1
      (combination-over n (pos 1) (negsuc 0) s (linear_of at t).value h (over_of t at n r p.0))
  over_more (and_expression t ts) at s n r p h =
      over_more ts at (combination (pos 1) s (pos 1) (linear_of at t).value) n r p.1
      (combination-over n (pos 1) (pos 1) s (linear_of at t).value h (over_of t at n r p.0))

pub over_all : (n : ℕ) (x : Expression) → IsPlain x → IsOver n (linear_of (names_from 0 n) x).value
unfolding AreOver
over_all n x p = over_of x (names_from 0 n) n (λ y. over_named n 0 n y (omega arith)) p
