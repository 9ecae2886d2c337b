-- Relations and products of finished terms.
use Rattle.std.proofs.Common.{◌≡◌, ◌↔◌, ℕ, suc, ℤ, pos, negsuc, ◌+ℤ◌, ◌*ℤ◌, neg_ℤ, ◌≤ℤ◌, Bool, true, false, not, cond, ◌&&◌, ◌||◌, List, [], ◌∷◌, ◌++◌, length, All, unsigned_abs, refl, sym, ap, ◌∙◌, subst, arith}
use Rattle.std.specs.Int.{int_min, int_max}
use Rattle.std.specs.Cmp.{first_so, second_so}
use Rattle.std.proofs.lemmas.Int.{ints}
use Rattle.std.proofs.lemmas.List.Elements.{All-nil, All-cons}
use Rattle.base_integers.specs.Entry.{entry}
use Rattle.linear_term.specs.Linear as linear
use Rattle.linear_term.specs.Linear.{Linear, value_of, IsOver}
use Rattle.linear_term.specs.Combination.{combination}
use Rattle.linear_term.proofs.Totals.{value_of-combination, value_of-number, value_of-name}
use Rattle.linear_term.proofs.Names.{combination-over}
use Rattle.form_typed.specs.declared.typed.Relation.{Relation}
use Rattle.form_typed.specs.declared.typed.Relation.TheVariants.{Eq, Neq, Lt, Leq, Gt, Geq}
use Rattle.form_typed.specs.Formula.{Formula, Formulas, Expression, Expressions, constant, compares, applies, negation, every, some, implies, iff, for_all, for_some, part, no_formula, and_formula, number, name, call, minus, total, product, choice, absolute, lesser, greater, no_expression, and_expression}
use Rattle.form_typed.specs.Truth.{Meaning, Truth, AreAllTrue, AreAllFalse, HasValue, HaveValues, IsRelated}
use Rattle.form_typed.specs.Lists.{sum_of}
use Rattle.form_typed.proofs.Values.{value_more, value_clash, value_not, value_stable, values_clash, values_not}
use Rattle.form_typed.proofs.Stability.{truth_stable, related_opposite}
use Rattle.base_budget.specs.Trace.{Traced, just, step, next, combining}
use Rattle.formula.specs.Form.{Form, Forms, FormTruth, AreFormsTrue, AreFormsFalse, forms, values_of, holds, fails, differs, conjunction, disjunction, universal}
use Rattle.pri_typing.specs.WellFormed.{is_numeric, are_numeric}
use Rattle.form_encoding.specs.Encoding.{named, multiple, related, signed_relation, product_of, junction, quantified, cases, encoded, all_encoded, with_value, with_values, with_sum, with_more}
use Rattle.form_encoding.specs.Meaning.{Signed}
use Rattle.form_encoding.proofs.Products.{IsFormulaLinear, AreFormulasLinear, IsTermLinear, AreTermsLinear}
use Rattle.formula.proofs.Extending.{Extends, extends_refl, extends_trans, extends_more, entry_last, value_extends, values_extend, over_more, over_number, over_name}
use Rattle.form_encoding.proofs.Extending.{IsRead, read_extends, read_bound, value_named, over_named}
use Rattle.formula.proofs.Stability.{form_stable}
use Rattle.form_encoding.proofs.Cases.{iff_trans, moved, call_law, choice_law, absolute_law, lesser_law, greater_law}

pub no_test : false ≡ true → ⊥
no_test h = cc

pub never : (A : Type 0) → false ≡ true → A
never A h = absurd (no_test h)

-- Relations of finished terms.

pub difference_value : (s t : Linear) (e : List ℤ) → value_of (combination (pos 1) s (negsuc 0) t) e ≡ value_of s e +ℤ neg_ℤ (value_of t e)
difference_value s t e = omega (arith, ints, value_of-combination (pos 1) (negsuc 0) s t e)

pub less_one_value : (s t : Linear) (e : List ℤ) → value_of (combination (pos 1) (combination (pos 1) s (negsuc 0) t) (pos 1) (linear.number (negsuc 0))) e ≡ (value_of s e +ℤ neg_ℤ (value_of t e)) +ℤ negsuc 0
less_one_value s t e = omega (arith, ints, value_of-combination (pos 1) (pos 1) (combination (pos 1) s (negsuc 0) t) (linear.number (negsuc 0)) e, difference_value s t e, value_of-number (negsuc 0) e)

pub related_is : (w : Meaning) (r : Relation) (s t : Linear) (e : List ℤ) → FormTruth w (related r s t).value e ↔ IsRelated r (value_of s e) (value_of t e)
unfolding next step just
related_is w Eq s t e = let v = difference_value s t e in (λ h. omega (arith, ints), λ h. omega (arith, ints))
related_is w Neq s t e = let v = difference_value s t e in (λ h k. h (omega (arith, ints)), λ h k. h (omega (arith, ints)))
related_is w Geq s t e = let v = difference_value s t e in (λ h. omega (arith, ints), λ h. omega (arith, ints))
related_is w Gt s t e = let v = less_one_value s t e in (λ h. omega (arith, ints), λ h. omega (arith, ints))
related_is w Leq s t e = let v = difference_value t s e in (λ h. omega (arith, ints), λ h. omega (arith, ints))
related_is w Lt s t e = let v = less_one_value t s e in (λ h. omega (arith, ints), λ h. omega (arith, ints))

pub signed_related : (plus : Bool) (r : Relation) (x y : ℤ) → IsRelated (signed_relation plus r) x y ↔ Signed plus (IsRelated r x y)
signed_related true r x y = (λ h. h, λ h. h)
signed_related false r x y = related_opposite r x y

-- A value has not a property exactly where it has the negation.

pub signed_value : (w : Meaning) (t : Expression) (d : List ℤ) (plus : Bool) (Q : ℤ → Type 0) → HasValue w t d (λ x. Signed plus (Q x)) ↔ Signed plus (HasValue w t d Q)
signed_value w t d true Q = (λ h. h, λ h. h)
signed_value w t d false Q = (λ h k. value_clash w t d Q (λ x. ¬ (Q x)) (λ x q n. n q) k h, λ h. value_not w t d Q (λ x. ¬ (Q x)) (λ x n. n) h)

pub signed_values : (w : Meaning) (ts : Expressions) (d : List ℤ) (plus : Bool) (Q : List ℤ → Type 0) → HaveValues w ts d (λ xs. Signed plus (Q xs)) ↔ Signed plus (HaveValues w ts d Q)
signed_values w ts d true Q = (λ h. h, λ h. h)
signed_values w ts d false Q = (λ h k. values_clash w ts d Q (λ x. ¬ (Q x)) (λ x q n. n q) k h, λ h. values_not w ts d Q (λ x. ¬ (Q x)) (λ x n. n) h)

pub signed_compares : (w : Meaning) (s t : Expression) (d : List ℤ) (plus : Bool) (r : Relation)
    → HasValue w s d (λ x. HasValue w t d (λ y. Signed plus (IsRelated r x y))) ↔ Signed plus (Truth w (compares r s t) d)
signed_compares w s t d plus r =
    let Q : ℤ → Type 0 = λ x. HasValue w t d (λ y. IsRelated r x y) in
    iff_trans _ _ _ (
      value_more w s d _ (λ x. Signed plus (Q x)) (λ x. (signed_value w t d plus (λ y. IsRelated r x y)).0),
      value_more w s d (λ x. Signed plus (Q x)) _ (λ x. (signed_value w t d plus (λ y. IsRelated r x y)).1),
    )
    (signed_value w s d plus Q)

-- Products.

pub multiple_value : (k : ℤ) (t : Linear) (e : List ℤ) → value_of (combination k t (pos 0) (linear.number (pos 0))) e ≡ k *ℤ value_of t e
multiple_value k t e = omega (arith, ints, value_of-combination k (pos 0) t (linear.number (pos 0)) e)

pub multiple_constant : (k : ℤ) (t : Linear) → (combination k t (pos 0) (linear.number (pos 0))).constant ≡ k *ℤ t.constant
unfolding combination
multiple_constant k t = omega (arith, ints)

pub closed_multiple : (k : ℤ) (t : Linear) → ((d : List ℤ) → value_of t d ≡ t.constant)
    → (d : List ℤ) → value_of (combination k t (pos 0) (linear.number (pos 0))) d ≡ (combination k t (pos 0) (linear.number (pos 0))).constant
closed_multiple k t h d = multiple_value k t d ∙ ap (λ z. k *ℤ z) (h d) ∙ sym (multiple_constant k t)

pub combination_constant : (m n : ℤ) (s t : Linear) → (combination m s n t).constant ≡ (m *ℤ s.constant) +ℤ (n *ℤ t.constant)
unfolding combination
combination_constant m n s t = refl

pub closed_combination : (m n : ℤ) (s t : Linear) → ((d : List ℤ) → value_of s d ≡ s.constant) → ((d : List ℤ) → value_of t d ≡ t.constant)
    → (d : List ℤ) → value_of (combination m s n t) d ≡ (combination m s n t).constant
closed_combination m n s t h k d =
    value_of-combination m n s t d ∙ (λ i. (m *ℤ h d i) +ℤ (n *ℤ k d i)) ∙ sym (combination_constant m n s t)

pub product_value : (p q : Bool) (a b : Linear) (e : List ℤ) → (p || q) ≡ true → (p ≡ true → (d : List ℤ) → value_of a d ≡ a.constant)
    → (q ≡ true → (d : List ℤ) → value_of b d ≡ b.constant) → value_of (product_of p a b).value e ≡ value_of a e *ℤ value_of b e
unfolding step
product_value true q a b e one ha hb = multiple_value a.constant b e ∙ ap (λ z. z *ℤ value_of b e) (sym (ha refl e))
product_value false true a b e one ha hb =
    let is : value_of b e ≡ b.constant = hb refl e in
    multiple_value b.constant a e ∙ ap (λ z. z *ℤ value_of a e) (sym is) ∙ (omega (arith, ints))
product_value false false a b e one ha hb = never _ one

pub product_closed : (p q : Bool) (a b : Linear) → (p ≡ true → (d : List ℤ) → value_of a d ≡ a.constant)
    → (q ≡ true → (d : List ℤ) → value_of b d ≡ b.constant) → (p && q) ≡ true → (d : List ℤ) → value_of (product_of p a b).value d ≡ (product_of p a b).value.constant
unfolding step
product_closed true q a b ha hb both d = closed_multiple a.constant b (hb both) d
product_closed false q a b ha hb both d = never _ both

pub product_over : (p : Bool) (k : ℕ) (a b : Linear) → IsOver k a → IsOver k b → IsOver k (product_of p a b).value
unfolding step
product_over true k a b ha hb = combination-over k a.constant (pos 0) b (linear.number (pos 0)) hb (over_number k (pos 0))
product_over false k a b ha hb = combination-over k b.constant (pos 0) a (linear.number (pos 0)) ha (over_number k (pos 0))
