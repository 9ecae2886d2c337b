-- The encoding keeps the truth of a formula, with both signs.
use Rattle.std.proofs.Common.{◌≡◌, ◌↔◌, ℕ, suc, ℤ, pos, negsuc, ◌+ℤ◌, ◌*ℤ◌, neg_ℤ, ◌≤ℤ◌, Bool, true, false, not, cond, ◌&&◌, ◌||◌, List, [], ◌∷◌, ◌++◌, length, All, unsigned_abs, refl, sym, ap, ◌∙◌, subst, arith}
use Rattle.std.specs.Int.{int_min, int_max}
use Rattle.std.specs.Cmp.{first_so, second_so}
use Rattle.std.proofs.lemmas.Int.{ints}
use Rattle.std.proofs.lemmas.List.Elements.{All-nil, All-cons}
use Rattle.base_integers.specs.Entry.{entry}
use Rattle.linear_term.specs.Linear as linear
use Rattle.linear_term.specs.Linear.{Linear, value_of, IsOver}
use Rattle.linear_term.specs.Combination.{combination}
use Rattle.linear_term.proofs.Totals.{value_of-combination, value_of-number, value_of-name}
use Rattle.linear_term.proofs.Names.{combination-over}
use Rattle.form_typed.specs.declared.typed.Relation.{Relation}
use Rattle.form_typed.specs.declared.typed.Relation.TheVariants.{Eq, Neq, Lt, Leq, Gt, Geq}
use Rattle.form_typed.specs.Formula.{Formula, Formulas, Expression, Expressions, constant, compares, applies, negation, every, some, implies, iff, for_all, for_some, part, no_formula, and_formula, number, name, call, minus, total, product, choice, absolute, lesser, greater, no_expression, and_expression}
use Rattle.form_typed.specs.Truth.{Meaning, Truth, AreAllTrue, AreAllFalse, HasValue, HaveValues, IsRelated}
use Rattle.form_typed.specs.Lists.{sum_of}
use Rattle.form_typed.proofs.Values.{value_more, value_clash, value_not, value_stable, values_clash, values_not}
use Rattle.form_typed.proofs.Stability.{truth_stable, related_opposite}
use Rattle.base_budget.specs.Trace.{Traced, just, step, next, combining}
use Rattle.formula.specs.Form.{Form, Forms, FormTruth, AreFormsTrue, AreFormsFalse, forms, values_of, holds, fails, differs, conjunction, disjunction, universal}
use Rattle.pri_typing.specs.WellFormed.{is_numeric, are_numeric}
use Rattle.form_typed.specs.declared.typed.Sort.{Sort}
use Rattle.form_encoding.proofs.Types.{bound_all, bound_some}
use Rattle.form_encoding.specs.Encoding.{named, multiple, related, signed_relation, product_of, junction, bound_by, cases, encoded, all_encoded, with_value, with_values, with_sum, with_more}
use Rattle.form_encoding.specs.Meaning.{Signed}
use Rattle.form_encoding.proofs.Products.{IsFormulaLinear, AreFormulasLinear, IsTermLinear, AreTermsLinear}
use Rattle.formula.proofs.Extending.{Extends, extends_refl, extends_trans, extends_more, entry_last, value_extends, values_extend, over_more, over_number, over_name}
use Rattle.form_encoding.proofs.Extending.{IsRead, read_extends, read_bound, value_named, over_named}
use Rattle.formula.proofs.Stability.{form_stable}
use Rattle.form_encoding.proofs.Cases.{iff_trans, moved, call_law, choice_law, absolute_law, lesser_law, greater_law}
use Rattle.form_encoding.proofs.Arithmetic.{no_test, never, difference_value, related_is, signed_related, signed_values, signed_compares, multiple_value, closed_multiple, closed_combination, product_value, product_closed, product_over}

-- What a finished term is: over the names that are bound by then, and of the same value everywhere where C holds.
pub record Finished (n : ℕ) (e : List ℤ) (m : ℕ) (e' : List ℤ) (C : Type 0) (a : Linear) : Type 0 where
  pub goes_on : Extends n e m e'
  pub over : IsOver m a
  pub closed : C → (d : List ℤ) → value_of a d ≡ a.constant

-- the rest is true exactly where the value of the finished term has the property P
abbrev pub Fits : Meaning → ℕ → List ℤ → (ℕ → Linear → Traced Form) → Type 0 → (ℤ → Type 0) → Type 0
Fits w n e rest C P = (m : ℕ) (e' : List ℤ) (a : Linear) → Finished n e m e' C a → FormTruth w (rest m a).value e' ↔ P (value_of a e')

-- the same of finished terms
abbrev pub FitsAll : Meaning → ℕ → List ℤ → (ℕ → List Linear → Traced Form) → (List ℤ → Type 0) → Type 0
FitsAll w n e rest P = (m : ℕ) (e' : List ℤ) (ls : List Linear) → Extends n e m e' → All (IsOver m) ls → FormTruth w (rest m ls).value e' ↔ P (values_of ls e')

-- Connectives and quantifiers.

-- every formula is true, or every one is false
abbrev AllSigned : Bool → Meaning → Formulas → List ℤ → Type 0
AllSigned true w fs d = AreAllTrue w fs d
AllSigned false w fs d = AreAllFalse w fs d

all_false_stable : (w : Meaning) (fs : Formulas) (d : List ℤ) → ¬ (¬ (AreAllFalse w fs d)) → AreAllFalse w fs d
all_false_stable w no_formula d h = tt
all_false_stable w (and_formula f fs) d h = (λ a. h (λ k. k.0 a), all_false_stable w fs d (λ n. h (λ k. n (k.1))))

constant_is : (w : Meaning) (at : List ℕ) (n : ℕ) (b plus : Bool) (e d : List ℤ) → FormTruth w (encoded at n plus (constant b)).value e ↔ Signed plus (Truth w (constant b) d)
unfolding just
constant_is w at n true true e d = (λ _. refl, λ _. tt)
constant_is w at n true false e d = (λ h. absurd (h tt), λ h. absurd (h refl))
constant_is w at n false true e d = (λ h. absurd (h tt), λ h. never _ h)
constant_is w at n false false e d = (λ _ h. no_test h, λ _. tt)

negation_is : (plus : Bool) (A T : Type 0) → (¬ (¬ T) → T) → A ↔ Signed (not plus) T → A ↔ Signed plus (¬ T)
negation_is true A T s h = h
negation_is false A T s h = (λ a n. n (h.0 a), λ n. h.1 (s n))

all_cons : (plus : Bool) (w : Meaning) (f : Formula) (fs : Formulas) (d : List ℤ) (A T N : Type 0) → A ↔ Signed plus (Truth w f d)
    → (T ↔ AllSigned plus w fs d) × (N ↔ AllSigned (not plus) w fs d)
    → ((A × T) ↔ AllSigned plus w (and_formula f fs) d) × (((¬ A) × N) ↔ AllSigned (not plus) w (and_formula f fs) d)
all_cons true w f fs d A T N h k = (
  (λ x. (h.0 (x.0), k.0.0 (x.1)), λ x. (h.1 (x.0), k.0.1 (x.1))),
  (λ x. (λ t. x.0 (h.1 t), k.1.0 (x.1)), λ x. (λ a. x.0 (h.0 a), k.1.1 (x.1))),
)
all_cons false w f fs d A T N h k = (
  (λ x. (h.0 (x.0), k.0.0 (x.1)), λ x. (h.1 (x.0), k.0.1 (x.1))),
  (λ x. (truth_stable w f d (λ n. x.0 (h.1 n)), k.1.0 (x.1)), λ x. (λ a. h.0 a (x.0), k.1.1 (x.1))),
)

every_is : (plus : Bool) (w : Meaning) (fs : Formulas) (gs : Forms) (e d : List ℤ)
    → (AreFormsTrue w gs e ↔ AllSigned plus w fs d) × (AreFormsFalse w gs e ↔ AllSigned (not plus) w fs d)
    → FormTruth w (junction plus gs) e ↔ Signed plus (AreAllTrue w fs d)
every_is true w fs gs e d h = h.0
every_is false w fs gs e d h = (λ n k. n (h.1.1 k), λ n k. n (h.1.0 k))

some_is : (plus : Bool) (w : Meaning) (fs : Formulas) (gs : Forms) (e d : List ℤ)
    → (AreFormsTrue w gs e ↔ AllSigned plus w fs d) × (AreFormsFalse w gs e ↔ AllSigned (not plus) w fs d)
    → FormTruth w (junction (not plus) gs) e ↔ Signed plus (¬ (AreAllFalse w fs d))
some_is true w fs gs e d h = (λ n k. n (h.1.1 k), λ n k. n (h.1.0 k))
some_is false w fs gs e d h = (λ x n. n (h.0.0 x), λ n. h.0.1 (all_false_stable w fs d n))

-- one of two is true
either : (A B : Type 0) → Type 0
either A B = ¬ ((¬ A) × ((¬ B) × Unit {0}))

implies_is : (plus : Bool) (w : Meaning) (f g : Formula) (a b : Form) (e d : List ℤ) → FormTruth w a e ↔ Signed (not plus) (Truth w f d)
    → FormTruth w b e ↔ Signed plus (Truth w g d) → FormTruth w (junction (not plus) (forms (a ∷ b ∷ []))) e ↔ Signed plus (Truth w f d → Truth w g d)
implies_is true w f g a b e d ha hb = (
  λ h t. truth_stable w g d (λ n. h (λ k. ha.0 k t, (λ k. n (hb.0 k), tt))),
  λ h n. n.0 (ha.1 (λ t. n.1.0 (hb.1 (h t)))),
)
implies_is false w f g a b e d ha hb = (
  λ h k. hb.0 (h.1.0) (k (ha.0 (h.0))),
  λ h. (ha.1 (truth_stable w f d (λ n. h (λ t. absurd (n t)))), (hb.1 (λ t. h (λ _. t)), tt)),
)

iff_is : (plus : Bool) (w : Meaning) (f g : Formula) (a b c k : Form) (e d : List ℤ) → FormTruth w a e ↔ Signed (not plus) (Truth w f d)
    → FormTruth w b e ↔ Truth w g d → FormTruth w c e ↔ Signed plus (Truth w f d) → FormTruth w k e ↔ (¬ (Truth w g d))
    → FormTruth w (conjunction (forms (disjunction (forms (a ∷ b ∷ [])) ∷ disjunction (forms (c ∷ k ∷ [])) ∷ []))) e ↔ Signed plus (Truth w (iff f g) d)
iff_is true w f g a b c k e d ha hb hc hk = (
  λ h. (
    λ t. truth_stable w g d (λ n. h.0 (λ x. ha.0 x t, (λ x. n (hb.0 x), tt))),
    λ t. truth_stable w f d (λ n. h.1.0 (λ x. n (hc.0 x), (λ x. hk.0 x t, tt))),
  ),
  λ h. (λ n. n.0 (ha.1 (λ t. n.1.0 (hb.1 (h.0 t)))), (λ n. n.1.0 (hk.1 (λ t. n.0 (hc.1 (h.1 t)))), tt)),
)
iff_is false w f g a b c k e d ha hb hc hk = (
  λ h q.
      let nf : ¬ (Truth w f d) = λ t. h.1.0 (λ x. hc.0 x t, (λ x. hk.0 x (q.0 t), tt)) in
      h.0 (λ x. nf (ha.0 x), (λ x. nf (q.1 (hb.0 x)), tt)),
  λ h. (
    λ n. h (λ t. absurd (n.0 (ha.1 t)), λ t. absurd (n.1.0 (hb.1 t))),
    (λ n. h (λ _. truth_stable w g d (λ ng. n.1.0 (hk.1 ng)), λ _. truth_stable w f d (λ nf. n.0 (hc.1 nf))), tt),
  ),
)

for_all_is : (plus : Bool) (w : Meaning) (n : ℕ) (s : Sort) (f : Formula) (body : Traced Form) (e d : List ℤ) → length e ≡ n
    → ((v : ℤ) → FormTruth w body.value (e ++ v ∷ []) ↔ Signed plus (Truth w f (d ++ v ∷ []))) → FormTruth w (bound_by plus n s body).value e ↔ Signed plus (Truth w (for_all s f) d)
unfolding next just
for_all_is true w n s f body e d long h = iff_trans _ _ _ (bound_all w n s body.value e long) (λ k v t. (h v).0 (k v t), λ k v t. (h v).1 (k v t))
for_all_is false w n s f body e d long h =
    iff_trans _ _ _ (bound_some w n s body.value e long)
    (λ m k. m (λ v t x. (h v).0 x (k v t)), λ m k. m (λ v t. truth_stable w f (d ++ v ∷ []) (λ u. k v t ((h v).1 u))))

for_some_is : (plus : Bool) (w : Meaning) (n : ℕ) (s : Sort) (f : Formula) (body : Traced Form) (e d : List ℤ) → length e ≡ n
    → ((v : ℤ) → FormTruth w body.value (e ++ v ∷ []) ↔ Signed plus (Truth w f (d ++ v ∷ []))) → FormTruth w (bound_by (not plus) n s body).value e ↔ Signed plus (Truth w (for_some s f) d)
unfolding next just
for_some_is true w n s f body e d long h =
    iff_trans _ _ _ (bound_some w n s body.value e long) (λ m k. m (λ v t x. k v t ((h v).0 x)), λ m k. m (λ v t x. k v t ((h v).1 x)))
for_some_is false w n s f body e d long h =
    iff_trans _ _ _ (bound_all w n s body.value e long) (λ k m. m (λ v t. (h v).0 (k v t)), λ m v t. (h v).1 (λ x. m (λ k. k v t x)))

predicate_is : (plus : Bool) (w : Meaning) (p : ℕ) (ls : List Linear) (e : List ℤ) (P : List ℤ → Type 0)
    → FormTruth w (cond plus (holds p ls) (fails p ls)) e ↔ Signed plus (w.truth p (values_of ls e) ≡ true)
predicate_is true w p ls e P = (λ h. h, λ h. h)
predicate_is false w p ls e P = (λ h. h, λ h. h)

cases_is : (w : Meaning) (when first unless second : Traced Form) (e : List ℤ) (G U V : Type 0) → FormTruth w when.value e ↔ G
    → FormTruth w unless.value e ↔ (¬ G) → FormTruth w first.value e ↔ U → FormTruth w second.value e ↔ V
    → FormTruth w (cases when first unless second).value e ↔ ((G → U) × (¬ G → V))
unfolding next just
cases_is w when first unless second e G U V y n a b =
    choice_law _ _ _ _ G U V y n a b (form_stable w first.value e) (form_stable w second.value e)

-- Finished terms that go on.

later_fits : (w : Meaning) (n m : ℕ) (e e' : List ℤ) (rest : ℕ → Linear → Traced Form) (C : Type 0) (P : ℤ → Type 0) → Fits w n e rest C P → Extends n e m e' → Fits w m e' rest C P
later_fits w n m e e' rest C P fit x k g a h =
    fit k g a (record { goes_on = extends_trans n m k e e' g x h.goes_on; over = h.over; closed = h.closed })

-- the rest at a finished term, of which the value is known
at_value : (w : Meaning) (n m : ℕ) (e e' : List ℤ) (rest : ℕ → Linear → Traced Form) (C : Type 0) (P : ℤ → Type 0) (a : Linear) (x : ℤ) → Fits w n e rest C P
    → Extends n e m e' → IsOver m a → (C → (d : List ℤ) → value_of a d ≡ a.constant) → value_of a e' ≡ x → FormTruth w (rest m a).value e' ↔ P x
at_value w n m e e' rest C P a x fit ext over closed is = moved _ P (value_of a e') x is (fit m e' a (record { goes_on = ext; over = over; closed = closed }))

-- the rest after a call: in the scope of the new name, the rest speaks of it
call_is : (w : Meaning) (n m f : ℕ) (e e' : List ℤ) (rest : ℕ → Linear → Traced Form) (C : Type 0) (P : ℤ → Type 0) (ls : List Linear) → (C → ⊥) → Fits w n e rest C P
    → Extends n e m e' → All (IsOver m) ls
    → FormTruth w (universal (disjunction (forms (differs f ls (linear.name m) ∷ (rest (suc m) (linear.name m)).value ∷ [])))) e' ↔ P (w.value f (values_of ls e'))
call_is w n m f e e' rest C P ls not_closed fit ext over =
    let more : (v : ℤ) → Extends m e' (suc m) (e' ++ v ∷ []) = λ v. extends_more m e' v ext.long in
    call_law P (λ v. FormTruth w (rest (suc m) (linear.name m)).value (e' ++ v ∷ [])) (w.value f (values_of ls e'))
    (λ v. w.value f (values_of ls (e' ++ v ∷ []))) (λ v. value_of (linear.name m) (e' ++ v ∷ []))
    (λ v. ap (w.value f) (values_extend m (suc m) e' (e' ++ v ∷ []) ls (more v) over))
    (λ v. value_of-name m (e' ++ v ∷ []) ∙ entry_last m e' v ext.long)
    (λ v. fit (suc m) (e' ++ v ∷ []) (linear.name m) (record {
      goes_on = extends_trans n m (suc m) e e' (e' ++ v ∷ []) ext (more v);
      over = over_name (suc m) m (omega arith);
      closed = λ c. absurd (not_closed c);
    }))
    (λ v. form_stable w (rest (suc m) (linear.name m)).value (e' ++ v ∷ []))

minus_value : (a : Linear) (e : List ℤ) → value_of (combination (negsuc 0) a (pos 0) (linear.number (pos 0))) e ≡ neg_ℤ (value_of a e)
minus_value a e = omega (arith, ints, multiple_value (negsuc 0) a e)

pub multiple_over : (n : ℕ) (k : ℤ) (a : Linear) → IsOver n a → IsOver n (combination k a (pos 0) (linear.number (pos 0)))
multiple_over n k a h = combination-over n k (pos 0) a (linear.number (pos 0)) h (over_number n (pos 0))

plus_value : (s a : Linear) (e : List ℤ) → value_of (combination (pos 1) s (pos 1) a) e ≡ value_of s e +ℤ value_of a e
plus_value s a e = omega (arith, ints, value_of-combination (pos 1) (pos 1) s a e)

sum_step : (x y z u : ℤ) → x ≡ y +ℤ z → x +ℤ u ≡ y +ℤ (z +ℤ u)
sum_step x y z u h = omega (arith, ints)

-- a property of a sum of which the first part is another number
same_sums : (w : Meaning) (ts : Expressions) (d : List ℤ) (P : ℤ → Type 0) (A : Type 0) (x : ℤ) (f : ℤ → ℤ) → ((u : ℤ) → x +ℤ u ≡ f u)
    → A ↔ HaveValues w ts d (λ xs. P (x +ℤ sum_of xs)) → A ↔ HaveValues w ts d (λ xs. P (f (sum_of xs)))
same_sums w ts d P A x f h k = subst (λ (Q : List ℤ → Type 0). A ↔ HaveValues w ts d Q) (λ i xs. P (h (sum_of xs) i)) k

-- what is to be proved of the rest of a term
abbrev ValueLaw : Meaning → Expression → List ℕ → Type 1
ValueLaw w t at = (n : ℕ) (rest : ℕ → Linear → Traced Form) (C : Type 0) (P : ℤ → Type 0) (e d : List ℤ) → IsRead at n e d
    → (C → is_numeric t ≡ true) → Fits w n e rest C P → FormTruth w (with_value at t n rest).value e ↔ HasValue w t d P

-- the rest of two terms
two_are : (w : Meaning) (s t : Expression) (at : List ℕ) → ValueLaw w s at → ValueLaw w t at → (n : ℕ) (rest : ℕ → Linear → Linear → Traced Form) (P : ℤ → ℤ → Type 0) (e d : List ℤ) → IsRead at n e d
    → ((k : ℕ) (g : List ℤ) (a b : Linear) (x : ℤ) → Extends n e k g → IsOver k a → IsOver k b → value_of a g ≡ x → FormTruth w (rest k a b).value g ↔ P x (value_of b g))
    → FormTruth w (with_value at s n (λ m a. with_value at t m (λ k b. rest k a b))).value e ↔ HasValue w s d (λ x. HasValue w t d (λ y. P x y))
two_are w s t at ls lt n rest P e d r fit =
    ls n _ (is_numeric s ≡ true) (λ x. HasValue w t d (λ y. P x y)) e d r (λ h. h)
    (λ m e' a fa. lt m _ (is_numeric t ≡ true) (λ y. P (value_of a e') y) e' d (read_extends at n m e e' d r fa.goes_on) (λ h. h)
    (λ k g b fb. fit k g a b (value_of a e') (extends_trans n m k e e' g fa.goes_on fb.goes_on) (over_more m k a fb.goes_on.longer fa.over) fb.over (value_extends m k e' g a fb.goes_on fa.over)))

-- What every integer has, the value has; and what the value has that does not speak of it, is so.

always : (w : Meaning) (t : Expression) (d : List ℤ) (P : ℤ → Type 0) → ((v : ℤ) → P v) → HasValue w t d P
always w t d P h = value_not w t d (λ v. ⊥) P (λ v _. h v) (λ k. value_clash w t d (λ v. ⊥) (λ v. ⊥) (λ v x y. x) k k)

unchanged : (w : Meaning) (t : Expression) (d : List ℤ) (A : Type 0) → (¬ (¬ A) → A) → HasValue w t d (λ v. A) → A
unchanged w t d A s h = s (λ n. value_clash w t d (λ v. A) (λ v. ¬ A) (λ v a k. k a) h (always w t d (λ v. ¬ A) (λ v. n)))

-- the value of a term with a condition, both of whose terms have values
choice_values : (w : Meaning) (s t : Expression) (d : List ℤ) (F : Type 0) (P : ℤ → Type 0) → ((v : ℤ) → ¬ (¬ (P v)) → P v)
    → HasValue w s d (λ x. HasValue w t d (λ y. (F → P x) × (¬ F → P y))) ↔ ((F → HasValue w s d P) × (¬ F → HasValue w t d P))
choice_values w s t d F P st =
    let R : ℤ → ℤ → Type 0 = λ x y. (F → P x) × (¬ F → P y) in
    let Q : ℤ → Type 0 = λ x. HasValue w t d (R x) in
    let sr : (x y : ℤ) → ¬ (¬ (R x y)) → R x y = λ x y n. (λ f. st x (λ m. n (λ r. m (r.0 f))), λ g. st y (λ m. n (λ r. m (r.1 g)))) in
    let sq : (x : ℤ) → ¬ (¬ (Q x)) → Q x = λ x. value_stable w t d (R x) (sr x) in (
      λ h. (
        λ f. value_more w s d Q P (λ x k. unchanged w t d (P x) (st x) (value_more w t d (R x) (λ _. P x) (λ y q. q.0 f) k)) h,
        λ g. unchanged w s d (HasValue w t d P) (value_stable w t d P st) (value_more w s d Q (λ _. HasValue w t d P) (λ x k. value_more w t d (R x) P (λ y q. q.1 g) k) h),
      ),
      λ h. value_stable w s d Q sq (λ n.
          let g : ¬ F = λ f. n (value_more w s d P Q (λ x p. always w t d (R x) (λ y. (λ _. p, λ m. absurd (m f)))) (h.0 f)) in
          n (always w s d Q (λ x. value_more w t d P (R x) (λ y p. (λ f. absurd (g f), λ _. p)) (h.1 g)))),
    )

-- a property that a rest fits is stable
fits_stable : (w : Meaning) (n : ℕ) (e : List ℤ) (rest : ℕ → Linear → Traced Form) (C : Type 0) (P : ℤ → Type 0) → length e ≡ n → Fits w n e rest C P
    → (v : ℤ) → ¬ (¬ (P v)) → P v
fits_stable w n e rest C P long fit v h =
    let there = moved _ P (value_of (linear.number v) e) v (value_of-number v e) (fit n e (linear.number v) (record { goes_on = extends_refl n e long; over = over_number n v; closed = λ _ g. value_of-number v g })) in
    there.0 (form_stable w (rest n (linear.number v)).value e (λ m. h (λ p. m (there.1 p))))

mutual
  unfolding next just step

  pub encoded_is : (w : Meaning) (f : Formula) (at : List ℕ) (n : ℕ) (plus : Bool) (e d : List ℤ) (X : Type 0) → IsRead at n e d → IsFormulaLinear f
      → FormTruth w (encoded at n plus f).value e ↔ Signed plus (Truth w f d)
  encoded_is w (constant b) at n plus e d X r l = constant_is w at n b plus e d
  encoded_is w (compares q s t) at n plus e d X r l =
      iff_trans _ _ _
      (value_is w s at n _ (is_numeric s ≡ true) (λ x. HasValue w t d (λ y. Signed plus (IsRelated q x y))) e d r (l.0) (λ h. h)
      (λ m e' a fa. value_is w t at m _ (is_numeric t ≡ true) (λ y. Signed plus (IsRelated q (value_of a e') y)) e' d (read_extends at n m e e' d r fa.goes_on) (l.1) (λ h. h)
      (λ k g b fb. subst (λ z. FormTruth w (related (signed_relation plus q) a b).value g ↔ Signed plus (IsRelated q z (value_of b g))) (value_extends m k e' g a fb.goes_on fa.over)
      (iff_trans _ _ _ (related_is w (signed_relation plus q) a b g) (signed_related plus q (value_of a g) (value_of b g))))))
      (signed_compares w s t d plus q)
  encoded_is w (applies p ts) at n plus e d X r l =
      iff_trans _ _ _
      (values_are w ts at n _ (λ xs. Signed plus (w.truth p xs ≡ true)) e d r l (λ m e' ls ext over. predicate_is plus w p ls e' (λ xs. Unit {0})))
      (signed_values w ts d plus (λ xs. w.truth p xs ≡ true))
  encoded_is w (negation f) at n plus e d X r l = negation_is plus _ (Truth w f d) (truth_stable w f d) (encoded_is w f at n (not plus) e d X r l)
  encoded_is w (every fs) at n plus e d X r l = every_is plus w fs (all_encoded at n plus fs).value e d (all_encoded_are w fs at n plus e d X r l)
  encoded_is w (some fs) at n plus e d X r l = some_is plus w fs (all_encoded at n plus fs).value e d (all_encoded_are w fs at n plus e d X r l)
  encoded_is w (implies f g) at n plus e d X r l =
      implies_is plus w f g (encoded at n (not plus) f).value (encoded at n plus g).value e d (encoded_is w f at n (not plus) e d X r (l.0)) (encoded_is w g at n plus e d X r (l.1))
  encoded_is w (iff f g) at n plus e d X r l =
      iff_is plus w f g (encoded at n (not plus) f).value (encoded at n true g).value (encoded at n plus f).value (encoded at n false g).value e d
      (encoded_is w f at n (not plus) e d X r (l.0)) (encoded_is w g at n true e d X r (l.1)) (encoded_is w f at n plus e d X r (l.0)) (encoded_is w g at n false e d X r (l.1))
  encoded_is w (for_all s f) at n plus e d X r l =
      for_all_is plus w n s f (encoded (at ++ n ∷ []) (suc n) plus f) e d r.long (λ v. encoded_is w f (at ++ n ∷ []) (suc n) plus (e ++ v ∷ []) (d ++ v ∷ []) X (read_bound at n e d v r) l)
  encoded_is w (for_some s f) at n plus e d X r l =
      for_some_is plus w n s f (encoded (at ++ n ∷ []) (suc n) plus f) e d r.long (λ v. encoded_is w f (at ++ n ∷ []) (suc n) plus (e ++ v ∷ []) (d ++ v ∷ []) X (read_bound at n e d v r) l)
  encoded_is w (part k f) at n plus e d X r l = encoded_is w f at n plus e d X r l

  pub all_encoded_are : (w : Meaning) (fs : Formulas) (at : List ℕ) (n : ℕ) (plus : Bool) (e d : List ℤ) (X : Type 0) → IsRead at n e d → AreFormulasLinear fs
      → (AreFormsTrue w (all_encoded at n plus fs).value e ↔ AllSigned plus w fs d) × (AreFormsFalse w (all_encoded at n plus fs).value e ↔ AllSigned (not plus) w fs d)
  all_encoded_are w no_formula at n true e d X r l = ((λ h. h, λ h. h), (λ h. h, λ h. h))
  all_encoded_are w no_formula at n false e d X r l = ((λ h. h, λ h. h), (λ h. h, λ h. h))
  all_encoded_are w (and_formula f fs) at n plus e d X r l =
      all_cons plus w f fs d _ _ _ (encoded_is w f at n plus e d X r (l.0)) (all_encoded_are w fs at n plus e d X r (l.1))

  -- the rest of a term is true exactly where the value of the term has the property
  pub value_is : (w : Meaning) (t : Expression) (at : List ℕ) (n : ℕ) (rest : ℕ → Linear → Traced Form) (C : Type 0) (P : ℤ → Type 0) (e d : List ℤ) → IsRead at n e d → IsTermLinear t
      → (C → is_numeric t ≡ true) → Fits w n e rest C P → FormTruth w (with_value at t n rest).value e ↔ HasValue w t d P
  value_is w (number v) at n rest C P e d r l c fit =
      at_value w n n e e rest C P (linear.number v) v fit (extends_refl n e r.long) (over_number n v) (λ _ g. value_of-number v g) (value_of-number v e)
  value_is w (name x) at n rest C P e d r l c fit =
      at_value w n n e e rest C P (named at x) (entry d x) fit (extends_refl n e r.long) (over_named at n x e d r) (λ q. never _ (c q)) (value_named at n x e d r)
  value_is w (call f ts) at n rest C P e d r l c fit =
      values_are w ts at n _ (λ xs. P (w.value f xs)) e d r l
      (λ m e' ls ext over. call_is w n m f e e' rest C P ls (λ q. no_test (c q)) fit ext over)
  value_is w (minus t) at n rest C P e d r l c fit =
      value_is w t at n _ C (λ x. P (neg_ℤ x)) e d r l c
      (λ m e' a fa. at_value w n m e e' rest C P (combination (negsuc 0) a (pos 0) (linear.number (pos 0))) (neg_ℤ (value_of a e')) fit fa.goes_on (multiple_over m (negsuc 0) a fa.over)
      (λ q. closed_multiple (negsuc 0) a (fa.closed q)) (minus_value a e'))
  value_is w (total ts) at n rest C P e d r l c fit = sum_is w ts at n rest C P e d r l c fit
  value_is w (product s t) at n rest C P e d r l c fit =
      value_is w s at n _ (is_numeric s ≡ true) (λ x. HasValue w t d (λ y. P (x *ℤ y))) e d r (l.1) (λ h. h)
      (λ m e' a fa. value_is w t at m _ (is_numeric t ≡ true) (λ y. P (value_of a e' *ℤ y)) e' d (read_extends at n m e e' d r fa.goes_on) (l.2) (λ h. h)
      (λ k g b fb.
      let same : value_of a g ≡ value_of a e' = value_extends m k e' g a fb.goes_on fa.over in
      at_value w n k e g rest C P (product_of (is_numeric s) a b).value (value_of a e' *ℤ value_of b g) fit (extends_trans n m k e e' g fa.goes_on fb.goes_on)
      (product_over (is_numeric s) k a b (over_more m k a fb.goes_on.longer fa.over) fb.over)
      (λ q. product_closed (is_numeric s) (is_numeric t) a b fa.closed fb.closed (c q))
      (product_value (is_numeric s) (is_numeric t) a b g (l.0) fa.closed fb.closed ∙ ap (λ z. z *ℤ value_of b g) same)))
  value_is w (choice f s t) at n rest C P e d r l c fit =
      iff_trans _ _ _
      (two_are w s t at (λ n rest C P e d r c fit. value_is w s at n rest C P e d r (l.1) c fit) (λ n rest C P e d r c fit. value_is w t at n rest C P e d r (l.2) c fit) n _ (λ x y. (Truth w f d → P x) × (¬ (Truth w f d) → P y)) e d r
      (λ k g a b x ext oa ob va.
      cases_is w (encoded at k true f) (rest k a) (encoded at k false f) (rest k b) g (Truth w f d) (P x) (P (value_of b g))
      (encoded_is w f at k true g d C (read_extends at n k e g d r ext) (l.0)) (encoded_is w f at k false g d C (read_extends at n k e g d r ext) (l.0))
      (at_value w n k e g rest C P a x fit ext oa (λ q. never _ (c q)) va) (at_value w n k e g rest C P b (value_of b g) fit ext ob (λ q. never _ (c q)) refl)))
      (choice_values w s t d (Truth w f d) P (fits_stable w n e rest C P r.long fit))
  value_is w (absolute t) at n rest C P e d r l c fit =
      value_is w t at n _ (is_numeric t ≡ true) (λ x. P (pos (unsigned_abs x))) e d r l (λ h. h)
      (λ m e' a fa.
      let zero_is = value_of-number (pos 0) e' in
      iff_trans _ _ _
      (cases_is w (related Geq a (linear.number (pos 0))) (rest m a) (related Lt a (linear.number (pos 0))) (next (multiple (negsuc 0) a) (rest m)) e' (pos 0 ≤ℤ value_of a e') (P (value_of a e')) (P (neg_ℤ (value_of a e')))
      (subst (λ z. FormTruth w (related Geq a (linear.number (pos 0))).value e' ↔ (z ≤ℤ value_of a e')) zero_is (related_is w Geq a (linear.number (pos 0)) e'))
      (subst (λ z. FormTruth w (related Lt a (linear.number (pos 0))).value e' ↔ (¬ (z ≤ℤ value_of a e'))) zero_is (iff_trans _ _ _ (related_is w Lt a (linear.number (pos 0)) e') (related_opposite Geq (value_of a e') _)))
      (at_value w n m e e' rest C P a (value_of a e') fit fa.goes_on fa.over (λ q. never _ (c q)) refl)
      (at_value w n m e e' rest C P (combination (negsuc 0) a (pos 0) (linear.number (pos 0))) (neg_ℤ (value_of a e')) fit fa.goes_on (multiple_over m (negsuc 0) a fa.over) (λ q. never _ (c q)) (minus_value a e')))
      (absolute_law P (value_of a e')))
  value_is w (lesser s t) at n rest C P e d r l c fit =
      two_are w s t at (λ n rest C P e d r c fit. value_is w s at n rest C P e d r (l.0) c fit) (λ n rest C P e d r c fit. value_is w t at n rest C P e d r (l.1) c fit) n _ (λ x y. P (int_min x y)) e d r
      (λ k g a b x ext oa ob va.
      iff_trans _ _ _
      (cases_is w (related Leq a b) (rest k a) (related Gt a b) (rest k b) g (x ≤ℤ value_of b g) (P x) (P (value_of b g))
      (subst (λ z. FormTruth w (related Leq a b).value g ↔ (z ≤ℤ value_of b g)) va (related_is w Leq a b g))
      (subst (λ z. FormTruth w (related Gt a b).value g ↔ (¬ (z ≤ℤ value_of b g))) va (iff_trans _ _ _ (related_is w Gt a b g) (related_opposite Leq (value_of a g) (value_of b g))))
      (at_value w n k e g rest C P a x fit ext oa (λ q. never _ (c q)) va) (at_value w n k e g rest C P b (value_of b g) fit ext ob (λ q. never _ (c q)) refl))
      (lesser_law P x (value_of b g)))
  value_is w (greater s t) at n rest C P e d r l c fit =
      two_are w s t at (λ n rest C P e d r c fit. value_is w s at n rest C P e d r (l.0) c fit) (λ n rest C P e d r c fit. value_is w t at n rest C P e d r (l.1) c fit) n _ (λ x y. P (int_max x y)) e d r
      (λ k g a b x ext oa ob va.
      iff_trans _ _ _
      (cases_is w (related Geq a b) (rest k a) (related Lt a b) (rest k b) g (value_of b g ≤ℤ x) (P x) (P (value_of b g))
      (subst (λ z. FormTruth w (related Geq a b).value g ↔ (value_of b g ≤ℤ z)) va (related_is w Geq a b g))
      (subst (λ z. FormTruth w (related Lt a b).value g ↔ (¬ (value_of b g ≤ℤ z))) va (iff_trans _ _ _ (related_is w Lt a b g) (related_opposite Geq (value_of a g) (value_of b g))))
      (at_value w n k e g rest C P a x fit ext oa (λ q. never _ (c q)) va) (at_value w n k e g rest C P b (value_of b g) fit ext ob (λ q. never _ (c q)) refl))
      (greater_law P x (value_of b g)))

  pub values_are : (w : Meaning) (ts : Expressions) (at : List ℕ) (n : ℕ) (rest : ℕ → List Linear → Traced Form) (P : List ℤ → Type 0) (e d : List ℤ) → IsRead at n e d → AreTermsLinear ts
      → FitsAll w n e rest P → FormTruth w (with_values at ts n rest).value e ↔ HaveValues w ts d P
  values_are w no_expression at n rest P e d r l fit = fit n e [] (extends_refl n e r.long) (All-nil (IsOver n))
  values_are w (and_expression t ts) at n rest P e d r l fit =
      value_is w t at n _ (is_numeric t ≡ true) (λ x. HaveValues w ts d (λ xs. P (x ∷ xs))) e d r (l.0) (λ h. h)
      (λ m e' a fa. values_are w ts at m _ (λ xs. P (value_of a e' ∷ xs)) e' d (read_extends at n m e e' d r fa.goes_on) (l.1)
      (λ k g ls ext over. subst (λ z. FormTruth w (rest k (a ∷ ls)).value g ↔ P (z ∷ values_of ls g)) (value_extends m k e' g a ext fa.over)
      (fit k g (a ∷ ls) (extends_trans n m k e e' g fa.goes_on ext) (All-cons (IsOver k) a ls (over_more m k a ext.longer fa.over) over))))

  sum_is : (w : Meaning) (ts : Expressions) (at : List ℕ) (n : ℕ) (rest : ℕ → Linear → Traced Form) (C : Type 0) (P : ℤ → Type 0) (e d : List ℤ) → IsRead at n e d → AreTermsLinear ts
      → (C → are_numeric ts ≡ true) → Fits w n e rest C P → FormTruth w (with_sum at ts n rest).value e ↔ HaveValues w ts d (λ xs. P (sum_of xs))
  sum_is w no_expression at n rest C P e d r l c fit =
      at_value w n n e e rest C P (linear.number (pos 0)) (pos 0) fit (extends_refl n e r.long) (over_number n (pos 0)) (λ _ g. value_of-number (pos 0) g) (value_of-number (pos 0) e)
  sum_is w (and_expression t ts) at n rest C P e d r l c fit =
      value_is w t at n _ C (λ x. HaveValues w ts d (λ xs. P (x +ℤ sum_of xs))) e d r (l.0) (λ h. first_so (is_numeric t) (are_numeric ts) (c h))
      (λ m e' a fa. more_is w ts at m a rest C P e' d (read_extends at n m e e' d r fa.goes_on) (l.1) (λ h. second_so (is_numeric t) (are_numeric ts) (c h)) fa.over fa.closed (later_fits w n m e e' rest C P fit fa.goes_on))

  more_is : (w : Meaning) (ts : Expressions) (at : List ℕ) (n : ℕ) (s : Linear) (rest : ℕ → Linear → Traced Form) (C : Type 0) (P : ℤ → Type 0) (e d : List ℤ) → IsRead at n e d → AreTermsLinear ts
      → (C → are_numeric ts ≡ true) → IsOver n s → (C → (g : List ℤ) → value_of s g ≡ s.constant) → Fits w n e rest C P
      → FormTruth w (with_more at ts n s rest).value e ↔ HaveValues w ts d (λ xs. P (value_of s e +ℤ sum_of xs))
  more_is w no_expression at n s rest C P e d r l c os cs fit =
      at_value w n n e e rest C P s (value_of s e +ℤ pos 0) fit (extends_refl n e r.long) os cs (omega (arith, ints))
  more_is w (and_expression (minus t) ts) at n s rest C P e d r l c os cs fit =
      value_is w t at n _ C (λ x. HaveValues w ts d (λ xs. P (value_of s e +ℤ (neg_ℤ x +ℤ sum_of xs)))) e d r (l.0) (λ h. first_so (is_numeric t) (are_numeric ts) (c h))
      (λ m e' a fa.
      let same : value_of s e' ≡ value_of s e = value_extends n m e e' s fa.goes_on os in
      same_sums w ts d P _ (value_of (combination (pos 1) s (negsuc 0) a) e') (λ u. value_of s e +ℤ (neg_ℤ (value_of a e') +ℤ u))
      (λ u. sum_step _ (value_of s e) (neg_ℤ (value_of a e')) u (difference_value s a e' ∙ ap (λ z. z +ℤ neg_ℤ (value_of a e')) same))
      (more_is w ts at m (combination (pos 1) s (negsuc 0) a) rest C P e' d (read_extends at n m e e' d r fa.goes_on) (l.1) (λ h. second_so (is_numeric t) (are_numeric ts) (c h))
      (combination-over m (pos 1) (negsuc 0) s a (over_more n m s fa.goes_on.longer os) fa.over)
      (λ q. closed_combination (pos 1) (negsuc 0) s a (cs q) (fa.closed q)) (later_fits w n m e e' rest C P fit fa.goes_on)))
  more_is w (and_expression t ts) at n s rest C P e d r l c os cs fit =
      value_is w t at n (λ m a. next (combining (pos 1) s (pos 1) a) (λ z. with_more at ts m z rest)) C (λ x. HaveValues w ts d (λ xs. P (value_of s e +ℤ (x +ℤ sum_of xs)))) e d r (l.0) (λ h. first_so (is_numeric t) (are_numeric ts) (c h))
      (λ m e' a fa.
      let same : value_of s e' ≡ value_of s e = value_extends n m e e' s fa.goes_on os in
      same_sums w ts d P _ (value_of (combination (pos 1) s (pos 1) a) e') (λ u. value_of s e +ℤ (value_of a e' +ℤ u))
      (λ u. sum_step _ (value_of s e) (value_of a e') u (plus_value s a e' ∙ ap (λ z. z +ℤ value_of a e') same))
      (more_is w ts at m (combination (pos 1) s (pos 1) a) rest C P e' d (read_extends at n m e e' d r fa.goes_on) (l.1) (λ h. second_so (is_numeric t) (are_numeric ts) (c h))
      (combination-over m (pos 1) (pos 1) s a (over_more n m s fa.goes_on.longer os) fa.over)
      (λ q. closed_combination (pos 1) (pos 1) s a (cs q) (fa.closed q)) (later_fits w n m e e' rest C P fit fa.goes_on)))
