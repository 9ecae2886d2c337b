-- The bounds of a type say which integers are its values, and a quantifier with them ranges over those.
use Rattle.std.proofs.Common.{◌≡◌, ◌↔◌, ℕ, zero, suc, ◌+◌, ◌<◌, ℤ, pos, negsuc, ◌+ℤ◌, ◌*ℤ◌, neg_ℤ, ◌≤ℤ◌, ◌<ℤ◌, Bool, true, false, not, cond, ◌&&◌, List, [], ◌∷◌, ◌++◌, length, refl, sym, ap, ◌∙◌, subst, arith}
use Rattle.std.proofs.lemmas.Int.{ints}
use Rattle.base_integers.specs.Entry.{entry}
use Rattle.linear_term.specs.Linear as linear
use Rattle.linear_term.specs.Linear.{Linear, value_of, IsOver}
use Rattle.linear_term.specs.Combination.{combination}
use Rattle.linear_term.proofs.Totals.{value_of-combination, value_of-number, value_of-name}
use Rattle.linear_term.proofs.Names.{combination-over}
use Rattle.form_typed.specs.declared.typed.Sort.{Sort}
use Rattle.form_typed.specs.declared.typed.Sort.TheVariants.{Int, Nat, Range}
use Rattle.form_typed.specs.declared.typed.Relation.TheVariants.{Leq}
use Rattle.form_typed.specs.Sorts.{IsValueOf}
use Rattle.form_typed.specs.Truth.{Meaning}
use Rattle.form_typed.proofs.Stability.{related_stable, related_opposite}
use Rattle.base_budget.specs.Trace.{Traced, just, step, next, combining}
use Rattle.formula.specs.Form.{Form, Forms, FormTruth, AreFormsTrue, AreFormsFalse, IsFormOver, AreFormsOver, is_pure, are_pure, forms, at_least, no_form}
use Rattle.formula.proofs.Extending.{entry_last, over_number, over_name, over_more}
use Rattle.formula.proofs.Stability.{form_stable}
use Rattle.form_encoding.specs.Encoding.{SortBound, least, greatest, bounds, inequality, within, outside, limits, restricted, quantified, bound_by, junction}
use Rattle.form_encoding.specs.Extent.{Extent, leaf, nothing, beside, above, behind_atoms, restricted_extent, measured, all_measured}
use Rattle.form_encoding.proofs.Cases.{iff_trans}

-- Bounds of an integer.

abbrev pub IsWithin : SortBound → ℤ → Type 0
IsWithin (least n) v = n ≤ℤ v
IsWithin (greatest n) v = v ≤ℤ n

abbrev pub AreWithin : List SortBound → ℤ → Type 0
AreWithin [] v = Unit {0}
AreWithin (b ∷ bs) v = IsWithin b v × AreWithin bs v

-- the values of a type are the integers within its bounds
pub within_values : (s : Sort) (v : ℤ) → AreWithin (bounds s) v ↔ IsValueOf s v
within_values Int v = (λ h. h, λ h. h)
within_values Nat v = (λ h. h.0, λ h. (h, tt))
within_values (Range a b) v = (λ h. (h.0, h.1.0), λ h. (h.0, (h.1, tt)))

within_stable : (b : SortBound) (v : ℤ) → ¬ (¬ (IsWithin b v)) → IsWithin b v
within_stable (least n) v h = related_stable Leq n v h
within_stable (greatest n) v h = related_stable Leq v n h

-- Truth.

above_value : (x : ℕ) (n : ℤ) (e : List ℤ) → value_of (combination (pos 1) (linear.name x) (negsuc 0) (linear.number n)) e ≡ entry e x +ℤ neg_ℤ n
above_value x n e = omega (arith, ints, value_of-combination (pos 1) (negsuc 0) (linear.name x) (linear.number n) e, value_of-name x e, value_of-number n e)

below_value : (x : ℕ) (t : Linear) (e : List ℤ) → value_of (combination (negsuc 0) (linear.name x) (pos 1) t) e ≡ neg_ℤ (entry e x) +ℤ value_of t e
below_value x t e = omega (arith, ints, value_of-combination (negsuc 0) (pos 1) (linear.name x) t e, value_of-name x e)

sum_value : (x : ℕ) (t : Linear) (e : List ℤ) → value_of (combination (pos 1) (linear.name x) (pos 1) t) e ≡ entry e x +ℤ value_of t e
sum_value x t e = omega (arith, ints, value_of-combination (pos 1) (pos 1) (linear.name x) t e, value_of-name x e)

less_value : (n : ℤ) (e : List ℤ) → value_of (combination (pos 1) (linear.number n) (negsuc 0) (linear.number (pos 1))) e ≡ n +ℤ negsuc 0
less_value n e = omega (arith, ints, value_of-combination (pos 1) (negsuc 0) (linear.number n) (linear.number (pos 1)) e, value_of-number n e, value_of-number (pos 1) e)

negative_value : (n : ℤ) (e : List ℤ) → value_of (combination (negsuc 0) (linear.number n) (negsuc 0) (linear.number (pos 1))) e ≡ neg_ℤ n +ℤ negsuc 0
negative_value n e = omega (arith, ints, value_of-combination (negsuc 0) (negsuc 0) (linear.number n) (linear.number (pos 1)) e, value_of-number n e, value_of-number (pos 1) e)

within_is : (w : Meaning) (x : ℕ) (b : SortBound) (e : List ℤ) → FormTruth w (within x b).value e ↔ IsWithin b (entry e x)
unfolding next step just
within_is w x (least n) e = let v = above_value x n e in (λ h. omega (arith, ints), λ h. omega (arith, ints))
within_is w x (greatest n) e =
    let v = below_value x (linear.number n) e in
    let c = value_of-number n e in
    (λ h. omega (arith, ints), λ h. omega (arith, ints))

outside_is : (w : Meaning) (x : ℕ) (b : SortBound) (e : List ℤ) → FormTruth w (outside x b).value e ↔ (¬ (IsWithin b (entry e x)))
unfolding next step just
outside_is w x (least n) e =
    let c = less_value n e in
    let v = below_value x (combination (pos 1) (linear.number n) (negsuc 0) (linear.number (pos 1))) e in
    (λ h k. omega (arith, ints), λ h. let lt = (related_opposite Leq n (entry e x)).1 h in omega (arith, ints))
outside_is w x (greatest n) e =
    let c = negative_value n e in
    let v = sum_value x (combination (negsuc 0) (linear.number n) (negsuc 0) (linear.number (pos 1))) e in
    (λ h k. omega (arith, ints), λ h. let lt = (related_opposite Leq (entry e x) n).1 h in omega (arith, ints))

-- all are false exactly where the name is within the bounds and the formula is false
all_outside : (w : Meaning) (x : ℕ) (bs : List SortBound) (g : Form) (e : List ℤ)
    → AreFormsFalse w (forms ((limits true x bs).value ++ g ∷ [])) e ↔ (AreWithin bs (entry e x) × (¬ (FormTruth w g e)))
unfolding next just
all_outside w x [] g e = (λ h. (tt, h.0), λ h. (h.1, tt))
all_outside w x (b ∷ bs) g e =
    let rest = all_outside w x bs g e in
    let own = outside_is w x b e in (
      λ h. let k = rest.0 (h.1) in ((within_stable b (entry e x) (λ n. h.0 (own.1 n)), k.0), k.1),
      λ h. (λ o. own.0 o (h.0.0), rest.1 (h.0.1, h.1)),
    )

all_within : (w : Meaning) (x : ℕ) (bs : List SortBound) (g : Form) (e : List ℤ)
    → AreFormsTrue w (forms ((limits false x bs).value ++ g ∷ [])) e ↔ (AreWithin bs (entry e x) × FormTruth w g e)
unfolding next just
all_within w x [] g e = (λ h. (tt, h.0), λ h. (h.1, tt))
all_within w x (b ∷ bs) g e =
    let rest = all_within w x bs g e in
    let own = within_is w x b e in (
      λ h. let k = rest.0 (h.1) in ((own.0 (h.0), k.0), k.1),
      λ h. (own.1 (h.0.0), rest.1 (h.0.1, h.1)),
    )

-- where the name is within the bounds, the formula is true
unless_outside : (w : Meaning) (x : ℕ) (bs : List SortBound) (g : Form) (e : List ℤ)
    → FormTruth w (restricted true (limits true x bs).value g) e ↔ (AreWithin bs (entry e x) → FormTruth w g e)
unfolding next just
unless_outside w x [] g e = (λ h _. h, λ h. h tt)
unless_outside w x (b ∷ bs) g e =
    let all = all_outside w x (b ∷ bs) g e in
    (λ n k. form_stable w g e (λ m. n (all.1 (k, m))), λ h f. let k = all.0 f in k.1 (h k.0))

-- the name is within the bounds, and the formula is true
and_within : (w : Meaning) (x : ℕ) (bs : List SortBound) (g : Form) (e : List ℤ)
    → FormTruth w (restricted false (limits false x bs).value g) e ↔ (AreWithin bs (entry e x) × FormTruth w g e)
unfolding next just
and_within w x [] g e = (λ h. (tt, h), λ h. h.1)
and_within w x (b ∷ bs) g e = all_within w x (b ∷ bs) g e

-- below a for-all, at an integer for its name
pub bound_at : (w : Meaning) (n : ℕ) (s : Sort) (g : Form) (e : List ℤ) (v : ℤ) → length e ≡ n
    → FormTruth w (restricted true (limits true n (bounds s)).value g) (e ++ v ∷ []) ↔ (IsValueOf s v → FormTruth w g (e ++ v ∷ []))
bound_at w n s g e v long =
    let at = unless_outside w n (bounds s) g (e ++ v ∷ []) in
    let value = subst (λ z. AreWithin (bounds s) z ↔ IsValueOf s v) (sym (entry_last n e v long)) (within_values s v) in
    (λ h t. at.0 h (value.1 t), λ h. at.1 (λ k. h (value.0 k)))

-- a for-all ranges over the values of the type
pub bound_all : (w : Meaning) (n : ℕ) (s : Sort) (g : Form) (e : List ℤ) → length e ≡ n
    → FormTruth w (quantified true (restricted true (limits true n (bounds s)).value g)) e ↔ ((v : ℤ) → IsValueOf s v → FormTruth w g (e ++ v ∷ []))
bound_all w n s g e long =
    (λ h v t. (bound_at w n s g e v long).0 (h v) t, λ h v. (bound_at w n s g e v long).1 (h v))

-- a for-some ranges over the values of the type
pub bound_some : (w : Meaning) (n : ℕ) (s : Sort) (g : Form) (e : List ℤ) → length e ≡ n
    → FormTruth w (quantified false (restricted false (limits false n (bounds s)).value g)) e ↔ (¬ ((v : ℤ) → IsValueOf s v → ¬ (FormTruth w g (e ++ v ∷ []))))
bound_some w n s g e long =
    let at = λ (v : ℤ). and_within w n (bounds s) g (e ++ v ∷ []) in
    let value = λ (v : ℤ). subst (λ z. AreWithin (bounds s) z ↔ IsValueOf s v) (sym (entry_last n e v long)) (within_values s v) in (
      λ h k. h (λ v t. let q = (at v).0 t in k v ((value v).0 q.0) q.1),
      λ h k. h (λ v t x. k v ((at v).1 ((value v).1 t, x))),
    )

-- the conditions of a name, before other formulas
pub conditions_before : (w : Meaning) (x : ℕ) (s : Sort) (gs : List Form) (e : List ℤ)
    → AreFormsTrue w (forms ((limits false x (bounds s)).value ++ gs)) e ↔ (IsValueOf s (entry e x) × AreFormsTrue w (forms gs) e)
unfolding next just
conditions_before w x s gs e =
    let all = by (bounds s) in
    let value = within_values s (entry e x) in
    (λ h. let k = all.0 h in (value.0 k.0, k.1), λ h. all.1 (value.1 h.0, h.1))
  where
    by : (bs : List SortBound) → AreFormsTrue w (forms ((limits false x bs).value ++ gs)) e ↔ (AreWithin bs (entry e x) × AreFormsTrue w (forms gs) e)
    by [] = (λ h. (tt, h), λ h. h.1)
    by (b ∷ bs) =
        let rest = by bs in
        let own = within_is w x b e in (
          λ h. let k = rest.0 (h.1) in ((own.0 (h.0), k.0), k.1),
          λ h. (own.1 (h.0.0), rest.1 (h.0.1, h.1)),
        )

-- Names.

inequality_over : (n : ℕ) (k m : ℤ) (x : ℕ) (t : Linear) → x < n → IsOver n t → IsFormOver n (inequality k x m t).value
unfolding next step just
inequality_over n k m x t lt h = combination-over n k m (linear.name x) t (over_name n x lt) h

limit_over : (n : ℕ) (all : Bool) (x : ℕ) (b : SortBound) → x < n → IsFormOver n (cond all (outside x b) (within x b)).value
unfolding next step just
limit_over n true x (least k) lt =
    inequality_over n (negsuc 0) (pos 1) x _ lt (combination-over n (pos 1) (negsuc 0) (linear.number k) (linear.number (pos 1)) (over_number n k) (over_number n (pos 1)))
limit_over n true x (greatest k) lt =
    inequality_over n (pos 1) (pos 1) x _ lt (combination-over n (negsuc 0) (negsuc 0) (linear.number k) (linear.number (pos 1)) (over_number n k) (over_number n (pos 1)))
limit_over n false x (least k) lt = inequality_over n (pos 1) (negsuc 0) x (linear.number k) lt (over_number n k)
limit_over n false x (greatest k) lt = inequality_over n (negsuc 0) (pos 1) x (linear.number k) lt (over_number n k)

pub limits_over : (n : ℕ) (all : Bool) (x : ℕ) (bs : List SortBound) (gs : List Form) → x < n → AreFormsOver n (forms gs) → AreFormsOver n (forms ((limits all x bs).value ++ gs))
unfolding next just
limits_over n all x [] gs lt h = h
limits_over n all x (b ∷ bs) gs lt h = (limit_over n all x b lt, limits_over n all x bs gs lt h)

restricted_over : (n : ℕ) (all : Bool) (x : ℕ) (bs : List SortBound) (g : Form) → x < n → IsFormOver n g → IsFormOver n (restricted all (limits all x bs).value g)
unfolding next just
restricted_over n all x [] g lt h = h
restricted_over n true x (b ∷ bs) g lt h = limits_over n true x (b ∷ bs) (g ∷ []) lt (h, tt)
restricted_over n false x (b ∷ bs) g lt h = limits_over n false x (b ∷ bs) (g ∷ []) lt (h, tt)

quantified_over : (all : Bool) (n : ℕ) (g : Form) → IsFormOver (suc n) g → IsFormOver n (quantified all g)
quantified_over true n g h = h
quantified_over false n g h = h

pub bound_over : (n : ℕ) (all : Bool) (s : Sort) (body : Traced Form) → IsFormOver (suc n) body.value → IsFormOver n (bound_by all n s body).value
unfolding next just
bound_over n all s body h = quantified_over all n _ (restricted_over (suc n) all n (bounds s) body.value (omega arith) h)

-- Applications.

pure-limit : (all : Bool) (x : ℕ) (b : SortBound) → is_pure (cond all (outside x b) (within x b)).value ≡ true
unfolding next step just
pure-limit true x (least n) = refl
pure-limit true x (greatest n) = refl
pure-limit false x (least n) = refl
pure-limit false x (greatest n) = refl

pub pure-limits : (all : Bool) (x : ℕ) (bs : List SortBound) (gs : List Form) → are_pure (forms ((limits all x bs).value ++ gs)) ≡ are_pure (forms gs)
unfolding next just
pure-limits all x [] gs = refl
pure-limits all x (b ∷ bs) gs = λ i. pure-limit all x b i && pure-limits all x bs gs i

only : (b : Bool) → (b && true) ≡ b
only true = refl
only false = refl

pure-restricted : (all : Bool) (x : ℕ) (bs : List SortBound) (g : Form) → is_pure (restricted all (limits all x bs).value g) ≡ is_pure g
unfolding next just
pure-restricted all x [] g = refl
pure-restricted true x (b ∷ bs) g = pure-limits true x (b ∷ bs) (g ∷ []) ∙ only (is_pure g)
pure-restricted false x (b ∷ bs) g = pure-limits false x (b ∷ bs) (g ∷ []) ∙ only (is_pure g)

pure-quantified : (all : Bool) (g : Form) → is_pure (quantified all g) ≡ is_pure g
pure-quantified true g = refl
pure-quantified false g = refl

pub pure-bound : (all : Bool) (n : ℕ) (s : Sort) (body : Traced Form) → is_pure (bound_by all n s body).value ≡ is_pure body.value
unfolding next just
pure-bound all n s body = pure-quantified all _ ∙ pure-restricted all n (bounds s) body.value
