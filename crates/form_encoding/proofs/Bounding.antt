-- The extent of a formula below a quantifier with the bounds of a type.
use Rattle.std.proofs.Common.{◌≡◌, ℕ, zero, suc, Bool, true, false, not, cond, List, [], ◌∷◌, ◌++◌, length, refl}
use Rattle.form_typed.specs.declared.typed.Sort.{Sort}
use Rattle.base_budget.specs.Trace.{Traced, just, step, next}
use Rattle.formula.specs.Form.{Form, Forms, forms, no_form}
use Rattle.form_encoding.specs.Encoding.{SortBound, least, greatest, bounds, within, outside, limits, restricted, quantified, bound_by}
use Rattle.form_encoding.specs.Extent.{Extent, leaf, nothing, beside, above, behind_atoms, restricted_extent, measured, all_measured}
use Rattle.form_encoding.proofs.Measuring.{measured-more, measured-junction, measured-quantified, measured-nothing}

measured-limit : (all : Bool) (x : ℕ) (b : SortBound) → measured (cond all (outside x b) (within x b)).value ≡ leaf
unfolding next step just
measured-limit true x (least n) = refl
measured-limit true x (greatest n) = refl
measured-limit false x (least n) = refl
measured-limit false x (greatest n) = refl

pub measured-limits : (all : Bool) (x : ℕ) (bs : List SortBound) (gs : List Form) (a : Extent) → all_measured (forms gs) ≡ a
    → all_measured (forms ((limits all x bs).value ++ gs)) ≡ behind_atoms (length bs) a
unfolding next just
measured-limits all x [] gs a p = p
measured-limits all x (b ∷ bs) gs a p =
    measured-more (cond all (outside x b) (within x b)).value (forms ((limits all x bs).value ++ gs)) leaf (behind_atoms (length bs) a) (measured-limit all x b) (measured-limits all x bs gs a p)

measured-restricted : (all : Bool) (x : ℕ) (bs : List SortBound) (g : Form) (a : Extent) → measured g ≡ a → measured (restricted all (limits all x bs).value g) ≡ restricted_extent (length bs) a
unfolding next just
measured-restricted all x [] g a p = p
measured-restricted all x (b ∷ bs) g a p =
    measured-junction (not all) _ (behind_atoms (length (b ∷ bs)) (beside a nothing))
    (measured-limits all x (b ∷ bs) (g ∷ []) (beside a nothing) (measured-more g no_form a nothing p measured-nothing))

pub measured-bound : (all : Bool) (x : ℕ) (s : Sort) (body : Traced Form) (a : Extent) → measured body.value ≡ a
    → measured (bound_by all x s body).value ≡ above (restricted_extent (length (bounds s)) a)
unfolding next just
measured-bound all x s body a p = measured-quantified all _ (restricted_extent (length (bounds s)) a) (measured-restricted all x (bounds s) body.value a p)
