-- The extents of several formulas and after several terms, from the last one back.
use Rattle.std.proofs.Common.{◌≡◌, ℕ, ◌+◌, ◌<◌, ◌≤◌, List, drop, length, get_or, sym, ap, ◌∙◌}
use Rattle.form_typed.specs.declared.typed.Typed.{Typed}
use Rattle.form_typed.specs.declared.typed.TypedTerm.{TypedTerm}
use Rattle.form_typed.specs.Formula.{formula, formulas_of, expression, expressions_of}
use Rattle.base_budget.proofs.Charging.{drop-item, drop_all}
use Rattle.form_encoding.specs.Extent as extents
use Rattle.form_encoding.specs.Extent.{Extent, beside, nothing, extent, extent_with, extents_with}

-- nothing is after the last one
pub extents_end : (fs : List Typed) (i : ℕ) → length fs ≤ i → nothing ≡ extents.extents (formulas_of (drop i fs))
extents_end fs i le = ap (λ l. extents.extents (formulas_of l)) (sym (drop_all fs i le))

pub extents_with_end : (ts : List TypedTerm) (i : ℕ) (e : Extent) → length ts ≤ i → e ≡ extents_with (expressions_of (drop i ts)) e
extents_with_end ts i e le = ap (λ l. extents_with (expressions_of l) e) (sym (drop_all ts i le))

-- one more
pub extents_back : (fs : List Typed) (i j : ℕ) (f : Typed) (all e new : Extent) → i ≡ j + 1 → j < length fs → f ≡ get_or fs j f → all ≡ extents.extents (formulas_of (drop i fs))
    → e ≡ extent (formula f) → new ≡ beside e all → new ≡ extents.extents (formulas_of (drop j fs))
extents_back fs i j f all e new up lt is h g n =
    n ∙ (λ k. beside (g k) (h k)) ∙ ap (λ m. beside (extent (formula f)) (extents.extents (formulas_of (drop m fs)))) up
    ∙ ap (λ l. extents.extents (formulas_of l)) (sym (drop-item fs j f lt is))

pub extents_with_back : (ts : List TypedTerm) (i j : ℕ) (t : TypedTerm) (rest all new : Extent) → i ≡ j + 1 → j < length ts → t ≡ get_or ts j t → all ≡ extents_with (expressions_of (drop i ts)) rest
    → new ≡ extent_with (expression t) all → new ≡ extents_with (expressions_of (drop j ts)) rest
extents_with_back ts i j t rest all new up lt is h n =
    n ∙ ap (extent_with (expression t)) (h ∙ ap (λ m. extents_with (expressions_of (drop m ts)) rest) up)
    ∙ ap (λ l. extents_with (expressions_of l) rest) (sym (drop-item ts j t lt is))
