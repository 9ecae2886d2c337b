-- Sizes of lists that are counted from the end.
use Rattle.std.proofs.Common.{◌≡◌, ℕ, zero, suc, ◌-◌, ◌<◌, ◌≤◌, List, [], ◌∷◌, length, drop, get_or, refl, sym, ap, ap₂, ◌∙◌, arith}
use Rattle.form_typed.specs.declared.typed.Typed.{Typed}
use Rattle.form_typed.specs.declared.typed.TypedTerm.{TypedTerm}
use Rattle.form_typed.specs.Formula.{formula, formulas_of, expression, expressions_of}
use Rattle.smt_sizes.specs.declared.size.Size.{Size}
use Rattle.smt_sizes.specs.Size.{nothing, beside}
use Rattle.smt_sizes.specs.Sizes.{size, all_sizes, term_size, term_sizes}

pub sizes_end : (fs : List Typed) → nothing ≡ all_sizes (formulas_of (drop (length fs) fs))
sizes_end [] = refl
sizes_end (f ∷ fs) = sizes_end fs

pub terms_end : (ts : List TypedTerm) → nothing ≡ term_sizes (expressions_of (drop (length ts) ts))
terms_end [] = refl
terms_end (t ∷ ts) = terms_end ts

sizes_at : (fs : List Typed) (j : ℕ) (d : Typed) → j < length fs → all_sizes (formulas_of (drop j fs)) ≡ beside (size (formula (get_or fs j d))) (all_sizes (formulas_of (drop (suc j) fs)))
sizes_at [] j d h = absurd (omega arith)
sizes_at (f ∷ fs) zero d h = refl
sizes_at (f ∷ fs) (suc j) d h = sizes_at fs j d (omega arith)

terms_at : (ts : List TypedTerm) (j : ℕ) (d : TypedTerm) → j < length ts → term_sizes (expressions_of (drop j ts)) ≡ beside (term_size (expression (get_or ts j d))) (term_sizes (expressions_of (drop (suc j) ts)))
terms_at [] j d h = absurd (omega arith)
terms_at (t ∷ ts) zero d h = refl
terms_at (t ∷ ts) (suc j) d h = terms_at ts j d (omega arith)

pub sizes_back : (fs : List Typed) (i : ℕ) (f : Typed) (one all both : Size) → 0 < i → i ≤ length fs → f ≡ get_or fs (i - 1) f → one ≡ size (formula f) → all ≡ all_sizes (formulas_of (drop i fs))
    → both ≡ beside one all → both ≡ all_sizes (formulas_of (drop (i - 1) fs))
sizes_back fs i f one all both pos le at is so_far joined =
    let next : suc (i - 1) ≡ i = omega (arith, pos) in
    joined ∙ ap₂ beside (is ∙ ap (λ z. size (formula z)) at) (so_far ∙ ap (λ k. all_sizes (formulas_of (drop k fs))) (sym next)) ∙ sym (sizes_at fs (i - 1) f (omega (arith, pos, le)))

pub terms_back : (ts : List TypedTerm) (i : ℕ) (t : TypedTerm) (one all both : Size) → 0 < i → i ≤ length ts → t ≡ get_or ts (i - 1) t → one ≡ term_size (expression t)
    → all ≡ term_sizes (expressions_of (drop i ts)) → both ≡ beside one all → both ≡ term_sizes (expressions_of (drop (i - 1) ts))
terms_back ts i t one all both pos le at is so_far joined =
    let next : suc (i - 1) ≡ i = omega (arith, pos) in
    joined ∙ ap₂ beside (is ∙ ap (λ z. term_size (expression z)) at) (so_far ∙ ap (λ k. term_sizes (expressions_of (drop k ts))) (sym next)) ∙ sym (terms_at ts (i - 1) t (omega (arith, pos, le)))
