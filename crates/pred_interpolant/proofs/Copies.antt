-- Copies of formulas with other names.
use Rattle.std.proofs.Common.{◌≡◌, ◌≤◌, ℕ, List, [], ◌∷◌, map, length, take, take_all, refl, sym, ap, ◌∙◌}
use Rattle.form_typed.specs.declared.typed.Typed.{Typed}
use Rattle.form_typed.specs.declared.typed.TypedTerm.{TypedTerm}
use Rattle.form_typed.specs.Formula.{and_expression, and_formula, expression, expressions, expressions_of, formula, formulas, formulas_of}
use Rattle.itp_sides.specs.Closing.{renamed, renamed_all, renamed_term, renamed_terms}

renamed_all-map : (r : ℕ → ℕ) (fs : List Typed) → renamed_all r (formulas_of fs) ≡ formulas (map (λ f. renamed r (formula f)) fs)
renamed_all-map r [] = refl
renamed_all-map r (f ∷ fs) = ap (and_formula (renamed r (formula f))) (renamed_all-map r fs)

renamed_terms-map : (r : ℕ → ℕ) (ts : List TypedTerm) → renamed_terms r (expressions_of ts) ≡ expressions (map (λ t. renamed_term r (expression t)) ts)
renamed_terms-map r [] = refl
renamed_terms-map r (t ∷ ts) = ap (and_expression (renamed_term r (expression t))) (renamed_terms-map r ts)

pub all_from : (r : ℕ → ℕ) (out fs : List Typed) (i : ℕ) → length fs ≤ i → map formula out ≡ map (λ f. renamed r (formula f)) (take i fs) → formulas_of out ≡ renamed_all r (formulas_of fs)
all_from r out fs i h k = ap formulas (k ∙ ap (map (λ f. renamed r (formula f))) (take_all i fs h)) ∙ sym (renamed_all-map r fs)

pub all_terms_from : (r : ℕ → ℕ) (out ts : List TypedTerm) (i : ℕ) → length ts ≤ i → map expression out ≡ map (λ t. renamed_term r (expression t)) (take i ts)
    → expressions_of out ≡ renamed_terms r (expressions_of ts)
all_terms_from r out ts i h k = ap expressions (k ∙ ap (map (λ t. renamed_term r (expression t))) (take_all i ts h)) ∙ sym (renamed_terms-map r ts)
