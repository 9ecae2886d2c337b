-- Linear terms as sums.
use Rattle.std.proofs.Common.{◌≡◌, ℕ, suc, subst, arith, ℤ, pos, cond, List, [], ◌∷◌, ◌++◌, map, refl, sym, ◌∙◌, ap}
use Rattle.std.specs.Prelude.{All}
use Rattle.std.specs.Ordering.{int_eq}
use Rattle.linear_term.specs.Range.{InRange}
use Rattle.std.proofs.lemmas.List.{map-append}
use Rattle.form_typed.specs.declared.typed.TypedTerm.{TypedTerm}
use Rattle.form_typed.specs.Formula.{expression, expressions, expressions_of, total}
use Rattle.pri_printer.specs.Summands.{SignedSummand, constant, monomial, summands}
use Rattle.pri_printer.specs.Formulas.{first_value, later, later_part, sum_value}

-- The numbers of monomials.

pub ranged_first : (xs ys more : List (ℕ × ℤ)) (x : ℕ × ℤ) → xs ≡ ys → ys ≡ x ∷ more → All (λ p. InRange p.1) xs → InRange x.1
ranged_first xs ys more x e q h = (subst (All (λ p. InRange p.1)) (e ∙ q) h) 0 x (omega arith)

pub ranged_more : (xs ys more : List (ℕ × ℤ)) (x : ℕ × ℤ) → xs ≡ ys → ys ≡ x ∷ more → All (λ p. InRange p.1) xs → All (λ p. InRange p.1) more
ranged_more xs ys more x e q h = λ k d lt. (subst (All (λ p. InRange p.1)) (e ∙ q) h) (suc k) d (omega (arith, lt))

-- what comes after the first monomial
abbrev behind : List (ℕ × ℤ) → ℤ → List SignedSummand
behind more k = map monomial more ++ cond (int_eq k (pos 0)) [] (constant k ∷ [])

-- the rest of a sum, put after nothing in two steps
pub rest_is : (start first second : List TypedTerm) (more : List (ℕ × ℤ)) (k : ℤ) → start ≡ [] → map expression first ≡ map expression start ++ map later (map later_part (map monomial more))
    → map expression second ≡ map expression first ++ map later (map later_part (cond (int_eq k (pos 0)) [] (constant k ∷ [])))
    → map expression second ≡ map later (map later_part (behind more k))
rest_is start first second more k e h l =
    let tail = cond (int_eq k (pos 0)) [] (constant k ∷ []) in
    l ∙ ap (λ xs. xs ++ map later (map later_part tail)) (h ∙ ap (λ xs. map expression xs ++ map later (map later_part (map monomial more))) e)
    ∙ sym (map-append later (map later_part (map monomial more)) (map later_part tail)) ∙ ap (map later) (sym (map-append later_part (map monomial more) tail))

none_left : (xs : List SignedSummand) → map later (map later_part xs) ≡ [] → xs ≡ []
none_left [] h = refl
none_left (x ∷ xs) h = absurd cc

pub alone_is : (p : ℕ × ℤ) (more : List (ℕ × ℤ)) (k : ℤ) (head : TypedTerm) (rest : List TypedTerm) → expression head ≡ first_value (monomial p)
    → map expression rest ≡ map later (map later_part (behind more k)) → rest ≡ [] → expression head ≡ sum_value (summands (p ∷ more) k)
alone_is p more k head rest h r e =
    h ∙ ap (λ xs. sum_value (monomial p ∷ xs)) (sym (none_left (behind more k) (sym r ∙ ap (map expression) e)))

pub several_are : (p : ℕ × ℤ) (more : List (ℕ × ℤ)) (k : ℤ) (head : TypedTerm) (rest members : List TypedTerm) → expression head ≡ first_value (monomial p)
    → map expression rest ≡ map later (map later_part (behind more k)) → ¬ (rest ≡ []) → members ≡ head ∷ rest → total (expressions_of members) ≡ sum_value (summands (p ∷ more) k)
several_are p more k head rest members h r some e = ap (λ ms. total (expressions_of ms)) e ∙ by rest (behind more k) r some
  where
    by : (us : List TypedTerm) (xs : List SignedSummand) → map expression us ≡ map later (map later_part xs) → ¬ (us ≡ []) → total (expressions_of (head ∷ us)) ≡ sum_value (monomial p ∷ xs)
    by [] xs q n = absurd (n refl)
    by (u ∷ us) [] q n = absurd cc
    by (u ∷ us) (x ∷ xs) q n = λ i. total (expressions (h i ∷ q i))
