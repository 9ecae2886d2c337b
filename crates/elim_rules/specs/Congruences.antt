-- A literal that a divisor divides, or does not divide, with the name x, and the rules beside the other literals.
use Rattle.std.specs.Prelude.{ℕ, ℤ, pos, ◌<ℤ◌, ◌*ℤ◌, List, [], ◌∷◌, ◌++◌}
use Rattle.linear_term.specs.Linear.{coef_of, number, without}
use Rattle.linear_term.specs.declared.range.Place.{Place}
use Rattle.base_budget.specs.Trace.{Traced, just, next, each, compute, combining}
use Rattle.clause_set.specs.declared.literal.Literal.{Literal}
use Rattle.clause_set.specs.declared.literal.Literal.TheVariants.{Div}
use Rattle.clause_set.specs.Bezout.{Bezout, bezout}
use Rattle.clause_set.specs.Clauses.{clauses_of}
use Rattle.clause_set.specs.Divisibilities.{merged_by, shifted}
use Rattle.clause_set.specs.Literals.{IsDivisor, term_of}
use Rattle.clause_set.specs.Names.{product}
use Rattle.clause_set.specs.Order.{divisor_of}

-- d divides a·x + s, or does not, for a positive a
pub record IsCongruence (x : ℕ) (l : Literal) : Type 0 where
  pub divisor : IsDivisor (divisor_of l)
  pub coefficient : pos 0 <ℤ coef_of (term_of l) x

-- a1·d2, a2·d1 and d1·d2, as raw numbers
abbrev pub merge_numbers : ℤ → ℤ → ℤ → ℤ → List Place
merge_numbers a1 d1 a2 d2 = product a1 d2 ∷ product a2 d1 ∷ product d1 d2 ∷ []

-- the rule at the divisibilities l and m, after its charge
abbrev pub merged_beside : ℕ → List Literal → Literal → Literal → Traced (List (List Literal))
merged_beside x rest l m =
    next (compute (merge_numbers (coef_of (term_of l) x) (divisor_of l) (coef_of (term_of m) x) (divisor_of m)))
    (λ _. merged_by x rest (bezout (coef_of (term_of l) x *ℤ divisor_of m) (coef_of (term_of m) x *ℤ divisor_of l)) (divisor_of l) (term_of l) (divisor_of m) (term_of m))

-- d divides t + r, for the term t and the divisor d of l, beside the other literals of its clause
abbrev pub remainder_beside : List Literal → Literal → ℕ → Traced (List (List Literal))
remainder_beside rest l r = next (combining (pos 1) (term_of l) (pos 1) (number (pos r))) (λ s. just (clauses_of ((rest ++ Div (divisor_of l) s ∷ []) ∷ [])))

-- the rule at the only divisibility l, with the coefficients z of Bézout, after its charge
abbrev pub shifted_beside : ℕ → List Literal → Bezout → Literal → Traced (List (List Literal))
shifted_beside x rest z l = next (each (shifted x (divisor_of l) z (term_of l)) rest []) (λ ls. just (clauses_of ((Div z.g (without (term_of l) x) ∷ ls) ∷ [])))
