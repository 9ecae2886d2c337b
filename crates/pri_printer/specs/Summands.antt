-- What a linear term is printed as a sum of.
use Rattle.std.specs.Prelude.{ℕ, ℤ, pos, Bool, cond, int_lt, unsigned_abs, List, [], ◌∷◌, ◌++◌, map}
use Rattle.std.specs.Ordering.{int_eq}

-- a number, or a number times a name
pub data Summand : Type 0 where
  alone : ℕ → Summand
  times : ℕ → ℕ → Summand

-- with whether it is subtracted
abbrev pub SignedSummand : Type 0
SignedSummand = Bool × Summand

abbrev pub monomial : (ℕ × ℤ) → SignedSummand
monomial p = (int_lt p.1 (pos 0), times (unsigned_abs p.1) p.0)

abbrev pub constant : ℤ → SignedSummand
constant k = (int_lt k (pos 0), alone (unsigned_abs k))

-- the monomials in their order, then the constant, if it is not 0 or stands alone
abbrev pub summands : List (ℕ × ℤ) → ℤ → List SignedSummand
summands [] k = constant k ∷ []
summands (p ∷ ps) k = monomial p ∷ (map monomial ps ++ cond (int_eq k (pos 0)) [] (constant k ∷ []))
