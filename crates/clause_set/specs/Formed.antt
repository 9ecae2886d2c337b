-- Literals as clauses have them.
use Rattle.std.specs.Prelude.{◌≡◌, pos, ◌<ℤ◌, All}
use Rattle.clause_set.specs.declared.literal.Literal.{Literal}
use Rattle.clause_set.specs.declared.literal.Literal.TheVariants.{Eq, Geq, Div, NDiv}
use Rattle.clause_set.specs.declared.literal.Norm.TheVariants.{Lit}
use Rattle.clause_set.specs.Literals.{IsLiteral, HasDivisor}
use Rattle.clause_set.specs.Normal.{normal_of}

-- the coefficients of the term that a divisor stands with are positive
abbrev pub HasPositiveCoefficients : Literal → Type 0
HasPositiveCoefficients (Eq t) = Unit {0}
HasPositiveCoefficients (Geq t) = Unit {0}
HasPositiveCoefficients (Div d t) = All (λ p. pos 0 <ℤ p.1) t.pairs
HasPositiveCoefficients (NDiv d t) = All (λ p. pos 0 <ℤ p.1) t.pairs

-- a literal as clauses have it: besides, the coefficients after a divisor are positive
pub record IsFormed (l : Literal) : Type 0 where
  pub literal : IsLiteral l
  pub coefficients : HasPositiveCoefficients l

-- a literal that is its own normal form; its divisor, if it has one, is one
pub record IsNormalized (l : Literal) : Type 0 where
  pub own : normal_of l ≡ Lit l
  pub divisor : HasDivisor l
