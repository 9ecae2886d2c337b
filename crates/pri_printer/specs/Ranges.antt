-- The numbers that are printed.
use Rattle.linear_term.specs.Linear.{IsNormal}
use Rattle.clause_set.specs.declared.literal.Literal.{Literal}
use Rattle.clause_set.specs.Literals.{HasDivisor, term_of}

-- the numbers of the literal are in the range of coefficients
pub record IsRangedLiteral (l : Literal) : Type 0 where
  pub term : IsNormal (term_of l)
  pub divisor : HasDivisor l
