-- Formulas over the symbols of a problem.
use Rattle.std.specs.Prelude.{ℕ, length}
use Rattle.form_typed.specs.Formula.{Formula, Expression}
use Rattle.pri_typing.specs.declared.problem.Problem.{Problem}
use Rattle.pri_typing.specs.Everywhere.{Property, Everywhere}
use Rattle.pri_typing.specs.WellFormed.{IsNumberRanged, IsNameBelow, IsPredicateDeclared, IsFunctionDeclared, HasMember, IsLinear, IsPartBelow, IsBinderRanged}
use Rattle.form_encoding.specs.Problems.{constants}

-- a formula under n binders: a predicate is declared, the bounds of a type are coefficients, a part is one of the problem
pub record IsFormulaFit (p : Problem) (n : ℕ) (f : Formula) : Type 0 where
  pub predicate : IsPredicateDeclared p.predicates n f
  pub binder : IsBinderRanged n f
  pub part : IsPartBelow (length p.parts) n f

-- a term under n binders: a number is a coefficient, a name is a constant or bound, a function is declared, a sum has a member, a
-- product is linear
pub record IsTermFit (p : Problem) (n : ℕ) (t : Expression) : Type 0 where
  pub number : IsNumberRanged n t
  pub name : IsNameBelow (constants p) n t
  pub function : IsFunctionDeclared p.functions n t
  pub sum : HasMember n t
  pub product : IsLinear n t

abbrev pub fit : Problem → Property
fit p = record { of_formula = IsFormulaFit p; of_term = IsTermFit p }

-- the formula can stand in the problem
abbrev pub IsFitFormula : Problem → Formula → Type 0
IsFitFormula p f = Everywhere (fit p) 0 f
