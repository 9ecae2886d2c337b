-- What stands between two formulas (Craig, Three uses of the Herbrand-Gentzen theorem in relating model theory
-- and proof theory, 1957).
use Rattle.std.specs.Prelude.{◌≡◌, ◌≢◌, ◌⊎◌, ◌<◌, ℕ, ℤ, true, List}
use Rattle.std.specs.List.{AllByRecursion}
use Rattle.form_typed.specs.Formula.{Formula, Expression, name}
use Rattle.form_typed.specs.Truth.{Meaning, Truth}
use Rattle.pri_typing.specs.declared.problem.Problem.{Problem}
use Rattle.pri_typing.specs.Everywhere.{Everywhere}
use Rattle.pri_typing.specs.WellFormed.{of_terms}
use Rattle.clause_set.specs.declared.literal.Literal.{Literal}
use Rattle.clause_set.specs.Literals.{dnf_truth}
use Rattle.elim_laws.specs.Whole as clauses
use Rattle.elim_laws.specs.Whole.{AreOver}
use Rattle.form_encoding.specs.Problems.{constants}
use Rattle.itp_sides.specs.Between.{AreTyped, Contradict}

-- the term is no name, or another one than x
abbrev pub IsOtherName : ℕ → ℕ → Expression → Type 0
IsOtherName x n (name y) = x ≢ y
IsOtherName x n _ = Unit {0}

-- x stands nowhere in the formula
abbrev pub LacksName : ℕ → Formula → Type 0
LacksName x = Everywhere (of_terms (IsOtherName x)) 0

-- The normal form d stands between the formulas, at values of the constants' types: it follows from the first; it contradicts
-- the second where the first does; and it speaks of those constants alone that stand in both.
pub record IsInterpolant (w : Meaning) (p : Problem) (first second : Formula) (d : List (List Literal)) : Type 0 where
  pub follows : (e : List ℤ) → AreTyped p e → Truth w first e → dnf_truth d e ≡ true
  pub contradicts : Contradict w p first second → (e : List ℤ) → AreTyped p e → dnf_truth d e ≡ true → ¬ (Truth w second e)
  pub shared : (x : ℕ) → x < constants p → LacksName x first ⊎ LacksName x second → AllByRecursion (clauses.Lacks x) d
  pub over : AreOver (constants p) d
