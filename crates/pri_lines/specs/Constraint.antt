-- The lines that print normal forms over the constants of a problem.
use Rattle.std.specs.Prelude.{◌≡◌, ℕ, List, ◌++◌, codes}
use Rattle.base_answers.specs.Answer.{line}
use Rattle.clause_set.specs.declared.literal.Literal.{Literal}
use Rattle.pri_typing.specs.declared.problem.Problem.{Problem}
use Rattle.pri_typing.specs.Problems.{Says}
use Rattle.pri_printer.specs.Printed.{dnf_text, dnf_formula, IsWithinLimits}

-- x is the text of the normal form d over the constants of the problem, and is read back as the formula that d is, within the
-- limits of a file
pub record IsTextOf (p : Problem) (d : List (List Literal)) (x : List ℕ) : Type 0 where
  pub text : x ≡ dnf_text p d
  pub says : Says x p (dnf_formula p d)
  pub limits : IsWithinLimits x

-- the line with the text of a constraint
abbrev pub constraint_line : List ℕ → List ℕ
constraint_line x = line (codes "constraint: " ++ x)

-- the line with the text of an interpolant
abbrev pub interpolant_line : List ℕ → List ℕ
interpolant_line x = line (codes "interpolant: " ++ x)

-- the text is the line of d, made so of the text of d
pub record IsLineOf (made : List ℕ → List ℕ) (p : Problem) (d : List (List Literal)) (text : List ℕ) : Type 0 where
  pub x : List ℕ
  pub printed : IsTextOf p d x
  pub line : text ≡ made x
