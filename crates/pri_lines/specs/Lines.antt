-- The lines of a constraint and of values that satisfy it.
use Rattle.std.specs.Prelude.{◌≡◌, ℕ, ℤ, List, ◌++◌, codes}
use Rattle.clause_set.specs.declared.literal.Literal.{Literal}
use Rattle.pri_typing.specs.declared.problem.Problem.{Problem}
use Rattle.pri_printer.specs.Printed.{solution_text}
use Rattle.base_answers.specs.Answer.{line}
use Rattle.pri_lines.specs.Constraint.{IsTextOf, constraint_line}

-- the line with the values of the existential constants
abbrev pub solution_line : Problem → List ℤ → List ℕ
solution_line p vs = line (codes "solution: " ++ solution_text p vs)

-- the lines with the text of a constraint and with values
abbrev pub valued_lines : Problem → List ℕ → List ℤ → List ℕ
valued_lines p x vs = constraint_line x ++ solution_line p vs

-- the text is a first line with those of the constraint d and the values vs
abbrev pub AreValuedLines : List ℕ → Problem → List (List Literal) → List ℤ → List ℕ → Type 0
AreValuedLines first p d vs text = (x : List ℕ) × IsTextOf p d x × (text ≡ line first ++ valued_lines p x vs)
