-- Pieces of the text of a formula, and what is asked of a formula whose text is put together.
use Rattle.std.specs.Prelude.{ℕ, Bool, true, false, List, [], ◌∷◌, ◌++◌, length, codes}
use Rattle.form_typed.specs.declared.typed.Sort.{Sort}
use Rattle.form_typed.specs.Formula.{Expression}
use Rattle.pri_typing.specs.declared.problem.Problem.{Problem}
use Rattle.pri_typing.specs.Everywhere.{Property}
use Rattle.pri_typing.specs.WellFormed.{IsNumberRanged, IsNameBelow, IsPredicateDeclared, IsFunctionDeclared, IsLinear}
use Rattle.pri_printer.specs.Printed.{constants_of}
use Rattle.pri_printer.specs.Text.{behind_each}
use Rattle.itp_printer.specs.Numbers.{IsAbove}
use Rattle.itp_printer.specs.Text.{grouped}
use Rattle.itp_printer.specs.TypedText.{quantifier_text, sort_text}

-- a number is in the range, a name is that of a constant or of a variable bound around it, a function is declared with so
-- many arguments, and a product has a numeral side
pub record IsPrintableTerm (p : Problem) (n : ℕ) (t : Expression) : Type 0 where
  pub ranged : IsNumberRanged n t
  pub named : IsNameBelow (length (constants_of p)) n t
  pub declared : IsFunctionDeclared p.functions n t
  pub linear : IsLinear n t

-- the symbols are declared, and numbers of k variables are enough
abbrev pub printable : Problem → ℕ → Property
printable p k = record { of_formula = λ n f. IsPredicateDeclared p.predicates n f × IsAbove k n f; of_term = IsPrintableTerm p }

-- arguments in parentheses, if there are any
abbrev pub arguments_text : List (List ℕ) → List ℕ
arguments_text [] = []
arguments_text (u ∷ us) = grouped (u ++ behind_each (codes ", ") us)

-- the texts with the sign between each two, or before each where others stand before them
abbrev pub separated : List ℕ → Bool → List (List ℕ) → List ℕ
separated sign true us = behind_each sign us
separated sign false [] = []
separated sign false (u ∷ us) = u ++ behind_each sign us

-- the sign of a conjunction or a disjunction
abbrev pub joint_text : Bool → List ℕ
joint_text true = codes " & "
joint_text false = codes " | "

-- a quantifier with its variable and the variable's type, before its body
abbrev pub binder_text : Bool → Sort → List ℕ → List ℕ
binder_text all s v = quantifier_text all ++ (codes " " ++ (sort_text s ++ (codes " " ++ (v ++ codes "; "))))
