-- The text of a disjunctive normal form over the constants of a problem and the formula that it is, and the text of the
-- values of its existential constants.
use Rattle.std.specs.Prelude.{ℕ, ℤ, List, [], ◌++◌, length}
use Rattle.pri_tokens.specs.Lexemes.{lexemes_of}
use Rattle.pri_reader.specs.declared.tree.Expr.{Expr}
use Rattle.pri_reader.specs.Grammar.{Derives, whole}
use Rattle.pri_reader.specs.Reading.{file_setting}
use Rattle.form_typed.specs.Formula.{Formula}
use Rattle.pri_typing.specs.declared.problem.Problem.{Problem}
use Rattle.clause_set.specs.declared.literal.Literal.{Literal}
use Rattle.pri_printer.specs.Formulas.{normal_form_formula}
use Rattle.pri_printer.specs.Quotient.{quotient_name, quotient_number}
use Rattle.pri_printer.specs.Text.{listed_text, normal_form_text, value_texts}

-- the names of the constants, in the order of their numbers
abbrev pub constants_of : Problem → List (List ℕ)
constants_of p = p.existentials ++ p.universals

-- the text of a normal form over the constants of the problem
abbrev pub dnf_text : Problem → List (List Literal) → List ℕ
dnf_text p d = normal_form_text (constants_of p) (quotient_name (quotient_number p)) d

-- the formula that the text is: the quotient of a divisibility is the bound variable after the constants
abbrev pub dnf_formula : Problem → List (List Literal) → Formula
dnf_formula p d = normal_form_formula (length (constants_of p)) d

-- the text is a formula with its numerals and levels within the limits of a file
pub record IsWithinLimits (text : List ℕ) : Type 0 where
  pub expression : Expr
  pub derived : Derives (file_setting text) 0 whole expression (lexemes_of text) []

-- `x = 1, y = -2`: the existential constants with these values
abbrev pub solution_text : Problem → List ℤ → List ℕ
solution_text p values = listed_text (value_texts p.existentials values)
