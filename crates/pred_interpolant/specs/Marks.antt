-- Marks for the predicates and functions of a formula, and the case that they give.
use Rattle.std.specs.Prelude.{◌≡◌, ◌<◌, ℕ, ◌+◌, ◌*◌, Bool, true, false, cond, List, [], ◌∷◌, length, replicate}
use Rattle.form_typed.specs.Formula.{Formula}
use Rattle.pri_typing.specs.declared.problem.Problem.{Problem}
use Rattle.function_encoding.specs.Marks.{is_marked, with_mark}
use Rattle.itp_sides.specs.Sides as sides
use Rattle.itp_sides.specs.Symbols.{symbols_in}
use Rattle.pred_interpolant.specs.declared.symbols.Choice.{Choice}
use Rattle.pred_interpolant.specs.declared.symbols.Choice.TheVariants.{Arithmetic, First, Second, Neither}

-- predicates have the even places, functions the odd ones
abbrev pub symbol_place : (Bool × ℕ) → ℕ
symbol_place a = 2 * a.1 + cond a.0 0 1

-- the marks, with those of the symbols set; a symbol without a mark is passed over
abbrev pub noted : List Bool → List (Bool × ℕ) → List Bool
noted marks [] = marks
noted marks (a ∷ symbols) = noted (with_mark marks (symbol_place a)) symbols

-- two places for each symbol of the problem are enough
abbrev pub no_marks : Problem → List Bool
no_marks p = replicate (2 * (length p.predicates + length p.functions)) false

-- the marks are set where a symbol of the formula has its place
abbrev pub AreSymbolMarks : Problem → Formula → List Bool → Type 0
AreSymbolMarks p f marks = marks ≡ noted (no_marks p) (symbols_in f)

-- each mark of the first list is one of the second
abbrev pub AreMarkedWithin : List Bool → List Bool → Type 0
AreMarkedWithin first second = (i : ℕ) → i < length first → is_marked first i ≡ true → is_marked second i ≡ true

-- no mark is set
abbrev pub AreUnset : List Bool → Type 0
AreUnset marks = (i : ℕ) → i < length marks → is_marked marks i ≡ false

abbrev pub case_chosen : Choice → sides.Case
case_chosen Arithmetic = sides.arithmetic
case_chosen First = sides.first_itself
case_chosen Second = sides.second_denied
case_chosen Neither = sides.none
