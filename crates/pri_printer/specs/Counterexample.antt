-- The text of a counterexample: the values of the constants, and the rows of a finite table.
use Rattle.std.specs.Prelude.{ℕ, ℤ, List, [], ◌∷◌, ◌++◌, map, Option, Some, None, codes}
use Rattle.std.specs.Fmt.{signed_decimal}
use Rattle.std.specs.List.{slice_get}
use Rattle.form_typed.specs.declared.world.Table.{Table}
use Rattle.form_typed.specs.declared.world.TruthRow.{TruthRow}
use Rattle.form_typed.specs.declared.world.ValueRow.{ValueRow}
use Rattle.pri_typing.specs.declared.problem.Problem.{Problem}
use Rattle.pri_typing.specs.declared.problem.Symbol.{Symbol}
use Rattle.pri_printer.specs.Text.{listed_text, value_texts}

abbrev pub name_of : Option Symbol → List ℕ
name_of (Some s) = s.name
name_of None = []

-- a symbol at these integers, as a problem writes it
abbrev pub applied_text : List ℕ → List ℤ → List ℕ
applied_text name [] = name
applied_text name (v ∷ vs) = name ++ (codes "(" ++ (listed_text (map signed_decimal (v ∷ vs)) ++ codes ")"))

-- the predicate is true at these integers
abbrev pub truth_text : List Symbol → TruthRow → List ℕ
truth_text predicates r = applied_text (name_of (slice_get predicates r.id)) r.at

-- the function has the value at these integers
abbrev pub row_text : List Symbol → ValueRow → List ℕ
row_text functions r = applied_text (name_of (slice_get functions r.id)) r.at ++ (codes " = " ++ signed_decimal r.value)

-- each text ended by a line feed
abbrev pub lines_text : List (List ℕ) → List ℕ
lines_text [] = []
lines_text (u ∷ us) = u ++ (codes "\n" ++ lines_text us)

-- the existential constants have the first values, the universal ones the second, and the table gives the rest
abbrev pub counterexample_text : Problem → List ℤ → List ℤ → Table → List ℕ
counterexample_text p at universals t =
    codes "counterexample:\n" ++ (lines_text (value_texts p.existentials at) ++ (lines_text (value_texts p.universals universals)
    ++ (lines_text (map (truth_text p.predicates) t.truths) ++ lines_text (map (row_text p.functions) t.values))))
