-- Scripts without `define-sort` (SMT-LIB 2.6, section 4.2.3): what a defined sort comes to stands in its place.
use Rattle.std.specs.Prelude.{ℕ, ◌++◌, Bool, false, List, [], ◌∷◌, map, codes, Option, Some, None, if◌then◌else◌}
use Rattle.std.specs.List.{list_any}
use Rattle.smt_lists.specs.Expressions.{Expr, expr}
use Rattle.smt_commands.specs.Commands.{members_of, symbol_of}
use Rattle.smt_commands.specs.Faults.{form}
use Rattle.smt_shorthand.specs.declared.places.Part.TheVariants as part
use Rattle.smt_shorthand.specs.declared.places.Row.TheVariants as row
use Rattle.smt_shorthand.specs.declared.table.SortTable.{SortTable}
use Rattle.smt_shorthand.specs.declared.defining.Progress.{Progress}
use Rattle.smt_shorthand.specs.Resolving.{resolved}
use Rattle.smt_shorthand.specs.Table.{after, definition_of, is_word, no_sorts, with_sort}

-- a list begins with this word
abbrev pub begins_with : List ℕ → Option (List Expr) → Bool
begins_with text None = false
begins_with text (Some []) = false
begins_with text (Some (w ∷ es)) = is_word text (symbol_of w)

-- the command begins as the definition of a sort
abbrev pub defines_sort : Expr → Bool
defines_sort e = begins_with (codes "define-sort") (members_of e)

-- The commands that come of these, by the table before them: the definition of a sort goes into the table, and in any other
-- command each sort stands written out.
abbrev pub commands_from : SortTable → List Expr → List Expr
commands_from t [] = []
commands_from t (e ∷ es) = elim (definition_of t e) [
  | None ↦ resolved t.sorts (part.Members row.Command) e ∷ commands_from (after t (form e)) es
  | Some d ↦ commands_from (with_sort t d) es
]

-- the commands of a script with each defined sort written out; the script itself, where no sort is defined
abbrev pub sorts_written_out : List Expr → List Expr
sorts_written_out es = if list_any defines_sort es then commands_from no_sorts es else es

-- the commands so far, and those that come of these
abbrev pub told : Progress → List Expr → List Expr
told p es = map expr p.out ++ commands_from p.table es
