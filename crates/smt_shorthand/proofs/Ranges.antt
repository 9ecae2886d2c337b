-- What is made has numerals in range, where the script has.
use Rattle.std.proofs.Common.{List, [], ◌∷◌, Bool, true, false, Option, Some, None, if◌then◌else◌}
use Rattle.std.specs.List.{AllByRecursion, list_any}
use Rattle.smt_lists.specs.Expressions.{Expr, Exprs, atom, list, no_expr, and_expr, exprs}
use Rattle.smt_commands.specs.Faults.{form}
use Rattle.smt_shorthand.specs.declared.places.Part.{Part}
use Rattle.smt_shorthand.specs.declared.places.Part.TheVariants as part
use Rattle.smt_shorthand.specs.declared.places.Row.{Row}
use Rattle.smt_shorthand.specs.declared.places.Row.TheVariants as row
use Rattle.smt_shorthand.specs.declared.sorts.Sense.{Sense}
use Rattle.smt_shorthand.specs.declared.sorts.Sense.TheVariants as sense
use Rattle.smt_shorthand.specs.declared.sorts.DefinedSort.{DefinedSort}
use Rattle.smt_shorthand.specs.declared.table.SortTable.{SortTable}
use Rattle.smt_shorthand.specs.Places.{behind, first}
use Rattle.smt_shorthand.specs.Sorts.{sense_of}
use Rattle.smt_shorthand.specs.Resolving.{named_by, resolved, row_resolved}
use Rattle.smt_shorthand.specs.Table.{after, definition_of, no_sorts, with_sort}
use Rattle.smt_shorthand.specs.Defining.{commands_from, defines_sort, sorts_written_out}
use Rattle.smt_shorthand.specs.Ranged.{AreRangedExprs, IsRangedExpr}

-- all are in range
abbrev pub AreRanged : List Expr → Type 0
AreRanged es = AllByRecursion IsRangedExpr es

pub exprs_ranged : (es : List Expr) → AreRanged es → AreRangedExprs (exprs es)
exprs_ranged [] h = tt
exprs_ranged (e ∷ es) h = (h.0, exprs_ranged es h.1)

named_ranged : (s : Sense) (e : Expr) → IsRangedExpr e → IsRangedExpr (named_by s e)
named_ranged sense.Int e h = tt
named_ranged sense.Bool e h = tt
named_ranged (sense.Parameter i) e h = h
named_ranged sense.Other e h = h

mutual
  resolved_ranged : (sorts : List DefinedSort) (p : Part) (e : Expr) → IsRangedExpr e → IsRangedExpr (resolved sorts p e)
  resolved_ranged sorts part.Other (atom a) h = h
  resolved_ranged sorts part.Sort (atom a) h = named_ranged (sense_of sorts [] (atom a)) (atom a) h
  resolved_ranged sorts (part.Members r) (atom a) h = h
  resolved_ranged sorts part.Other (list at es) h = h
  resolved_ranged sorts part.Sort (list at es) h = named_ranged (sense_of sorts [] (list at es)) (list at es) h
  resolved_ranged sorts (part.Members r) (list at es) h = exprs_ranged (row_resolved sorts r es) (row_ranged sorts r es h)

  row_ranged : (sorts : List DefinedSort) (r : Row) (es : Exprs) → AreRangedExprs es → AreRanged (row_resolved sorts r es)
  row_ranged sorts r no_expr h = tt
  row_ranged sorts r (and_expr e es) h = (resolved_ranged sorts (first r) e h.0, row_ranged sorts (behind r e) es h.1)

picked : (d : Option DefinedSort) (e : Expr) (rest : List Expr) (f : DefinedSort → List Expr) → IsRangedExpr e → AreRanged rest → ((s : DefinedSort) → AreRanged (f s)) → AreRanged (elim d [
  | None ↦ e ∷ rest
  | Some s ↦ f s
])
picked None e rest f h k g = (h, k)
picked (Some s) e rest f h k g = g s

commands_ranged : (t : SortTable) (es : List Expr) → AreRanged es → AreRanged (commands_from t es)
commands_ranged t [] h = tt
commands_ranged t (e ∷ es) h =
    picked (definition_of t e) (resolved t.sorts (part.Members row.Command) e) (commands_from (after t (form e)) es) (λ s. commands_from (with_sort t s) es)
    (resolved_ranged t.sorts (part.Members row.Command) e h.0) (commands_ranged (after t (form e)) es h.1) (λ s. commands_ranged (with_sort t s) es h.1)

either_ranged : (b : Bool) (es fs : List Expr) → AreRanged es → AreRanged fs → AreRanged (if b then es else fs)
either_ranged true es fs h k = h
either_ranged false es fs h k = k

pub sorts_ranged : (es : List Expr) → AreRanged es → AreRanged (sorts_written_out es)
sorts_ranged es h = either_ranged (list_any defines_sort es) (commands_from no_sorts es) es (commands_ranged no_sorts es h) h
