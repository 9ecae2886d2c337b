-- One command further.
use Rattle.std.proofs.Common.{◌≡◌, List, [], ◌∷◌, ◌++◌, map, refl, sym, ap, ◌∙◌, Option, Some, None}
use Rattle.smt_lists.specs.declared.tree.Sexp.{Sexp}
use Rattle.smt_lists.specs.Expressions.{Expr, expr}
use Rattle.smt_commands.specs.Faults.{form}
use Rattle.smt_shorthand.specs.declared.places.Part.TheVariants as part
use Rattle.smt_shorthand.specs.declared.places.Row.TheVariants as row
use Rattle.smt_shorthand.specs.declared.sorts.DefinedSort.{DefinedSort}
use Rattle.smt_shorthand.specs.declared.table.SortTable.{SortTable}
use Rattle.smt_shorthand.specs.Resolving.{resolved}
use Rattle.smt_shorthand.specs.Table.{after, definition_of, with_sort}
use Rattle.smt_shorthand.specs.Defining.{commands_from}

pub map_last : {A B : Type 0} (f : A → B) (xs : List A) (x : A) (ys : List B) → map f (xs ++ x ∷ []) ++ ys ≡ map f xs ++ f x ∷ ys
map_last f [] x ys = refl
map_last f (z ∷ xs) x ys = ap (λ k. f z ∷ k) (map_last f xs x ys)

passed : (t : SortTable) (e : Expr) (es : List Expr) (d : Option DefinedSort) → d ≡ None → (elim d [
  | None ↦ resolved t.sorts (part.Members row.Command) e ∷ commands_from (after t (form e)) es
  | Some s ↦ commands_from (with_sort t s) es
]) ≡ resolved t.sorts (part.Members row.Command) e ∷ commands_from (after t (form e)) es
passed t e es None k = refl
passed t e es (Some s) k = absurd (cc)

pub command_told : (t new : SortTable) (old out : List Sexp) (e made : Sexp) (es : List Expr) → definition_of t (expr e) ≡ None → out ≡ old ++ made ∷ []
    → expr made ≡ resolved t.sorts (part.Members row.Command) (expr e) → new ≡ after t (form (expr e)) → map expr out ++ commands_from new es ≡ map expr old ++ commands_from t (expr e ∷ es)
command_told t new old out e made es none more is then =
    ap (λ z. map expr z ++ commands_from new es) more ∙ map_last expr old made (commands_from new es)
    ∙ ap (λ z. map expr old ++ z ∷ commands_from new es) is
    ∙ ap (λ z. map expr old ++ resolved t.sorts (part.Members row.Command) (expr e) ∷ commands_from z es) then
    ∙ ap (λ z. map expr old ++ z) (sym (passed t (expr e) es (definition_of t (expr e)) none))
