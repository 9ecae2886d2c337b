-- Commands in which Int and Bool stand in the place of sorts that come to them.
use Rattle.std.specs.Prelude.{ℕ, List, [], ◌∷◌, codes}
use Rattle.smt_lists.specs.declared.tree.AtomKind.TheVariants as k
use Rattle.smt_lists.specs.Expressions.{Expr, Exprs, atom, list, no_expr, and_expr, exprs, place_of}
use Rattle.smt_shorthand.specs.declared.places.Part.{Part}
use Rattle.smt_shorthand.specs.declared.places.Part.TheVariants as part
use Rattle.smt_shorthand.specs.declared.places.Row.{Row}
use Rattle.smt_shorthand.specs.declared.sorts.Sense.{Sense}
use Rattle.smt_shorthand.specs.declared.sorts.Sense.TheVariants as sense
use Rattle.smt_shorthand.specs.declared.sorts.DefinedSort.{DefinedSort}
use Rattle.smt_shorthand.specs.Places.{behind, first}
use Rattle.smt_shorthand.specs.Sorts.{sense_of}

-- the symbol of this text, at this offset
abbrev pub symbol_at : ℕ → List ℕ → Expr
symbol_at at text = atom (record { at = at; kind = k.Symbol text })

abbrev pub named_by : Sense → Expr → Expr
named_by sense.Int e = symbol_at (place_of e) (codes "Int")
named_by sense.Bool e = symbol_at (place_of e) (codes "Bool")
named_by _ e = e

-- Int or Bool in the place of a sort that comes to it; any other sort as it stands
abbrev pub sort_resolved : List DefinedSort → Expr → Expr
sort_resolved sorts e = named_by (sense_of sorts [] e) e

abbrev pub atom_resolved : List DefinedSort → Part → Expr → Expr
atom_resolved sorts part.Sort e = sort_resolved sorts e
atom_resolved sorts _ e = e

abbrev mutual
  -- an S-expression, by its place, in which Int and Bool stand in the place of sorts that come to them
  pub resolved : List DefinedSort → Part → Expr → Expr
  resolved sorts p (atom a) = atom_resolved sorts p (atom a)
  resolved sorts p (list at es) = elim p [
    | part.Other ↦ list at es
    | part.Sort ↦ sort_resolved sorts (list at es)
    | part.Members row ↦ list at (exprs (row_resolved sorts row es))
  ]

  -- the same for the members of a list
  pub row_resolved : List DefinedSort → Row → Exprs → List Expr
  row_resolved sorts row no_expr = []
  row_resolved sorts row (and_expr e es) = resolved sorts (first row) e ∷ row_resolved sorts (behind row e) es
