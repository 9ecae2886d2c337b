-- S-expressions (SMT-LIB 2.6, section 3.2) as trees of the logic, and the tree that an S-expression of the code is. All that
-- goes by recursion on an S-expression speaks of these trees.
use Rattle.std.specs.Prelude.{ℕ, List, [], ◌∷◌, map}
use Rattle.smt_lists.specs.declared.tree.Atom.{Atom}
use Rattle.smt_lists.specs.declared.tree.Sexp.{Sexp}
use Rattle.smt_lists.specs.declared.tree.Sexp.TheOpen as o
use Rattle.smt_lists.specs.declared.tree.Sexp.TheOpen.{Sexp-F}
use Rattle.smt_lists.specs.declared.tree.Sexp.TheFolds.{fold-Sexp}

mutual
  -- an atom, or a list with the offset of its `(`
  pub data Expr : Type 0 where
    atom : Atom → Expr
    list : ℕ → Exprs → Expr

  -- the members of a list, in order
  pub data Exprs : Type 0 where
    no_expr : Exprs
    and_expr : Expr → Exprs → Exprs

-- the S-expressions of a list, in order
abbrev pub exprs : List Expr → Exprs
exprs [] = no_expr
exprs (e ∷ es) = and_expr e (exprs es)

abbrev pub expr_step : Sexp-F Expr → Expr
expr_step (o.Atom a) = atom a
expr_step (o.List at es) = list at (exprs es)

-- the tree that an S-expression of the code is
abbrev pub expr : Sexp → Expr
expr = fold-Sexp Expr expr_step

-- the trees that a list of S-expressions is
abbrev pub exprs_of : List Sexp → Exprs
exprs_of es = exprs (map expr es)

-- the offset of the first byte
abbrev pub place_of : Expr → ℕ
place_of (atom a) = a.at
place_of (list at es) = at
