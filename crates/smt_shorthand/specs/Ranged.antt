-- Numerals in range, and lists of few members.
use Rattle.std.specs.Prelude.{ℕ, suc, ◌≤◌}
use Rattle.linear_term.specs.Range.{InRange}
use Rattle.smt_lists.specs.declared.tree.AtomKind.{AtomKind}
use Rattle.smt_lists.specs.declared.tree.AtomKind.TheVariants as k
use Rattle.smt_lists.specs.Expressions.{Expr, Exprs, atom, list, no_expr, and_expr}

-- the numerals of an S-expression are in the range of coefficients, those apart that are known to be above
abbrev pub IsRangedAtom : AtomKind → Type 0
IsRangedAtom (k.Numeral n) = InRange n
IsRangedAtom _ = Unit {0}

abbrev mutual
  pub IsRangedExpr : Expr → Type 0
  IsRangedExpr (atom a) = IsRangedAtom a.kind
  IsRangedExpr (list at es) = AreRangedExprs es

  pub AreRangedExprs : Exprs → Type 0
  AreRangedExprs no_expr = Unit {0}
  AreRangedExprs (and_expr e es) = IsRangedExpr e × AreRangedExprs es

-- how many members a list has
abbrev pub members : Exprs → ℕ
members no_expr = 0
members (and_expr e es) = suc (members es)

abbrev mutual
  -- the lists of an S-expression have at most n members
  pub IsNarrow : ℕ → Expr → Type 0
  IsNarrow n (atom a) = Unit {0}
  IsNarrow n (list at es) = (members es ≤ n) × AreNarrow n es

  pub AreNarrow : ℕ → Exprs → Type 0
  AreNarrow n no_expr = Unit {0}
  AreNarrow n (and_expr e es) = IsNarrow n e × AreNarrow n es
