-- Lists of clauses in which none is outdone by one after it.
use Rattle.std.specs.Prelude.{◌≡◌, false, List, [], ◌∷◌, reverse}
use Rattle.clause_set.specs.declared.literal.Literal.{Literal}
use Rattle.clause_set.specs.Dnfs.{is_covered, uncovered}

-- no clause is outdone by one after it
abbrev pub IsThin : List (List Literal) → Type 0
IsThin [] = Unit {0}
IsThin (c ∷ cs) = (is_covered cs c ≡ false) × IsThin cs

-- of the clauses cs those in left, the last one first, are left: none of the others is needed, and none of them is outdone by
-- one that was after it
pub record AreThinned (cs left : List (List Literal)) : Type 0 where
  pub same : uncovered (reverse left) ≡ uncovered cs
  pub thin : IsThin (reverse left)
