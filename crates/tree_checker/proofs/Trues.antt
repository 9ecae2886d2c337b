-- A constraint is true exactly where it is the same as the true one.
use Rattle.std.proofs.Common.{◌≡◌, List, [], ◌∷◌, refl}
use Rattle.clause_set.specs.declared.literal.Literal.{Literal}
use Rattle.clause_set.specs.Dnfs.{is_top, top}
use Rattle.proof_tree.specs.Walk.{is_same}

pub top_same : (d : List (List Literal)) → is_top d ≡ is_same d top
top_same [] = refl
top_same ([] ∷ []) = refl
top_same ([] ∷ (c ∷ cs)) = refl
top_same ((l ∷ ls) ∷ cs) = refl
