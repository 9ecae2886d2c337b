-- Constraints that are true.
use Rattle.std.specs.Prelude.{Bool, true, ◌&&◌, List, [], ◌∷◌}
use Rattle.clause_set.specs.declared.literal.Literal.{Literal}
use Rattle.clause_set.specs.Dnfs.{is_top}

abbrev pub are_top : List (List (List Literal)) → Bool
are_top [] = true
are_top (d ∷ ds) = is_top d && are_top ds
