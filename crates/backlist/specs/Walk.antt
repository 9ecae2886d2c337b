-- A walk over a list, as a caller sees it: from `first` on by `next`.
use Rattle.std.specs.Prelude.{◌≡◌, ℕ, List, ◌++◌, length, Option}
use Rattle.backlist.specs.declared.boxes.Pos.{Pos}
use Rattle.backlist.specs.Links.{first_place}

-- n items were passed, and `at` is the place of the next one
pub record IsWalk {T : Type 0} (is : List (Pos × T)) (n : ℕ) (at : Option Pos) : Type 0 where
  pub passed : List (Pos × T)
  pub rest : List (Pos × T)
  pub whole : is ≡ passed ++ rest
  pub count : length passed ≡ n
  pub next : at ≡ first_place rest
