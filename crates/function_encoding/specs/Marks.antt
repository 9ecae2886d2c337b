-- Marks for some names.
use Rattle.std.specs.Prelude.{◌≡◌, ◌<◌, ℕ, Bool, true, false, List, [], ◌∷◌, length}
use Rattle.std.specs.List.{filter, flat_map, slice_index_or, slice_set}
use Rattle.form_typed.specs.Formula.{Formula}
use Rattle.pri_typing.specs.Problems.{is_part_in}
use Rattle.pri_typing.specs.WellFormed.{SignedFormula}
use Rattle.form_encoding.specs.Occurrences.{names_in, occurs}

-- the names in those components that are parts of this set
abbrev pub names_of_parts : List ℕ → List SignedFormula → List ℕ
names_of_parts set cs = flat_map (λ c. names_in c.what) (filter (λ c. is_part_in set c.what) cs)

-- the marks, with that of x set; a name without a mark is passed over
abbrev pub with_mark : List Bool → ℕ → List Bool
with_mark marks x = slice_set marks x true

-- the marks, with those of the names xs set
abbrev pub marked : List Bool → List ℕ → List Bool
marked marks [] = marks
marked marks (x ∷ xs) = marked (with_mark marks x) xs

-- the mark of x is set
abbrev pub is_marked : List Bool → ℕ → Bool
is_marked marks x = slice_index_or marks x false

-- a mark for each of n names, set where the name stands in the formula
pub record AreMarks (n : ℕ) (f : Formula) (marks : List Bool) : Type 0 where
  pub many : length marks ≡ n
  pub exact : (x : ℕ) → x < n → is_marked marks x ≡ occurs x f
