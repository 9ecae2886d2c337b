-- What a finite table says of predicates and functions.
use Rattle.std.specs.Prelude.{◌≡◌, ℕ, ℤ, Bool, true, false, List, [], ◌∷◌, pos, ◌&&◌, nat_eq, if◌then◌else◌}
use Rattle.std.specs.Ordering.{int_eq}
use Rattle.std.specs.Cmp.Lexicographic.{pointwise}
use Rattle.form_typed.specs.declared.world.TruthRow.{TruthRow}
use Rattle.form_typed.specs.declared.world.ValueRow.{ValueRow}
use Rattle.form_typed.specs.declared.world.Table.{Table}
use Rattle.form_typed.specs.Truth.{Meaning}

-- a row of this number at these integers is one for the number f at xs
abbrev pub is_row_for : ℕ → List ℤ → ℕ → List ℤ → Bool
is_row_for id at f xs = nat_eq id f && pointwise int_eq at xs

-- some row says that the predicate p is true at xs
abbrev pub is_true_at_row : List TruthRow → ℕ → List ℤ → Bool
is_true_at_row [] p xs = false
is_true_at_row (row ∷ rows) p xs = if is_row_for row.id row.at p xs then true else is_true_at_row rows p xs

-- the value of the function f at xs: that of the first row for them, else 0
abbrev pub value_at_row : List ValueRow → ℕ → List ℤ → ℤ
value_at_row [] f xs = pos 0
value_at_row (row ∷ rows) f xs = if is_row_for row.id row.at f xs then row.value else value_at_row rows f xs

-- the interpretation that a table gives
abbrev pub meaning_of : Table → Meaning
meaning_of t = record { truth = is_true_at_row t.truths; value = value_at_row t.values }

-- the row says a value of the function f at xs
pub record SaysValue (row : ValueRow) (f : ℕ) (xs : List ℤ) : Type 0 where
  pub function : row.id ≡ f
  pub arguments : row.at ≡ xs

-- the row says that the predicate p is true at xs
pub record SaysTruth (row : TruthRow) (p : ℕ) (xs : List ℤ) : Type 0 where
  pub predicate : row.id ≡ p
  pub arguments : row.at ≡ xs
