-- What a finite model with defaults says of functions and predicates.
use Rattle.std.specs.Prelude.{◌≡◌, ℕ, zero, suc, ℤ, pos, Bool, true, false, List, [], ◌∷◌, if◌then◌else◌}
use Rattle.std.specs.List.{AllByRecursion}
use Rattle.std.specs.Ordering.{int_eq}
use Rattle.std.specs.Cmp.Lexicographic.{pointwise}
use Rattle.form_typed.specs.Truth.{Meaning}
use Rattle.model_table.specs.declared.model.ValueEntry.{ValueEntry}
use Rattle.model_table.specs.declared.model.TruthEntry.{TruthEntry}
use Rattle.model_table.specs.declared.model.FunctionModel.{FunctionModel}
use Rattle.model_table.specs.declared.model.PredicateModel.{PredicateModel}
use Rattle.model_table.specs.declared.model.Model.{Model}

-- a row at these integers is one for xs
abbrev pub is_at : List ℤ → List ℤ → Bool
is_at at xs = pointwise int_eq at xs

-- the value of the first row for xs, else the default
abbrev pub value_in : List ValueEntry → ℤ → List ℤ → ℤ
value_in [] d xs = d
value_in (row ∷ rows) d xs = if is_at row.at xs then row.value else value_in rows d xs

-- the truth of the first row for xs, else the default
abbrev pub truth_in : List TruthEntry → Bool → List ℤ → Bool
truth_in [] d xs = d
truth_in (row ∷ rows) d xs = if is_at row.at xs then row.truth else truth_in rows d xs

-- the value of the function f at xs; 0 where it is missing
abbrev pub value_at : List FunctionModel → ℕ → List ℤ → ℤ
value_at [] f xs = pos 0
value_at (t ∷ ts) zero xs = value_in t.rows t.default xs
value_at (t ∷ ts) (suc f) xs = value_at ts f xs

-- whether the predicate p is true at xs; it is not where it is missing
abbrev pub truth_at : List PredicateModel → ℕ → List ℤ → Bool
truth_at [] p xs = false
truth_at (t ∷ ts) zero xs = truth_in t.rows t.default xs
truth_at (t ∷ ts) (suc p) xs = truth_at ts p xs

-- the interpretation that a model is
abbrev pub meaning_of : Model → Meaning
meaning_of m = record { truth = truth_at m.predicates; value = value_at m.functions }

-- no row is for xs
abbrev pub NoValueAt : List ℤ → List ValueEntry → Type 0
NoValueAt xs rows = AllByRecursion (λ row. ¬ (row.at ≡ xs)) rows

abbrev pub NoTruthAt : List ℤ → List TruthEntry → Type 0
NoTruthAt xs rows = AllByRecursion (λ row. ¬ (row.at ≡ xs)) rows
