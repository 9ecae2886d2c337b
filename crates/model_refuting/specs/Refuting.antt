-- Counterexamples by finite models.
use Rattle.std.specs.Prelude.{◌≡◌, ℕ, ℤ, List, [], ◌∷◌, ◌++◌, length, map}
use Rattle.std.specs.List.{AllByRecursion}
use Rattle.std.specs.List.Sorted.{IsStrictlySortedBy}
use Rattle.std.specs.Ordering.{int_cmp}
use Rattle.std.specs.Cmp.Lexicographic.{slice_cmp}
use Rattle.form_typed.specs.Formula.{formula}
use Rattle.form_typed.specs.Sorts.{AreValuesOf}
use Rattle.form_typed.specs.Truth.{Truth}
use Rattle.model_table.specs.Models.{meaning_of}
use Rattle.model_table.specs.declared.model.ValueEntry.{ValueEntry}
use Rattle.model_table.specs.declared.model.TruthEntry.{TruthEntry}
use Rattle.model_table.specs.declared.model.FunctionModel.{FunctionModel}
use Rattle.model_table.specs.declared.model.PredicateModel.{PredicateModel}
use Rattle.model_table.specs.declared.model.Model.{Model}
use Rattle.pri_typing.specs.declared.problem.Problem.{Problem}
use Rattle.pri_typing.specs.declared.problem.Symbol.{Symbol}

-- lists of n arguments each, strictly sorted: no two are the same
pub record AreArguments (n : ℕ) (places : List (List ℤ)) : Type 0 where
  pub many : AllByRecursion (λ xs. length xs ≡ n) places
  pub sorted : IsStrictlySortedBy (slice_cmp int_cmp) places

-- there are no more of these than symbols, and each has lists of arguments for the symbol at its place
abbrev pub AreArgumentsOf : List Symbol → List (List (List ℤ)) → Type 0
AreArgumentsOf symbols [] = Unit {0}
AreArgumentsOf [] (places ∷ more) = ⊥
AreArgumentsOf (y ∷ symbols) (places ∷ more) = AreArguments y.arity places × AreArgumentsOf symbols more

-- where a function has rows, where a predicate has
abbrev pub function_places : FunctionModel → List (List ℤ)
function_places f = map (λ (r : ValueEntry). r.at) f.rows

abbrev pub predicate_places : PredicateModel → List (List ℤ)
predicate_places p = map (λ (r : TruthEntry). r.at) p.rows

-- Each function and predicate of the model is declared. Its rows have as many arguments, and are strictly sorted by them.
pub record FitsSymbols (p : Problem) (m : Model) : Type 0 where
  pub functions : AreArgumentsOf p.functions (map function_places m.functions)
  pub predicates : AreArgumentsOf p.predicates (map predicate_places m.predicates)

-- A finite model and values of the universal constants, each of its constant's type. With the values e of the existential constants
-- the problem's formula is not true there.
pub record IsModelCounterexample (p : Problem) (e : List ℤ) (m : Model) (us : List ℤ) : Type 0 where
  pub many : length e ≡ length p.existentials
  pub fit : length us ≡ length p.universals
  pub typed : AreValuesOf p.universal_types us
  pub fails : ¬ (Truth (meaning_of m) (formula p.formula) (e ++ us))
  pub symbols : FitsSymbols p m
