-- The text of a counterexample in a finite model: the values of the universal constants, and of each symbol the rows that say other
-- than its default, and the default.
use Rattle.std.specs.Prelude.{ℕ, zero, suc, ℤ, pos, Bool, not, List, [], ◌∷◌, ◌++◌, map, replicate, nat_eq, if◌then◌else◌, codes}
use Rattle.std.specs.Bool.{beq}
use Rattle.std.specs.List.{filter}
use Rattle.std.specs.Ordering.{int_eq}
use Rattle.model_table.specs.Models.{truth_in, value_in}
use Rattle.model_table.specs.declared.model.FunctionModel.{FunctionModel}
use Rattle.model_table.specs.declared.model.Model.{Model}
use Rattle.model_table.specs.declared.model.PredicateModel.{PredicateModel}
use Rattle.model_table.specs.declared.model.TruthEntry.{TruthEntry}
use Rattle.model_table.specs.declared.model.ValueEntry.{ValueEntry}
use Rattle.pri_typing.specs.declared.problem.Problem.{Problem}
use Rattle.pri_typing.specs.declared.problem.Symbol.{Symbol}
use Rattle.pri_printer.specs.Counterexample.{applied_text, lines_text}
use Rattle.pri_printer.specs.Text.{behind_each, value_text, value_texts}

-- a symbol at any n integers: an underscore for each
abbrev pub anywhere_text : List ℕ → ℕ → List ℕ
anywhere_text name zero = name
anywhere_text name (suc n) = name ++ (codes "(" ++ (codes "_" ++ (behind_each (codes ", ") (replicate n (codes "_")) ++ codes ")")))

-- a predicate is true at these integers, or it is not
abbrev pub signed_text : List ℕ → TruthEntry → List ℕ
signed_text name r = (if r.truth then [] else codes "!") ++ applied_text name r.at

-- the rows of a predicate that say other than its default
abbrev pub truth_lines : List ℕ → Bool → List TruthEntry → List (List ℕ)
truth_lines name d rows = map (signed_text name) (filter (λ r. not (beq r.truth d)) rows)

-- a predicate that is true everywhere, or else nowhere
abbrev pub default_truth : Symbol → Bool → List (List ℕ)
default_truth y d = if d then anywhere_text y.name y.arity ∷ [] else []

-- what a model says of a predicate; of one without arguments its truth
abbrev pub predicate_lines : Symbol → PredicateModel → List (List ℕ)
predicate_lines y t =
    if nat_eq y.arity 0 then default_truth y (truth_in t.rows t.default []) else (truth_lines y.name t.default t.rows ++ default_truth y t.default)

-- the rows of a function with other values than its default
abbrev pub value_lines : List ℕ → ℤ → List ValueEntry → List (List ℕ)
value_lines name d rows = map (λ r. value_text (applied_text name r.at) r.value) (filter (λ r. not (int_eq r.value d)) rows)

-- a function has this value everywhere; a value 0 is not said
abbrev pub default_value : Symbol → ℤ → List (List ℕ)
default_value y d = if int_eq d (pos 0) then [] else value_text (anywhere_text y.name y.arity) d ∷ []

-- what a model says of a function; of one without arguments its value
abbrev pub function_lines : Symbol → FunctionModel → List (List ℕ)
function_lines y t =
    if nat_eq y.arity 0 then default_value y (value_in t.rows t.default []) else (value_lines y.name t.default t.rows ++ default_value y t.default)

-- what a model says of each predicate, of each function
abbrev pub predicates_lines : List Symbol → List PredicateModel → List (List ℕ)
predicates_lines (y ∷ symbols) (t ∷ models) = predicate_lines y t ++ predicates_lines symbols models
predicates_lines _ _ = []

abbrev pub functions_lines : List Symbol → List FunctionModel → List (List ℕ)
functions_lines (y ∷ symbols) (t ∷ models) = function_lines y t ++ functions_lines symbols models
functions_lines _ _ = []

-- the universal constants have these values, and the model gives the rest
abbrev pub model_text : Problem → List ℤ → Model → List ℕ
model_text p universals m =
    codes "counterexample:\n" ++ (lines_text (value_texts p.universals universals)
    ++ (lines_text (predicates_lines p.predicates m.predicates) ++ lines_text (functions_lines p.functions m.functions)))
