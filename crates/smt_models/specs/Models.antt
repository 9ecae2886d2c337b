-- The response to `get-model`: the definitions that a model and values of the Int constants give, and their text.
use Rattle.std.specs.Prelude.{ℕ, zero, suc, ℤ, pos, Bool, false, List, [], ◌∷◌, ◌++◌, Option, Some, None, codes, nat_eq, if◌then◌else◌}
use Rattle.std.specs.List.{flat_map}
use Rattle.model_table.specs.Models.{truth_in}
use Rattle.model_table.specs.declared.model.FunctionModel.{FunctionModel}
use Rattle.model_table.specs.declared.model.Model.{Model}
use Rattle.model_table.specs.declared.model.PredicateModel.{PredicateModel}
use Rattle.model_table.specs.declared.model.TruthEntry.{TruthEntry}
use Rattle.model_table.specs.declared.model.ValueEntry.{ValueEntry}
use Rattle.pri_typing.specs.declared.problem.Problem.{Problem}
use Rattle.pri_typing.specs.declared.problem.Symbol.{Symbol}
use Rattle.smt_terms.specs.Term.{PlacedTerm}
use Rattle.smt_terms.specs.declared.operator.Sort.{Sort}
use Rattle.smt_terms.specs.declared.operator.Sort.TheVariants as sort
use Rattle.smt_models.specs.Defined.{Definition}
use Rattle.smt_models.specs.Printed.{text}
use Rattle.smt_models.specs.Symbols.{symbol_text}
use Rattle.smt_models.specs.Terms.{argument, integer_term, truth_term, truths_term, values_term}

-- an Int constant by its value
abbrev pub constant_definition : List ℕ → ℤ → Definition
constant_definition x v = record { name = x; arity = 0; sort = sort.Int; body = integer_term v }

-- the constants with their values, in order
abbrev pub constant_definitions : List (List ℕ) → List ℤ → List Definition
constant_definitions (x ∷ xs) (v ∷ vs) = constant_definition x v ∷ constant_definitions xs vs
constant_definitions _ _ = []

-- a function by its rows and its default
abbrev pub values_definition : Symbol → List ValueEntry → ℤ → Definition
values_definition y rows d = record { name = y.name; arity = y.arity; sort = sort.Int; body = values_term rows d }

-- a function by its table; without one it is 0 everywhere
abbrev pub function_definition : Symbol → Option FunctionModel → Definition
function_definition y None = values_definition y [] (pos 0)
function_definition y (Some t) = values_definition y t.rows t.default

-- the functions by their tables, in order
abbrev pub function_definitions : List Symbol → List FunctionModel → List Definition
function_definitions [] ts = []
function_definitions (y ∷ ys) [] = function_definition y None ∷ function_definitions ys []
function_definitions (y ∷ ys) (t ∷ ts) = function_definition y (Some t) ∷ function_definitions ys ts

-- the term of a predicate with this many arguments; without arguments its truth
abbrev pub truths_body : ℕ → List TruthEntry → Bool → PlacedTerm
truths_body n rows d = if nat_eq n 0 then truth_term (truth_in rows d []) else truths_term rows d

-- a predicate by its rows and its default
abbrev pub truths_definition : Symbol → List TruthEntry → Bool → Definition
truths_definition y rows d = record { name = y.name; arity = y.arity; sort = sort.Bool; body = truths_body y.arity rows d }

-- a predicate by its table; without one it is false everywhere
abbrev pub predicate_definition : Symbol → Option PredicateModel → Definition
predicate_definition y None = truths_definition y [] false
predicate_definition y (Some t) = truths_definition y t.rows t.default

-- the predicates by their tables, in order
abbrev pub predicate_definitions : List Symbol → List PredicateModel → List Definition
predicate_definitions [] ts = []
predicate_definitions (y ∷ ys) [] = predicate_definition y None ∷ predicate_definitions ys []
predicate_definitions (y ∷ ys) (t ∷ ts) = predicate_definition y (Some t) ∷ predicate_definitions ys ts

-- the definitions of a response: the Int constants, the functions and the predicates, each in the order of their declarations
abbrev pub definitions : Problem → Model → List ℤ → List Definition
definitions p m us = constant_definitions p.universals us ++ (function_definitions p.functions m.functions ++ predicate_definitions p.predicates m.predicates)

-- a parameter of the sort Int, after a blank if it is not the first
abbrev pub parameter_text : ℕ → List ℕ
parameter_text k = (if nat_eq k 0 then [] else codes " ") ++ (codes "(" ++ (argument k ++ codes " Int)"))

-- this many parameters from number k on
abbrev pub parameters_text : ℕ → ℕ → List ℕ
parameters_text k zero = []
parameters_text k (suc n) = parameter_text k ++ parameters_text (suc k) n

abbrev pub sort_text : Sort → List ℕ
sort_text sort.Int = codes "Int"
sort_text sort.Bool = codes "Bool"

-- a definition up to its body
abbrev pub head_text : List ℕ → ℕ → Sort → List ℕ
head_text x n k = codes "  (define-fun " ++ (symbol_text x ++ (codes " (" ++ (parameters_text 0 n ++ (codes ") " ++ (sort_text k ++ codes " ")))))

-- the line of a definition
unfoldable pub definition_text : Definition → List ℕ
definition_text d = head_text d.name d.arity d.sort ++ (text d.body ++ codes ")\n")

-- the response
abbrev pub model_text : Problem → Model → List ℤ → List ℕ
model_text p m us = codes "(\n" ++ (flat_map definition_text (definitions p m us) ++ codes ")\n")
