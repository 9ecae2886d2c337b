-- The response to `get-value` for symbols without parameters: their values in a model (SMT-LIB 2.6, section 4.2.7).
use Rattle.std.specs.Prelude.{ℕ, suc, ℤ, Bool, false, List, [], ◌∷◌, ◌++◌, Option, Some, None, codes, nat_eq, if◌then◌else◌}
use Rattle.std.specs.List.{flat_map, list_all, list_any, slice_get}
use Rattle.base_texts.specs.Texts.{is_text}
use Rattle.model_table.specs.Models.{truth_in}
use Rattle.model_table.specs.declared.model.Model.{Model}
use Rattle.model_table.specs.declared.model.PredicateModel.{PredicateModel}
use Rattle.pri_typing.specs.declared.problem.Problem.{Problem}
use Rattle.pri_typing.specs.declared.problem.Symbol.{Symbol}
use Rattle.smt_models.specs.declared.values.Value.{Value}
use Rattle.smt_models.specs.Printed.{text}
use Rattle.smt_models.specs.Symbols.{symbol_text}
use Rattle.smt_models.specs.Terms.{integer_term, truth_term}

-- the Int constants with the texts of their values
abbrev pub integer_values : List (List ℕ) → List ℤ → List Value
integer_values (x ∷ xs) (v ∷ vs) = record { name = x; text = text (integer_term v) } ∷ integer_values xs vs
integer_values _ _ = []

-- the truth of a predicate without arguments by its table; without one it is false
abbrev pub truth_by : Option PredicateModel → Bool
truth_by None = false
truth_by (Some t) = truth_in t.rows t.default []

-- the predicate of this number with the text of its truth, if it has no arguments
abbrev pub truth_value : Symbol → List PredicateModel → ℕ → List Value
truth_value y ts k = if nat_eq y.arity 0 then record { name = y.name; text = text (truth_term (truth_by (slice_get ts k))) } ∷ [] else []

-- so with each predicate, from this number on
abbrev pub truth_values : List Symbol → List PredicateModel → ℕ → List Value
truth_values [] ts k = []
truth_values (y ∷ ys) ts k = truth_value y ts k ++ truth_values ys ts (suc k)

-- the symbols without parameters, with the texts of their values
abbrev pub symbol_values : Problem → Model → List ℤ → List Value
symbol_values p m us = integer_values p.universals us ++ truth_values p.predicates m.predicates 0

-- a symbol has this name
abbrev pub is_named : List ℕ → Value → Bool
is_named x v = is_text x v.name

-- the text of the value of the first symbol of this name; nothing if there is none
abbrev pub value_named : List Value → List ℕ → List ℕ
value_named [] x = []
value_named (v ∷ vs) x = if is_named x v then v.text else value_named vs x

-- one of the symbols has this name
abbrev pub has_value : List Value → List ℕ → Bool
has_value vs x = list_any (is_named x) vs

-- a symbol and its value, in parentheses
abbrev pub pair_text : List Value → List ℕ → List ℕ
pair_text vs x = codes "(" ++ (symbol_text x ++ (codes " " ++ (value_named vs x ++ codes ")")))

-- that after a blank
abbrev pub further_pair : List Value → List ℕ → List ℕ
further_pair vs x = codes " " ++ pair_text vs x

-- symbols and their values, a blank between them
abbrev pub pairs_text : List Value → List (List ℕ) → List ℕ
pairs_text vs [] = []
pairs_text vs (x ∷ xs) = pair_text vs x ++ flat_map (further_pair vs) xs

-- the response for these symbols, if each has a value
abbrev pub values_text : List Value → List (List ℕ) → List ℕ
values_text vs xs = if list_all (has_value vs) xs then codes "(" ++ (pairs_text vs xs ++ codes ")\n") else codes "(error \"there is no value of one of these symbols\")\n"
