-- The weights of what bodies become, as `shape_said` says it of formulas and terms: with the weight of what replaces each bound
-- name.
use Rattle.std.specs.Prelude.{◌≡◌, ℕ, zero, suc, ◌<◌, Bool, true, false, List, [], ◌∷◌, ◌++◌, length, nat_eq, get_or, if◌then◌else◌}
use Rattle.smt_terms.specs.declared.operator.Operator.{Operator}
use Rattle.smt_names.specs.declared.body.Leaf.{Leaf}
use Rattle.smt_names.specs.declared.body.Leaf.TheVariants as l
use Rattle.smt_names.specs.declared.body.Body.{Body}
use Rattle.smt_names.specs.Body.{Shape, Shapes, leaf, operation, function, predicate, defined, let_in, quantified, no_shape, and_shape}
use Rattle.smt_names.specs.Saying.{shapes_onto}
use Rattle.smt_sizes.specs.declared.weight.Weight.{Weight}
use Rattle.smt_sizes.specs.declared.forms.Form.{Form}
use Rattle.smt_sizes.specs.Weight.{nothing, unit, node, times, over}
use Rattle.smt_sizes.specs.Weights.{Weighed}
use Rattle.smt_sizes.specs.Linear.{Sum, sum, start, value, kinds, weights, as_kind}
use Rattle.smt_sizes.specs.Operators.{operator_kind, operator_sum, each}

abbrev pub formula_of : Weight → Weighed
formula_of w = record { is_formula = true; weight = w }

abbrev pub term_of : Weight → Weighed
term_of w = record { is_formula = false; weight = w }

abbrev pub leaf_weighed : List Weighed → Leaf → Weighed
leaf_weighed ws (l.Number v) = term_of node
leaf_weighed ws (l.Truth b) = formula_of node
leaf_weighed ws (l.Constant k) = term_of node
leaf_weighed ws (l.Slot k) = get_or ws k (formula_of node)

-- an operator at its arguments
abbrev pub operated : Operator → List Weighed → Weighed
operated o xs = record { is_formula = operator_kind o (kinds xs); weight = value (operator_sum o (kinds xs)) (weights xs) }

-- a function or a predicate at its arguments: a node over terms
abbrev pub applied : List Bool → Sum
applied bs = each false nothing node bs (start node)

-- this many nodes over something, each over the next
abbrev pub raised : ℕ → Weight → Weight
raised zero w = w
raised (suc k) w = over (raised k w)

-- the bound names with this many variables more
abbrev pub with_variables : ℕ → List Weighed → List Weighed
with_variables zero ws = ws
with_variables (suc k) ws = with_variables k (ws ++ term_of node ∷ [])

-- what the defined functions weigh, by number, at arguments of some weights
abbrev pub Weighing : Type 0
Weighing = ℕ → List Weighed → Weighed

abbrev mutual
  pub shape_weighed : Weighing → List Weighed → Shape → Weighed
  shape_weighed C ws (leaf x) = leaf_weighed ws x
  shape_weighed C ws (operation o ts) = operated o (shapes_weighed C ws ts)
  shape_weighed C ws (function k ts) = term_of (value (applied (kinds (shapes_weighed C ws ts))) (weights (shapes_weighed C ws ts)))
  shape_weighed C ws (predicate k ts) = formula_of (value (applied (kinds (shapes_weighed C ws ts))) (weights (shapes_weighed C ws ts)))
  shape_weighed C ws (defined k ts) = C k (shapes_weighed C ws ts)
  shape_weighed C ws (let_in bs t) = shape_weighed C (bound_weighed C ws bs) t
  shape_weighed C ws (quantified all k t) = formula_of (raised k (as_kind true (shape_weighed C (with_variables k ws) t)))

  pub shapes_weighed : Weighing → List Weighed → Shapes → List Weighed
  shapes_weighed C ws no_shape = []
  shapes_weighed C ws (and_shape t ts) = shape_weighed C ws t ∷ shapes_weighed C ws ts

  -- the bound names with more of them
  pub bound_weighed : Weighing → List Weighed → Shapes → List Weighed
  bound_weighed C ws no_shape = ws
  bound_weighed C ws (and_shape t ts) = bound_weighed C (ws ++ shape_weighed C ws t ∷ []) ts

-- the defined functions of these bodies, the last one first; each may use those before it
abbrev pub weighing : List Shape → Weighing
weighing [] k xs = formula_of node
weighing (t ∷ ts) k xs = if nat_eq k (length ts) then shape_weighed (weighing ts) xs t else weighing ts k xs

-- the defined functions of the code
abbrev pub weighing_of : List Body → Weighing
weighing_of bs = weighing (shapes_onto [] bs)

-- none of the kinds is that of a formula
abbrev pub no_formula : List Bool → Bool
no_formula [] = true
no_formula (true ∷ bs) = false
no_formula (false ∷ bs) = no_formula bs

-- all of them terms
abbrev pub AreTerms : List Weighed → Type 0
AreTerms xs = no_formula (kinds xs) ≡ true

-- A form says what a defined function weighs at as many terms as it has factors, cut off above the limits.
abbrev pub IsForm : Form → (List Weighed → Weighed) → Type 0
IsForm f W = (xs : List Weighed) → AreTerms xs → length xs ≡ length f.linear.uses.items
    → ((W xs).is_formula ≡ f.is_formula) × (times unit (W xs).weight ≡ value (sum f.linear) (weights xs))

-- Each form is that of the defined function of its number.
unfoldable pub AreForms : List Form → List Body → Type 0
AreForms fs ds = (k : ℕ) (f : Form) → k < length fs → k < length ds → IsForm (get_or fs k f) (weighing_of ds k)
