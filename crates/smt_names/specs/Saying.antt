-- What bodies become, as `said` says it of terms: with what replaces each bound name, by its number.
use Rattle.std.specs.Prelude.{ℕ, zero, suc, ◌+◌, Bool, true, false, List, [], ◌∷◌, ◌++◌, map, length, nat_eq, get_or, if◌then◌else◌}
use Rattle.form_typed.specs.declared.typed.Sort.TheVariants as sort
use Rattle.form_typed.specs.Formula as logic
use Rattle.form_typed.specs.Formula.{Formula, expressions}
use Rattle.smt_terms.specs.Translation.{a_formula, a_term, formula_in, term_in, operated, Standing, at_depth, variable}
use Rattle.smt_names.specs.declared.body.Leaf.{Leaf}
use Rattle.smt_names.specs.declared.body.Leaf.TheVariants as l
use Rattle.smt_names.specs.declared.body.Body.{Body}
use Rattle.smt_names.specs.Body.{Shape, Shapes, leaf, operation, function, predicate, defined, let_in, quantified, no_shape, and_shape, shape}

-- what is of no interest
abbrev pub nothing : Standing
nothing n = a_formula (logic.constant false)

abbrev pub leaf_said : List Standing → Leaf → Standing
leaf_said e (l.Number v) n = a_term (logic.number v)
leaf_said e (l.Truth b) n = a_formula (logic.constant b)
leaf_said e (l.Constant k) n = a_term (logic.name k)
leaf_said e (l.Slot k) n = get_or e k nothing n

-- a quantifier over a formula
abbrev pub quantified_by : Bool → Formula → Formula
quantified_by true f = logic.for_all sort.Int f
quantified_by false f = logic.for_some sort.Int f

-- this many of them
abbrev pub quantified_over : Bool → ℕ → Formula → Formula
quantified_over all zero f = f
quantified_over all (suc k) f = quantified_by all (quantified_over all k f)

-- the bound names with this many variables more, the first of which is the name n
abbrev pub with_variables : ℕ → List Standing → ℕ → List Standing
with_variables zero e n = e
with_variables (suc k) e n = with_variables k (e ++ variable n ∷ []) (suc n)

-- what the defined functions become, by number, at what their arguments are replaced by
abbrev pub Calls : Type 0
Calls = ℕ → List Standing → Standing

abbrev mutual
  -- what a body becomes where the bound names are replaced so
  pub shape_said : Calls → List Standing → Shape → Standing
  shape_said D e (leaf x) n = leaf_said e x n
  shape_said D e (operation o ts) n = operated o (at_depth n (shapes_said D e ts))
  shape_said D e (function k ts) n = a_term (logic.call k (expressions (map term_in (at_depth n (shapes_said D e ts)))))
  shape_said D e (predicate k ts) n = a_formula (logic.applies k (expressions (map term_in (at_depth n (shapes_said D e ts)))))
  shape_said D e (defined k ts) n = D k (shapes_said D e ts) n
  shape_said D e (let_in bs t) n = shape_said D (bound_said D e bs) t n
  shape_said D e (quantified all k t) n = a_formula (quantified_over all k (formula_in (shape_said D (with_variables k e n) t (n + k))))

  -- what each of several becomes
  pub shapes_said : Calls → List Standing → Shapes → List Standing
  shapes_said D e no_shape = []
  shapes_said D e (and_shape t ts) = shape_said D e t ∷ shapes_said D e ts

  -- the bound names with more of them
  pub bound_said : Calls → List Standing → Shapes → List Standing
  bound_said D e no_shape = e
  bound_said D e (and_shape t ts) = bound_said D (e ++ shape_said D e t ∷ []) ts

-- the defined functions of these bodies, the last one first; each may use those before it
abbrev pub calls : List Shape → Calls
calls [] k ss n = nothing n
calls (t ∷ ts) k ss n = if nat_eq k (length ts) then shape_said (calls ts) ss t n else calls ts k ss n

-- the bodies of a list put before others, so that the last one comes first
abbrev pub shapes_onto : List Shape → List Body → List Shape
shapes_onto before [] = before
shapes_onto before (b ∷ bs) = shapes_onto (shape b ∷ before) bs

-- the defined functions of the code
abbrev pub calls_of : List Body → Calls
calls_of bs = calls (shapes_onto [] bs)
