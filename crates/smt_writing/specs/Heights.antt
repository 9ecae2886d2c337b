-- How far the writing of a body goes down: through its parts, from a bound name to what replaces it, and from a call to the body
-- of the defined function.
use Rattle.std.specs.Prelude.{ℕ, zero, suc, ◌+◌, List, [], ◌∷◌, ◌++◌, length, nat_eq, get_or, if◌then◌else◌}
use Rattle.smt_names.specs.declared.body.Leaf.{Leaf}
use Rattle.smt_names.specs.declared.body.Leaf.TheVariants as l
use Rattle.smt_names.specs.declared.body.Body.{Body}
use Rattle.smt_names.specs.Body.{Shape, Shapes, leaf, operation, function, predicate, defined, let_in, quantified, no_shape, and_shape}
use Rattle.smt_names.specs.Saying.{shapes_onto}

-- how far a call of a defined function goes down at arguments of some heights
abbrev pub Costs : Type 0
Costs = ℕ → List ℕ → ℕ

abbrev pub leaf_height : List ℕ → Leaf → ℕ
leaf_height e (l.Slot k) = suc (get_or e k 0)
leaf_height e (l.Number v) = 0
leaf_height e (l.Truth b) = 0
leaf_height e (l.Constant k) = 0

-- all together
abbrev pub total_height : List ℕ → ℕ
total_height [] = 0
total_height (h ∷ hs) = suc (h + total_height hs)

-- the heights of bound names with those of this many variables
abbrev pub with_zeros : ℕ → List ℕ → List ℕ
with_zeros zero e = e
with_zeros (suc k) e = with_zeros k (e ++ 0 ∷ [])

abbrev mutual
  pub height : Costs → List ℕ → Shape → ℕ
  height C e (leaf x) = suc (suc (leaf_height e x))
  height C e (operation o ts) = suc (total_height (heights C e ts))
  height C e (function k ts) = suc (total_height (heights C e ts))
  height C e (predicate k ts) = suc (total_height (heights C e ts))
  height C e (defined k ts) = suc (suc (C k (heights C e ts)))
  height C e (let_in bs t) = suc (height C (bound_heights C e bs) t)
  height C e (quantified all k t) = suc (height C (with_zeros k e) t)

  pub heights : Costs → List ℕ → Shapes → List ℕ
  heights C e no_shape = []
  heights C e (and_shape t ts) = height C e t ∷ heights C e ts

  pub bound_heights : Costs → List ℕ → Shapes → List ℕ
  bound_heights C e no_shape = e
  bound_heights C e (and_shape t ts) = bound_heights C (e ++ height C e t ∷ []) ts

-- those of the defined functions of these bodies, the last one first
abbrev pub costs : List Shape → Costs
costs [] k hs = 0
costs (t ∷ ts) k hs = if nat_eq k (length ts) then height (costs ts) hs t else costs ts k hs

-- those of the defined functions of the code
abbrev pub costs_of : List Body → Costs
costs_of bs = costs (shapes_onto [] bs)
