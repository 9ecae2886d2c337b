-- Bodies as trees of the logic, and the tree that a body of the code is.
use Rattle.std.specs.Prelude.{ℕ, Bool, List, [], ◌∷◌, map}
use Rattle.smt_terms.specs.declared.operator.Operator.{Operator}
use Rattle.smt_names.specs.declared.body.Leaf.{Leaf}
use Rattle.smt_names.specs.declared.body.Body.{Body}
use Rattle.smt_names.specs.declared.body.Body.TheOpen as o
use Rattle.smt_names.specs.declared.body.Body.TheOpen.{Body-F}
use Rattle.smt_names.specs.declared.body.Body.TheFolds.{fold-Body}

mutual
  -- what a term says
  pub data Shape : Type 0 where
    leaf : Leaf → Shape
    operation : Operator → Shapes → Shape
    function : ℕ → Shapes → Shape
    predicate : ℕ → Shapes → Shape
    defined : ℕ → Shapes → Shape
    let_in : Shapes → Shape → Shape
    -- over this many names, true for `forall`
    quantified : Bool → ℕ → Shape → Shape

  -- a list of them
  pub data Shapes : Type 0 where
    no_shape : Shapes
    and_shape : Shape → Shapes → Shapes

-- those of a list, in order
abbrev pub shapes : List Shape → Shapes
shapes [] = no_shape
shapes (s ∷ ss) = and_shape s (shapes ss)

abbrev pub shape_step : Body-F Shape → Shape
shape_step (o.Leaf l) = leaf l
shape_step (o.Operated op ts) = operation op (shapes ts)
shape_step (o.Function k ts) = function k (shapes ts)
shape_step (o.Predicate k ts) = predicate k (shapes ts)
shape_step (o.Defined k ts) = defined k (shapes ts)
shape_step (o.Let bs t) = let_in (shapes bs) t
shape_step (o.Quantified all k t) = quantified all k t

-- the tree that a body of the code is
abbrev pub shape : Body → Shape
shape = fold-Body Shape shape_step

-- the trees of a list of bodies
abbrev pub shapes_of : List Body → Shapes
shapes_of bs = shapes (map shape bs)
