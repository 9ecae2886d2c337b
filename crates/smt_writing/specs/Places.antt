-- What a body says where it stands, and how far down it goes.
use Rattle.std.specs.Prelude.{ℕ, ◌≡◌, ◌+◌, ◌<◌, ◌≤◌, List, get_or, length, map}
use Rattle.form_typed.specs.Formula as logic
use Rattle.form_typed.specs.Formula.{Formula, expressions}
use Rattle.smt_terms.specs.Translation.{Standing, a_formula, a_term, at_depth, formula_in, operated, term_in}
use Rattle.smt_names.specs.Body.{shape, shapes_of}
use Rattle.smt_names.specs.Saying.{nothing, shape_said, shapes_said, quantified_over, with_variables, calls_of}
use Rattle.smt_writing.specs.declared.layers.Layer.{Layer}
use Rattle.smt_writing.specs.declared.places.Place.{Place}
use Rattle.smt_writing.specs.declared.places.Places.{Places}
use Rattle.smt_writing.specs.declared.places.Head.{Head}
use Rattle.smt_writing.specs.declared.places.Head.TheVariants as heads
use Rattle.smt_writing.specs.declared.places.Step.{Step}
use Rattle.smt_writing.specs.declared.places.Step.TheVariants as steps
use Rattle.smt_writing.specs.Heights.{height, heights, total_height, with_zeros, costs_of}
use Rattle.smt_writing.specs.Layers.{AreLayered, Extends, first_number, names_at, names_behind, heights_at, heights_behind}

-- what the body of a place becomes
abbrev pub place_said : List Layer → Place → Standing
place_said ls p = shape_said (calls_of p.definitions.now) (names_at ls p.layer) (shape p.body.now)

-- what each of several becomes
abbrev pub places_said : List Layer → Places → List Standing
places_said ls p = shapes_said (calls_of p.definitions.now) (names_at ls p.layer) (shapes_of p.bodies.now)

abbrev pub place_height : List Layer → Place → ℕ
place_height ls p = height (costs_of p.definitions.now) (heights_at ls p.layer) (shape p.body.now)

abbrev pub places_height : List Layer → Places → ℕ
places_height ls p = total_height (heights (costs_of p.definitions.now) (heights_at ls p.layer) (shapes_of p.bodies.now))

-- what a call of the defined function k at these arguments becomes
abbrev pub call_said : List Layer → ℕ → Places → Standing
call_said ls k ps = calls_of ps.definitions.now k (places_said ls ps)

abbrev pub call_height : List Layer → ℕ → Places → ℕ
call_height ls k ps = costs_of ps.definitions.now k (heights (costs_of ps.definitions.now) (heights_at ls ps.layer) (shapes_of ps.bodies.now))

-- what name number i of a layer stands for
abbrev pub name_said : List Layer → Layer → ℕ → Standing
name_said ls l i = let e = names_at ls l.outer in get_or (names_behind e l.names) (first_number l.names (length e) + i) nothing

abbrev pub name_height : List Layer → Layer → ℕ → ℕ
name_height ls l i = let e = heights_at ls l.outer in get_or (heights_behind e l.names) (first_number l.names (length e) + i) 0

-- what the body of a place becomes inside a quantifier over this many names
abbrev pub inside_said : ℕ → List Layer → Place → ℕ → Formula
inside_said k ls p n = formula_in (shape_said (calls_of p.definitions.now) (with_variables k (names_at ls p.layer) n) (shape p.body.now) (n + k))

-- what a body that stands for no other one becomes
abbrev pub head_said : List Layer → Head → Standing
head_said ls (heads.Number v) n = a_term (logic.number v)
head_said ls (heads.Truth b) n = a_formula (logic.constant b)
head_said ls (heads.Name k) n = a_term (logic.name k)
head_said ls (heads.Operated o ps) n = operated o (at_depth n (places_said ls ps))
head_said ls (heads.Function k ps) n = a_term (logic.call k (expressions (map term_in (at_depth n (places_said ls ps)))))
head_said ls (heads.Predicate k ps) n = a_formula (logic.applies k (expressions (map term_in (at_depth n (places_said ls ps)))))
head_said ls (heads.Quantified all k p) n = a_formula (quantified_over all k (inside_said k ls p n))

-- how far down what it is over goes
abbrev pub head_height : List Layer → Head → ℕ
head_height ls (heads.Number v) = 0
head_height ls (heads.Truth b) = 0
head_height ls (heads.Name k) = 0
head_height ls (heads.Operated o ps) = places_height ls ps
head_height ls (heads.Function k ps) = places_height ls ps
head_height ls (heads.Predicate k ps) = places_height ls ps
head_height ls (heads.Quantified all k p) = height (costs_of p.definitions.now) (with_zeros k (heights_at ls p.layer)) (shape p.body.now)

-- it stands in one of the layers
abbrev pub IsHeadWithin : List Layer → Head → Type 0
IsHeadWithin ls (heads.Number v) = Unit {0}
IsHeadWithin ls (heads.Truth b) = Unit {0}
IsHeadWithin ls (heads.Name k) = Unit {0}
IsHeadWithin ls (heads.Operated o ps) = ps.layer ≤ length ls
IsHeadWithin ls (heads.Function k ps) = ps.layer ≤ length ls
IsHeadWithin ls (heads.Predicate k ps) = ps.layer ≤ length ls
IsHeadWithin ls (heads.Quantified all k p) = p.layer ≤ length ls

abbrev pub step_said : List Layer → Step → Standing
step_said ls (steps.Next p) = place_said ls p
step_said ls (steps.Last x) = head_said ls x

abbrev pub step_height : List Layer → Step → ℕ
step_height ls (steps.Next p) = place_height ls p
step_height ls (steps.Last x) = head_height ls x

abbrev pub IsWithin : List Layer → Step → Type 0
IsWithin ls (steps.Next p) = p.layer ≤ length ls
IsWithin ls (steps.Last x) = IsHeadWithin ls x

-- a step to what becomes the same and goes less far down, after more layers
pub record Reaches (old : List Layer) (said : Standing) (height : ℕ) (new : List Layer) (step : Step) : Type 0 where
  pub layered : AreLayered new
  pub extends : Extends old new
  pub within : IsWithin new step
  pub same : (n : ℕ) → step_said new step n ≡ said n
  pub lower : step_height new step < height

-- the same, of a body that stands for no other one
abbrev pub ReachesHead : List Layer → Standing → ℕ → List Layer → Head → Type 0
ReachesHead old said height new x = Reaches old said height new (steps.Last x)
