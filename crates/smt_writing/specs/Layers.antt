-- What bound names stand for, where they stand in layers, and how far down each of them goes.
use Rattle.std.specs.Prelude.{ℕ, ◌≡◌, ◌<◌, ◌≤◌, List, [], ◌∷◌, ◌++◌, length, get_or}
use Rattle.smt_terms.specs.Translation.{Standing}
use Rattle.smt_names.specs.Body.{shapes_of}
use Rattle.smt_names.specs.Saying.{nothing, shapes_said, bound_said, with_variables, calls_of}
use Rattle.smt_writing.specs.declared.layers.Layer.{Layer}
use Rattle.smt_writing.specs.declared.layers.Names.{Names}
use Rattle.smt_writing.specs.declared.layers.Names.TheVariants as names
use Rattle.smt_writing.specs.Heights.{heights, bound_heights, with_zeros, costs_of}

-- what the names in sight stand for where these names stand after others
abbrev pub names_behind : List Standing → Names → List Standing
names_behind e (names.Variables k first) = with_variables k e first
names_behind e (names.Bound bs ds) = bound_said (calls_of ds.now) e (shapes_of bs.now)
names_behind e (names.Arguments ts ds) = shapes_said (calls_of ds.now) e (shapes_of ts.now)

-- their heights
abbrev pub heights_behind : List ℕ → Names → List ℕ
heights_behind e (names.Variables k first) = with_zeros k e
heights_behind e (names.Bound bs ds) = bound_heights (costs_of ds.now) e (shapes_of bs.now)
heights_behind e (names.Arguments ts ds) = heights (costs_of ds.now) e (shapes_of ts.now)

-- what f makes of each layer and the one around it, one after the other
abbrev pub layer_by_layer : {A : Type 0} → (List A → Names → List A) → List (List A) → List Layer → List (List A)
layer_by_layer f made [] = made
layer_by_layer f made (l ∷ ls) = layer_by_layer f (made ++ f (get_or made l.outer []) l.names ∷ []) ls

-- what the names in sight stand for in the layer up to which there are n layers
abbrev pub names_at : List Layer → ℕ → List Standing
names_at ls n = get_or (layer_by_layer names_behind ([] ∷ []) ls) n []

-- their heights
abbrev pub heights_at : List Layer → ℕ → List ℕ
heights_at ls n = get_or (layer_by_layer heights_behind ([] ∷ []) ls) n []

-- the number of the first of these names, after this many others
abbrev pub first_number : Names → ℕ → ℕ
first_number (names.Variables k first) count = count
first_number (names.Bound bs ds) count = count
first_number (names.Arguments ts ds) count = 0

-- how many these names are
abbrev pub own_count : Names → ℕ
own_count (names.Variables k first) = k
own_count (names.Bound bs ds) = length bs.now
own_count (names.Arguments ts ds) = length ts.now

-- the names of a layer begin at its number
abbrev pub IsNumbered : List Layer → Layer → Type 0
IsNumbered ls l = l.start ≡ first_number l.names (length (names_at ls l.outer))

-- each layer stands in one before it, and its names begin at its number
abbrev pub AreLayered : List Layer → Type 0
AreLayered ls = (i : ℕ) (d : Layer) → i < length ls → ((get_or ls i d).outer ≤ i) × IsNumbered ls (get_or ls i d)

-- the new layers are the old ones and more after them
abbrev pub Extends : List Layer → List Layer → Type 0
Extends old new = (more : List Layer) × (new ≡ old ++ more)

-- the name of number k, in sight in the layer up to which there are n layers, is looked up in the layer l
pub record IsLayerOf (ls : List Layer) (n k : ℕ) (l : Layer) : Type 0 where
  pub within : l.outer ≤ length ls
  pub numbered : IsNumbered ls l
  pub low : l.start ≤ k
  pub said : get_or (names_at ls n) k nothing ≡ get_or (names_behind (names_at ls l.outer) l.names) k nothing
  pub height : get_or (heights_at ls n) k 0 ≡ get_or (heights_behind (heights_at ls l.outer) l.names) k 0
