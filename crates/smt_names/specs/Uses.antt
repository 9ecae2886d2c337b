-- The bound names that bodies use.
use Rattle.std.specs.Prelude.{◌≡◌, ℕ, ◌<◌, ◌||◌, Bool, true, false, List, length, nat_eq, get_or}
use Rattle.smt_names.specs.declared.body.Leaf.{Leaf}
use Rattle.smt_names.specs.declared.body.Leaf.TheVariants as l
use Rattle.smt_names.specs.declared.body.Body.{Body}
use Rattle.smt_names.specs.Body.{Shape, Shapes, shape, leaf, operation, function, predicate, defined, let_in, quantified, no_shape, and_shape}

-- a leaf is the bound name of this number
abbrev pub is_name : ℕ → Leaf → Bool
is_name i (l.Slot k) = nat_eq k i
is_name i (l.Number v) = false
is_name i (l.Truth b) = false
is_name i (l.Constant k) = false

abbrev mutual
  -- the bound name of this number stands in a body
  pub occurs : ℕ → Shape → Bool
  occurs i (leaf x) = is_name i x
  occurs i (operation o ts) = occurs_in i ts
  occurs i (function k ts) = occurs_in i ts
  occurs i (predicate k ts) = occurs_in i ts
  occurs i (defined k ts) = occurs_in i ts
  occurs i (let_in bs t) = occurs_in i bs || occurs i t
  occurs i (quantified all k t) = occurs i t

  pub occurs_in : ℕ → Shapes → Bool
  occurs_in i no_shape = false
  occurs_in i (and_shape t ts) = occurs i t || occurs_in i ts

-- What is not marked does not stand in the body.
abbrev pub AreMarked : List Bool → Shape → Type 0
AreMarked us t = (i : ℕ) → get_or us i true ≡ false → occurs i t ≡ false

-- So for each of these bodies.
unfoldable pub AreUses : List (List Bool) → List Body → Type 0
AreUses uss ds = (length uss ≡ length ds) × ((k : ℕ) (us : List Bool) (d : Body) → k < length ds → AreMarked (get_or uss k us) (shape (get_or ds k d)))
