-- Values, each at its place.
use Rattle.std.specs.Prelude.{◌≡◌, Bool, true, false, ◌&&◌, ◌==◌, cond, List, [], ◌∷◌, Option, Some, None}
use Rattle.std.specs.List.{AllByRecursion}
use denote.RawPtr.{Ptr, block_ptr, null_ptr}

-- a value and where it lies
pub record Cell (N : Type 0) : Type 0 where
  pub at : Ptr
  pub node : N

-- whether two places are the same
abbrev pub same_place : Ptr → Ptr → Bool
same_place (block_ptr b o) (block_ptr c p) = (b == c) && (o == p)
same_place (block_ptr b o) null_ptr = false
same_place null_ptr (block_ptr c p) = false
same_place null_ptr null_ptr = true

module _ {N : Type 0} where
  abbrev pub cell : Ptr → N → Cell N
  cell p n = record { at = p; node = n }

  -- the value at p
  abbrev pub find : Ptr → List (Cell N) → Option N
  find p [] = None
  find p (c ∷ cs) = cond (same_place c.at p) (Some c.node) (find p cs)

  -- the cells with f of the value at p
  abbrev pub update : Ptr → (N → N) → List (Cell N) → List (Cell N)
  update p f [] = []
  update p f (c ∷ cs) = cond (same_place c.at p) (cell c.at (f c.node) ∷ cs) (c ∷ update p f cs)

  -- no cell lies at p
  abbrev pub IsFresh : Ptr → List (Cell N) → Type 0
  IsFresh p = AllByRecursion (λ c. same_place c.at p ≡ false)
