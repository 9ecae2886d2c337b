-- A list with its history.
use Rattle.std.specs.Prelude.{◌≡◌, List, [], ◌∷◌, ◌++◌, cond, Option, Some, None}
use Rattle.std.specs.Prelude.{false}
use Rattle.std.specs.List.{AllByRecursion}
use Rattle.backlist.specs.Cells.{same_place}
use Rattle.backlist.specs.declared.boxes.Pos.{Pos}

-- the present list, and the stack of earlier lists
pub record History (T : Type 0) : Type 0 where
  pub present : List (Pos × T)
  pub earlier : List (List (Pos × T))

-- a change: an item is pushed with its value, or unlinked
pub record Change (T : Type 0) : Type 0 where
  pub place : Pos
  pub value : Option T

module _ {T : Type 0} where
  abbrev pub push_of : Pos → T → Change T
  push_of p v = record { place = p; value = Some v }

  abbrev pub unlink_of : Pos → Change T
  unlink_of p = record { place = p; value = None }

  -- the list without the item at p
  abbrev pub without : Pos → List (Pos × T) → List (Pos × T)
  without p [] = []
  without p (i ∷ is) = cond (same_place i.0.at p.at) is (i ∷ without p is)

  -- the list after a change
  abbrev pub changed : Change T → List (Pos × T) → List (Pos × T)
  changed c is = elim c.value as (λ _. List (Pos × T)) [ Some v ↦ is ++ (c.place, v) ∷ [] | None ↦ without c.place is ]

  -- a change puts the present list on the stack
  abbrev pub after : Change T → History T → History T
  after c h = record { present = changed c h.present; earlier = h.present ∷ h.earlier }

  -- the history that changes give, the last one first
  abbrev pub replay : List (Change T) → History T
  replay [] = record { present = []; earlier = [] }
  replay (c ∷ cs) = after c (replay cs)

  -- an item stands at p
  abbrev pub IsIn : Pos → List (Pos × T) → Type 0
  IsIn p is = (xs : List (Pos × T)) × (v : T) × (ys : List (Pos × T)) × (is ≡ xs ++ (p, v) ∷ ys)

  -- P holds of the item at p, with those before it and those after it
  abbrev pub AtItem : Pos → List (Pos × T) → (List (Pos × T) → T → List (Pos × T) → Type 0) → Type 0
  AtItem p is P = (xs : List (Pos × T)) (v : T) (ys : List (Pos × T)) → is ≡ xs ++ (p, v) ∷ ys → P xs v ys

  -- p is the place of no item of the list
  abbrev pub IsNew : Pos → List (Pos × T) → Type 0
  IsNew p = AllByRecursion (λ i. same_place i.0.at p.at ≡ false)

  -- p is the place of no item, present or earlier
  abbrev pub IsNewIn : Pos → History T → Type 0
  IsNewIn p h = IsNew p h.present × AllByRecursion (IsNew p) h.earlier

  -- the latest earlier list becomes the present one
  abbrev pub back : History T → History T
  back h = elim h.earlier as (λ _. History T) [ [] ↦ h | (e ∷ es) ↦ record { present = e; earlier = es } ]

  -- as many undos as there are changes
  abbrev pub back_over : List (Change T) → History T → History T
  back_over [] h = h
  back_over (c ∷ cs) h = back_over cs (back h)
