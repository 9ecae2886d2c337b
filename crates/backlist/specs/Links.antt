-- The links of the nodes. The list is a ring that is closed by `None`: the first node's `prev` and the last one's `next`.
use Rattle.std.specs.Prelude.{◌≡◌, List, [], ◌∷◌, Bool, true, false, Option, Some, None}
use Rattle.std.specs.List.{AllByRecursion}
use Rattle.std.specs.Option.{option_map_or}
use Rattle.backlist.specs.Cells.{Cell, same_place, find, update}
use Rattle.backlist.specs.declared.boxes.Pos.{Pos}
use Rattle.backlist.specs.declared.list.Node.{Node}

-- the nodes, the ends of the list, and what was changed last
pub record ListState (T : Type 0) : Type 0 where
  pub cells : List (Cell (Node T))
  pub first : Option Pos
  pub last : Option Pos
  pub top : Option Pos

-- whether two places of the ring are the same
abbrev pub same_end : Option Pos → Option Pos → Bool
same_end (Some p) (Some q) = same_place p.at q.at
same_end (Some p) None = false
same_end None (Some q) = false
same_end None None = true

module _ {T : Type 0} where
  abbrev pub empty : ListState T
  empty = record { cells = []; first = None; last = None; top = None }

  -- what follows a in the ring
  abbrev pub next_of : ListState T → Option Pos → Option Pos
  next_of s None = s.first
  next_of s (Some p) = option_map_or (λ (n : Node T). n.next) (find p.at s.cells) None

  -- what stands before a in the ring
  abbrev pub prev_of : ListState T → Option Pos → Option Pos
  prev_of s None = s.last
  prev_of s (Some p) = option_map_or (λ (n : Node T). n.prev) (find p.at s.cells) None

  -- the state with b after a
  abbrev pub with_next : Option Pos → Option Pos → ListState T → ListState T
  with_next None b s = record s { first = b }
  with_next (Some p) b s = record s { cells = update p.at (λ (n : Node T). record n { next = b }) s.cells }

  -- the state with b before a
  abbrev pub with_prev : Option Pos → Option Pos → ListState T → ListState T
  with_prev None b s = record s { last = b }
  with_prev (Some p) b s = record s { cells = update p.at (λ (n : Node T). record n { prev = b }) s.cells }

  -- the item stands in a node that is not away
  abbrev pub IsNode : ListState T → Pos × T → Type 0
  IsNode s i = (n : Node T) × (find i.0.at s.cells ≡ Some n) × (n.value ≡ i.1) × (n.away ≡ false) × (n.unlinked_after ≡ None)

  -- a is none of the places of the items
  abbrev pub Differs : Option Pos → List (Pos × T) → Type 0
  Differs a = AllByRecursion (λ i. same_end a (Some i.0) ≡ false)

  -- from a the items follow one another up to the ring's end, at places that differ
  abbrev pub Ring : ListState T → Option Pos → List (Pos × T) → Type 0
  Ring s a [] = (next_of s a ≡ None) × (prev_of s None ≡ a)
  Ring s a (i ∷ is) = (next_of s a ≡ Some i.0) × (prev_of s (Some i.0) ≡ a) × IsNode s i × Differs (Some i.0) is × Ring s (Some i.0) is

  -- the last place of a and the items, and the first place of the items
  abbrev pub last_place : Option Pos → List (Pos × T) → Option Pos
  last_place a [] = a
  last_place a (i ∷ is) = last_place (Some i.0) is

  abbrev pub first_place : List (Pos × T) → Option Pos
  first_place [] = None
  first_place (i ∷ is) = Some i.0

  -- p between a and c is taken out of the ring: the node keeps its links
  abbrev pub bridged : Option Pos → Option Pos → ListState T → ListState T
  bridged a c s = with_prev c a (with_next a c s)

  -- the node at p is marked as unlinked after the change at t
  abbrev pub marked : Pos → Bool → Option Pos → ListState T → ListState T
  marked p y t s = record s { cells = update p.at (λ (n : Node T). record n { away = y; unlinked_after = t }) s.cells }

  -- what `unlink` does to the node p between a and c
  abbrev pub unlinked : Option Pos → Pos → Option Pos → ListState T → ListState T
  unlinked a p c s = record (marked p true s.top (bridged a c s)) { top = Some p }

  -- what `undo` does to the node p between a and c, where t was changed last before
  abbrev pub relinked : Option Pos → Pos → Option Pos → Option Pos → ListState T → ListState T
  relinked a p c t s = with_next a (Some p) (with_prev c (Some p) (record (marked p false None s) { top = t }))
