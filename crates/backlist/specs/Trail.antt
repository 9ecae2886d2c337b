-- What holds of every list: its links are those of its history.
use Rattle.std.specs.Prelude.{◌≡◌, ◌<◌, ◌^◌, ◌+◌, List, [], ◌∷◌, length, true, false, Option, Some, None}
use Rattle.backlist.specs.Cells.{Cell, cell, find, update}
use Rattle.backlist.specs.declared.boxes.Pos.{Pos}
use Rattle.backlist.specs.declared.list.Node.{Node}
use Rattle.backlist.specs.History.{Change, replay, without}
use Rattle.backlist.specs.Links.{ListState, empty, with_next, relinked, Ring}

-- the end of the list after a write of b at the place a
abbrev pub end_after : Option Pos → Option Pos → Option Pos → Option Pos
end_after None b x = b
end_after (Some p) b x = x

module _ {T : Type 0} where
  -- the place is the ring's end, or a node stands there
  abbrev pub IsEnd : List (Cell (Node T)) → Option Pos → Type 0
  IsEnd cs None = Unit {0}
  IsEnd cs (Some p) = (n : Node T) × (find p.at cs ≡ Some n)

  -- undoing the push of v at p leads from s to e
  pub record IsPushed (p : Pos) (v : T) (s e : ListState T) : Type 0 where
    pub node : Node T
    pub at : find p.at s.cells ≡ Some node
    pub here : node.away ≡ false
    pub value : node.value ≡ v
    pub stands : IsEnd s.cells node.prev
    pub gone : with_next node.prev None s ≡ record { cells = cell p.at node ∷ e.cells; first = e.first; last = Some p; top = Some p }
    pub last : e.last ≡ node.prev
    pub top : e.top ≡ node.pushed_after

  -- undoing the unlinking of p, which was in the list, leads from s to e
  pub record IsUnlinked (p : Pos) (is : List (Pos × T)) (s e : ListState T) : Type 0 where
    pub node : Node T
    pub at : find p.at s.cells ≡ Some node
    pub held : length (without p is) + 1 ≡ length is
    pub away : node.away ≡ true
    pub before : IsEnd s.cells node.prev
    pub after : IsEnd s.cells node.next
    pub back : relinked node.prev p node.next node.unlinked_after s ≡ e

  abbrev pub IsUndone : Change T → List (Pos × T) → ListState T → ListState T → Type 0
  IsUndone c is s e = elim c.value as (λ _. Type 0) [ Some v ↦ IsPushed c.place v s e | None ↦ IsUnlinked c.place is s e ]

  -- the links of s are the list that the changes give, and undoing the last change leads to links of the changes before it
  abbrev pub IsTrail : List (Change T) → ListState T → Type 0
  IsTrail [] s = s ≡ empty
  IsTrail (c ∷ cs) s = (s.top ≡ Some c.place) × Ring s None (replay (c ∷ cs)).present × (length (replay (c ∷ cs)).present < 2 ^ 64)
      × (e : ListState T) × IsUndone c (replay cs).present s e × IsTrail cs e

  -- the nodes and the ends after a write of one link
  abbrev pub next_cells : Option Pos → Option Pos → List (Cell (Node T)) → List (Cell (Node T))
  next_cells None b cs = cs
  next_cells (Some p) b cs = update p.at (λ (n : Node T). record n { next = b }) cs

  abbrev pub prev_cells : Option Pos → Option Pos → List (Cell (Node T)) → List (Cell (Node T))
  prev_cells None b cs = cs
  prev_cells (Some p) b cs = update p.at (λ (n : Node T). record n { prev = b }) cs
