-- Reading and writing the links.
use Rattle.std.proofs.Common.{◌≡◌, Bool, true, false, cond, List, [], ◌∷◌, Option, Some, None, refl, sym, ap, ◌∙◌}
use denote.RawPtr.{Ptr}
use Rattle.backlist.specs.Cells.{Cell, cell, same_place, find, update}
use Rattle.backlist.proofs.Found.{same_place_eq, same_place_refl}
use Rattle.backlist.specs.declared.boxes.Pos.{Pos}
use Rattle.backlist.specs.declared.list.Node.{Node}
use Rattle.std.specs.Option.{option_map_or}
use Rattle.backlist.specs.Links.{ListState, same_end, next_of, prev_of, with_next, with_prev, IsNode}

module _ {N : Type 0} where
  pub find-update_same : (p : Ptr) (f : N → N) (cs : List (Cell N)) (n : N) → find p cs ≡ Some n → find p (update p f cs) ≡ Some (f n)
  find-update_same p f [] n e = cc
  find-update_same p f (c ∷ cs) n e = (elim (same_place c.at p) as (λ y. same_place c.at p ≡ y → cond y (Some c.node) (find p cs) ≡ Some n
      → find p (cond y (cell c.at (f c.node) ∷ cs) (c ∷ update p f cs)) ≡ Some (f n)) [
        | true ↦ λ s h. let is : c.node ≡ n = cc in (λ i. cond (s i) (Some (f c.node)) (find p cs)) ∙ (λ i. Some (f (is i)))
        | false ↦ λ s h. (λ i. cond (s i) (Some c.node) (find p (update p f cs))) ∙ find-update_same p f cs n h
      ]) refl e

  pub update-id : (p : Ptr) (f : N → N) (cs : List (Cell N)) (n : N) → find p cs ≡ Some n → f n ≡ n → update p f cs ≡ cs
  update-id p f [] n e h = refl
  update-id p f (c ∷ cs) n e h = (elim (same_place c.at p) as (λ y. cond y (Some c.node) (find p cs) ≡ Some n → cond y (cell c.at (f c.node) ∷ cs) (c ∷ update p f cs) ≡ c ∷ cs) [
    | true ↦ λ g. let is : c.node ≡ n = cc in let keeps : f c.node ≡ c.node = ap f is ∙ h ∙ sym is in λ i. cell c.at (keeps i) ∷ cs
    | false ↦ λ g. λ i. c ∷ update-id p f cs n g h i
  ]) e

  pub update-update : (p : Ptr) (f g : N → N) (cs : List (Cell N)) → update p g (update p f cs) ≡ update p (λ n. g (f n)) cs
  update-update p f g [] = refl
  update-update p f g (c ∷ cs) = (elim (same_place c.at p) as (λ y. same_place c.at p ≡ y → update p g (cond y (cell c.at (f c.node) ∷ cs) (c ∷ update p f cs)) ≡ cond y (cell c.at (g (f c.node)) ∷ cs) (c ∷ update p (λ n. g (f n)) cs)) [
    | true ↦ λ s. λ i. cond (s i) (cell c.at (g (f c.node)) ∷ cs) (cell c.at (f c.node) ∷ update p g cs)
    | false ↦ λ s. (λ i. cond (s i) (cell c.at (g c.node) ∷ update p f cs) (c ∷ update p g (update p f cs))) ∙ (λ i. c ∷ update-update p f g cs i)
  ]) refl

  pub find-update_other : (p q : Ptr) (f : N → N) (cs : List (Cell N)) → same_place p q ≡ false → find q (update p f cs) ≡ find q cs
  find-update_other p q f [] d = refl
  find-update_other p q f (c ∷ cs) d = (elim (same_place c.at p) as (λ y. same_place c.at p ≡ y → find q (cond y (cell c.at (f c.node) ∷ cs) (c ∷ update p f cs)) ≡ find q (c ∷ cs)) [
    | true ↦ λ s. let e : same_place c.at q ≡ false = ap (λ r. same_place r q) (same_place_eq c.at p s) ∙ d in
        (λ i. cond (e i) (Some (f c.node)) (find q cs)) ∙ sym (λ i. cond (e i) (Some c.node) (find q cs))
    | false ↦ λ s. λ i. cond (same_place c.at q) (Some c.node) (find-update_other p q f cs d i)
  ]) refl

  -- what an update leaves at another place or changes at its own
  pub found : (p q : Ptr) (f : N → N) (cs : List (Cell N)) (n : N) → find q cs ≡ Some n → find q (update p f cs) ≡ Some (cond (same_place p q) (f n) n)
  found p q f cs n e = (elim (same_place p q) as (λ y. same_place p q ≡ y → find q (update p f cs) ≡ Some (cond y (f n) n)) [
    | true ↦ λ s. let at = same_place_eq p q s in sym (λ i. find (at i) (update p f cs)) ∙ find-update_same p f cs n ((λ i. find (at i) cs) ∙ e)
    | false ↦ λ s. find-update_other p q f cs s ∙ e
  ]) refl

module _ {T : Type 0} where
  -- the place is the ring's end, or a node stands there
  abbrev pub Stands : ListState T → Option Pos → Type 0
  Stands s None = Unit {0}
  Stands s (Some p) = (n : Node T) × (find p.at s.cells ≡ Some n)

alike : (x y : Bool) → (x ≡ true → y ≡ true) → (y ≡ true → x ≡ true) → x ≡ y
alike true y f g = sym (f refl)
alike false true f g = g refl
alike false false f g = refl

pub same_place_symm : (p q : Ptr) → same_place p q ≡ same_place q p
same_place_symm p q = alike (same_place p q) (same_place q p)
    (λ e. (λ i. same_place q (same_place_eq p q e i)) ∙ same_place_refl q) (λ e. (λ i. same_place p (same_place_eq q p e i)) ∙ same_place_refl p)

pub same_end_symm : (a b : Option Pos) → same_end a b ≡ same_end b a
same_end_symm None None = refl
same_end_symm None (Some q) = refl
same_end_symm (Some p) None = refl
same_end_symm (Some p) (Some q) = same_place_symm p.at q.at

module _ {N X : Type 0} (g : N → X) (f : N → N) (keeps : (n : N) → g (f n) ≡ g n) where
  pub kept : (y : Bool) (n : N) → g (cond y (f n) n) ≡ g n
  kept true n = keeps n
  kept false n = refl

  -- what an update keeps is read as before
  pub map_found : (p q : Ptr) (d : X) (cs : List (Cell N)) → option_map_or g (find q (update p f cs)) d ≡ option_map_or g (find q cs) d
  map_found p q d [] = refl
  map_found p q d (c ∷ cs) = elim (same_place c.at p) as (λ y. option_map_or g (find q (cond y (cell c.at (f c.node) ∷ cs) (c ∷ update p f cs))) d ≡ option_map_or g (find q (c ∷ cs)) d) [
    | true ↦ elim (same_place c.at q) as (λ y. option_map_or g (cond y (Some (f c.node)) (find q cs)) d ≡ option_map_or g (cond y (Some c.node) (find q cs)) d) [ true ↦ keeps c.node | false ↦ refl ]
    | false ↦ elim (same_place c.at q) as (λ y. option_map_or g (cond y (Some c.node) (find q (update p f cs))) d ≡ option_map_or g (cond y (Some c.node) (find q cs)) d) [ true ↦ refl | false ↦ map_found p q d cs ]
  ]

module _ {T : Type 0} where
  abbrev pub set_next : Option Pos → Node T → Node T
  set_next b n = record n { next = b }

  abbrev pub set_prev : Option Pos → Node T → Node T
  set_prev b n = record n { prev = b }

  pub read : {X : Type 0} (g : Node T → X) (o : Option (Node T)) (n : Node T) (d : X) → o ≡ Some n → option_map_or g o d ≡ g n
  read g o n d e = λ i. option_map_or g (e i) d

  pub prev-with_next : (a b x : Option Pos) (s : ListState T) → prev_of (with_next a b s) x ≡ prev_of s x
  prev-with_next None b None s = refl
  prev-with_next None b (Some p) s = refl
  prev-with_next (Some q) b None s = refl
  prev-with_next (Some q) b (Some p) s = map_found (λ (n : Node T). n.prev) (set_next b) (λ n. refl) q.at p.at None s.cells

  pub next-with_prev : (a b x : Option Pos) (s : ListState T) → next_of (with_prev a b s) x ≡ next_of s x
  next-with_prev None b None s = refl
  next-with_prev None b (Some p) s = refl
  next-with_prev (Some q) b None s = refl
  next-with_prev (Some q) b (Some p) s = map_found (λ (n : Node T). n.next) (set_prev b) (λ n. refl) q.at p.at None s.cells

  pub next-same : (a b : Option Pos) (s : ListState T) → Stands s a → next_of (with_next a b s) a ≡ b
  next-same None b s h = refl
  next-same (Some p) b s h = read (λ (n : Node T). n.next) _ _ None (find-update_same p.at (set_next b) s.cells h.0 h.1)

  pub prev-same : (a b : Option Pos) (s : ListState T) → Stands s a → prev_of (with_prev a b s) a ≡ b
  prev-same None b s h = refl
  prev-same (Some p) b s h = read (λ (n : Node T). n.prev) _ _ None (find-update_same p.at (set_prev b) s.cells h.0 h.1)

  pub next-other : (a b x : Option Pos) (s : ListState T) → same_end a x ≡ false → next_of (with_next a b s) x ≡ next_of s x
  next-other None b None s d = cc
  next-other None b (Some p) s d = refl
  next-other (Some q) b None s d = refl
  next-other (Some q) b (Some p) s d = λ i. option_map_or (λ (n : Node T). n.next) (find-update_other q.at p.at (set_next b) s.cells d i) None

  pub prev-other : (a b x : Option Pos) (s : ListState T) → same_end a x ≡ false → prev_of (with_prev a b s) x ≡ prev_of s x
  prev-other None b None s d = cc
  prev-other None b (Some p) s d = refl
  prev-other (Some q) b None s d = refl
  prev-other (Some q) b (Some p) s d = λ i. option_map_or (λ (n : Node T). n.prev) (find-update_other q.at p.at (set_prev b) s.cells d i) None

  pub node-with_next : (a b : Option Pos) (s : ListState T) (i : Pos × T) → IsNode s i → IsNode (with_next a b s) i
  node-with_next None b s i h = h
  node-with_next (Some q) b s i h = let y = same_place q.at i.0.at in let f = set_next b in
      (cond y (f h.0) h.0, found q.at i.0.at f s.cells h.0 h.1, kept (λ (n : Node T). n.value) f (λ n. refl) y h.0 ∙ h.2, kept (λ (n : Node T). n.away) f (λ n. refl) y h.0 ∙ h.3, kept (λ (n : Node T). n.unlinked_after) f (λ n. refl) y h.0 ∙ h.4)

  pub node-with_prev : (a b : Option Pos) (s : ListState T) (i : Pos × T) → IsNode s i → IsNode (with_prev a b s) i
  node-with_prev None b s i h = h
  node-with_prev (Some q) b s i h = let y = same_place q.at i.0.at in let f = set_prev b in
      (cond y (f h.0) h.0, found q.at i.0.at f s.cells h.0 h.1, kept (λ (n : Node T). n.value) f (λ n. refl) y h.0 ∙ h.2, kept (λ (n : Node T). n.away) f (λ n. refl) y h.0 ∙ h.3, kept (λ (n : Node T). n.unlinked_after) f (λ n. refl) y h.0 ∙ h.4)

  pub stands-node : (s : ListState T) (i : Pos × T) → IsNode s i → Stands s (Some i.0)
  stands-node s i h = (h.0, h.1)
