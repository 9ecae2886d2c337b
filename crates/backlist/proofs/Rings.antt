-- The ring stays whole where an item is unlinked, and where one is pushed at its end.
use Rattle.std.proofs.Common.{◌≡◌, true, false, cond, List, [], ◌∷◌, ◌++◌, Option, Some, None, refl, sym, ◌∙◌}
use Rattle.std.specs.Option.{option_map_or}
use denote.RawPtr.{Ptr}
use Rattle.backlist.specs.Cells.{Cell, cell, same_place, find, IsFresh}
use Rattle.backlist.specs.declared.boxes.Pos.{Pos}
use Rattle.backlist.specs.declared.list.Node.{Node}
use Rattle.backlist.specs.Links.{ListState, same_end, next_of, with_next, with_prev, bridged, IsNode, Differs, Ring, last_place, first_place}
use Rattle.backlist.proofs.Found.{same_place_eq, same_place_refl}
use Rattle.backlist.proofs.Ringed.{Stands, same_place_symm, same_end_symm, read, prev-with_next, next-with_prev, next-same, prev-same, next-other, prev-other, node-with_next, node-with_prev, stands-node}

module _ {T : Type 0} where
  differs_without : (a : Option Pos) (xs : List (Pos × T)) (i : Pos × T) (ys : List (Pos × T)) → Differs a (xs ++ i ∷ ys) → Differs a (xs ++ ys)
  differs_without a [] i ys d = d.1
  differs_without a (x ∷ xs) i ys d = (d.0, differs_without a xs i ys d.1)

  differs_at : (a : Option Pos) (xs : List (Pos × T)) (i : Pos × T) (ys : List (Pos × T)) → Differs a (xs ++ i ∷ ys) → Differs a (i ∷ ys)
  differs_at a [] i ys d = d
  differs_at a (x ∷ xs) i ys d = differs_at a xs i ys d.1

  differs_push : (a : Option Pos) (xs : List (Pos × T)) (i : Pos × T) → Differs a xs → same_end a (Some i.0) ≡ false → Differs a (xs ++ i ∷ [])
  differs_push a [] i d e = (e, tt)
  differs_push a (x ∷ xs) i d e = (d.0, differs_push a xs i d.1 e)

  differs_last : (a : Option Pos) (x : Pos × T) (xs ys : List (Pos × T)) → Differs a (x ∷ (xs ++ ys)) → same_end (last_place (Some x.0) xs) a ≡ false
  differs_last a x [] ys d = same_end_symm (Some x.0) a ∙ d.0
  differs_last a x (y ∷ xs) ys d = differs_last a y xs ys d.1

  differs_last' : (a : Option Pos) (x : Pos × T) (xs : List (Pos × T)) → Differs a (x ∷ xs) → same_end (last_place (Some x.0) xs) a ≡ false
  differs_last' a x [] d = same_end_symm (Some x.0) a ∙ d.0
  differs_last' a x (y ∷ xs) d = differs_last' a y xs d.1

  pub differs_first : (p : Pos) (ys : List (Pos × T)) → Differs (Some p) ys → same_end (first_place ys) (Some p) ≡ false
  differs_first p [] d = refl
  differs_first p (y ∷ ys) d = same_end_symm (Some y.0) (Some p) ∙ d.0

  frame_next : (s : ListState T) (a c z : Option Pos) (is : List (Pos × T)) → same_end a z ≡ false → Differs a is → Ring s z is → Ring (with_next a c s) z is
  frame_next s a c z [] e d r = (next-other a c z s e ∙ r.0, prev-with_next a c None s ∙ r.1)
  frame_next s a c z (i ∷ is) e d r = (next-other a c z s e ∙ r.0, prev-with_next a c (Some i.0) s ∙ r.1, node-with_next a c s i r.2, r.3, frame_next s a c (Some i.0) is d.0 d.1 r.4)

  frame_prev : (s : ListState T) (p : Pos) (b z : Option Pos) (is : List (Pos × T)) → Differs (Some p) is → Ring s z is → Ring (with_prev (Some p) b s) z is
  frame_prev s p b z [] d r = (next-with_prev (Some p) b z s ∙ r.0, r.1)
  frame_prev s p b z (i ∷ is) d r = (next-with_prev (Some p) b z s ∙ r.0, prev-other (Some p) b (Some i.0) s d.0 ∙ r.1, node-with_prev (Some p) b s i r.2, r.3, frame_prev s p b (Some i.0) is d.1 r.4)

  stands-with_next : (a b : Option Pos) (s : ListState T) (i : Pos × T) → IsNode s i → Stands (with_next a b s) (Some i.0)
  stands-with_next a b s i h = stands-node (with_next a b s) i (node-with_next a b s i h)

  -- an item is taken out between its neighbours
  pub ring_unlink : (s : ListState T) (z : Option Pos) (xs : List (Pos × T)) (i : Pos × T) (ys : List (Pos × T)) → Stands s z → Differs z (xs ++ i ∷ ys) → Ring s z (xs ++ i ∷ ys)
      → Ring (bridged (last_place z xs) (first_place ys) s) z (xs ++ ys)
  ring_unlink s z [] i [] h d r = (next-with_prev None z z (with_next z None s) ∙ next-same z None s h, refl)
  ring_unlink s z [] i (y ∷ ys) h d r =
      let t = with_next z (Some y.0) s in let q = r.4 in (
        next-with_prev (Some y.0) z z t ∙ next-same z (Some y.0) s h,
        prev-same (Some y.0) z t (stands-with_next z (Some y.0) s y q.2),
        node-with_prev (Some y.0) z t y (node-with_next z (Some y.0) s y q.2),
        q.3,
        frame_prev t y.0 z (Some y.0) ys q.3 (frame_next s z (Some y.0) (Some y.0) ys d.1.0 d.1.1 q.4),
      )
  ring_unlink s z (x ∷ xs) i ys h d r =
      let a = last_place (Some x.0) xs in let c = first_place ys in let t = with_next a c s in (
        next-with_prev c a z t ∙ next-other a c z s (differs_last z x xs (i ∷ ys) d) ∙ r.0,
        prev-other c a (Some x.0) t (differs_first x.0 ys (differs_at (Some x.0) xs i ys r.3).1) ∙ prev-with_next a c (Some x.0) s ∙ r.1,
        node-with_prev c a t x (node-with_next a c s x r.2),
        differs_without (Some x.0) xs i ys r.3,
        ring_unlink s (Some x.0) xs i ys (stands-node s x r.2) r.3 r.4,
      )

  pub fresh_differs : (p q : Ptr) (cs : List (Cell (Node T))) (n : Node T) → IsFresh p cs → find q cs ≡ Some n → same_place p q ≡ false
  fresh_differs p q [] n f e = cc
  fresh_differs p q (c ∷ cs) n f e = (elim (same_place c.at q) as (λ y. same_place c.at q ≡ y → cond y (Some c.node) (find q cs) ≡ Some n → same_place p q ≡ false) [
    | true ↦ λ s h. same_place_symm p q ∙ sym (λ i. same_place (same_place_eq c.at q s i) p) ∙ f.0
    | false ↦ λ s h. fresh_differs p q cs n f.1 h
  ]) refl e

  -- the state with the node n at p, the last one
  abbrev pub added : Pos → Node T → ListState T → ListState T
  added p n s = record s { cells = cell p.at n ∷ s.cells; last = Some p; top = Some p }

  module _ (s : ListState T) (p : Pos) (v : T) (n : Node T) (free : IsFresh p.at s.cells) (is_v : n.value ≡ v) (is_next : n.next ≡ None) (is_here : n.away ≡ false) (is_none : n.unlinked_after ≡ None) where
    abbrev K : ListState T
    K = added p n s

    pub at_p : find p.at K.cells ≡ Some n
    at_p = λ i. cond (same_place_refl p.at i) (Some n) (find p.at s.cells)

    pub away_from : (z : Option Pos) → Stands s z → same_end z (Some p) ≡ false
    away_from None h = refl
    away_from (Some q) h = same_place_symm q.at p.at ∙ fresh_differs p.at q.at s.cells h.0 free h.1

    pub at_q : (q : Pos) (m : Node T) → find q.at s.cells ≡ Some m → find q.at K.cells ≡ find q.at s.cells
    at_q q m e = λ i. cond (fresh_differs p.at q.at s.cells m free e i) (Some n) (find q.at s.cells)

    next_K : (z : Option Pos) → Stands s z → next_of K z ≡ next_of s z
    next_K None h = refl
    next_K (Some q) h = λ i. option_map_or (λ (m : Node T). m.next) (at_q q h.0 h.1 i) None

    pub stands_K : (z : Option Pos) → Stands s z → Stands K z
    stands_K None h = tt
    stands_K (Some q) h = (h.0, at_q q h.0 h.1 ∙ h.1)

    -- an item is pushed at the end
    pub ring_push : (z : Option Pos) (is : List (Pos × T)) → Stands s z → Differs z is → Ring s z is → n.prev ≡ last_place z is
        → Ring (with_next (last_place z is) (Some p) K) z (is ++ (p, v) ∷ [])
    ring_push z [] h d r e = (
      next-same z (Some p) K (stands_K z h),
      prev-with_next z (Some p) (Some p) K ∙ read (λ (m : Node T). m.prev) _ n None at_p ∙ e,
      node-with_next z (Some p) K (p, v) (n, at_p, is_v, is_here, is_none),
      tt,
      (next-other z (Some p) (Some p) K (away_from z h) ∙ read (λ (m : Node T). m.next) _ n None at_p ∙ is_next, prev-with_next z (Some p) None K),
    )
    ring_push z (x ∷ xs) h d r e =
        let a = last_place (Some x.0) xs in let hx = stands-node s x r.2 in (
          next-other a (Some p) z K (differs_last' z x xs d) ∙ next_K z h ∙ r.0,
          prev-with_next a (Some p) (Some x.0) K ∙ (λ i. option_map_or (λ (m : Node T). m.prev) (at_q x.0 r.2.0 r.2.1 i) None) ∙ r.1,
          node-with_next a (Some p) K x (r.2.0, at_q x.0 r.2.0 r.2.1 ∙ r.2.1, r.2.2, r.2.3, r.2.4),
          differs_push (Some x.0) xs (p, v) r.3 (away_from (Some x.0) hx),
          ring_push (Some x.0) xs hx r.3 r.4 e,
        )
