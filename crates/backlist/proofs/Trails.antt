-- A change and its undoing: the links are those of the history after each.
use Rattle.std.proofs.Common.{◌≡◌, ◌<◌, ◌^◌, Bool, true, false, cond, List, [], ◌∷◌, ◌++◌, length, Option, Some, None, refl, sym, ap, ◌∙◌, subst}
use denote.RawPtr.{Ptr}
use Rattle.backlist.specs.Cells.{Cell, cell, same_place, find, update, IsFresh}
use Rattle.backlist.specs.declared.boxes.Pos.{Pos}
use Rattle.backlist.specs.declared.list.Node.{Node}
use Rattle.backlist.specs.History.{Change, replay, without}
use Rattle.backlist.specs.Links.{ListState, same_end, next_of, prev_of, with_next, with_prev, marked, bridged, unlinked, relinked, IsNode, Differs, Ring, last_place, first_place}
use Rattle.backlist.specs.Trail.{IsTrail, IsEnd}
use Rattle.backlist.specs.History.{push_of, unlink_of}
use Rattle.std.proofs.Common.{arith, length-append, ◌+◌}
use Rattle.backlist.proofs.Exact.{exact_unlink, next_back}
use Rattle.backlist.proofs.Ringed.{Stands, same_end_symm, read, stands-node, map_found, find-update_same, find-update_other, found}
use Rattle.backlist.proofs.Rings.{ring_unlink, ring_push, added, differs_first, at_p, away_from, stands_K, fresh_differs}
use Rattle.backlist.proofs.Found.{same_place_refl}

module _ {T : Type 0} where
  -- an update with the value that it makes of what stands there
  pub update_at : (p : Ptr) (f : Node T → Node T) (cs : List (Cell (Node T))) (n : Node T) → find p cs ≡ Some n → update p (λ _. f n) cs ≡ update p f cs
  update_at p f [] n e = refl
  update_at p f (c ∷ cs) n e = (elim (same_place c.at p) as (λ y. cond y (Some c.node) (find p cs) ≡ Some n
      → cond y (cell c.at (f n) ∷ cs) (c ∷ update p (λ _. f n) cs) ≡ cond y (cell c.at (f c.node) ∷ cs) (c ∷ update p f cs)) [
        | true ↦ λ g. let is : c.node ≡ n = cc in λ i. cell c.at (f (sym is i)) ∷ cs
        | false ↦ λ g. λ i. c ∷ update_at p f cs n g i
      ]) e

  -- the neighbours of an item in the ring
  pub record Between (s : ListState T) (a : Option Pos) (i : Pos × T) (c : Option Pos) : Type 0 where
    pub prev : prev_of s (Some i.0) ≡ a
    pub next : next_of s (Some i.0) ≡ c
    pub from : next_of s a ≡ Some i.0
    pub to : prev_of s c ≡ Some i.0
    pub stands_a : Stands s a
    pub stands_c : Stands s c
    pub node : IsNode s i

  pub between : (s : ListState T) (z : Option Pos) (xs : List (Pos × T)) (i : Pos × T) (ys : List (Pos × T)) → Stands s z → Ring s z (xs ++ i ∷ ys) → Between s (last_place z xs) i (first_place ys)
  between s z [] i [] h r = record { prev = r.1; next = r.4.0; from = r.0; to = r.4.1; stands_a = h; stands_c = tt; node = r.2 }
  between s z [] i (y ∷ ys) h r = record { prev = r.1; next = r.4.0; from = r.0; to = r.4.1; stands_a = h; stands_c = stands-node s y r.4.2; node = r.2 }
  between s z (x ∷ xs) i ys h r = between s (Some x.0) xs i ys (stands-node s x r.2) r.4

  at_item : (p : Pos) (xs : List (Pos × T)) (i : Pos × T) (ys : List (Pos × T)) → Differs (Some p) (xs ++ i ∷ ys) → same_place p.at i.0.at ≡ false
  at_item p [] i ys d = d.0
  at_item p (x ∷ xs) i ys d = at_item p xs i ys d.1

  -- p is no other item's place
  pub others : (s : ListState T) (z : Option Pos) (xs : List (Pos × T)) (i : Pos × T) (ys : List (Pos × T)) → Ring s z (xs ++ i ∷ ys)
      → Differs (Some i.0) (xs ++ ys) × (without i.0 (xs ++ i ∷ ys) ≡ xs ++ ys)
  others s z [] i ys r = (r.3, λ k. cond (same_place_refl i.0.at k) ys (i ∷ without i.0 ys))
  others s z (x ∷ xs) i ys r =
      let rest = others s (Some x.0) xs i ys r.4 in let apart = at_item x.0 xs i ys r.3 in
      ((same_end_symm (Some i.0) (Some x.0) ∙ apart, rest.0), (λ k. cond (apart k) (xs ++ i ∷ ys) (x ∷ without i.0 (xs ++ i ∷ ys))) ∙ (λ k. x ∷ rest.1 k))

  next_marked : (s : ListState T) (p : Pos) (y : Bool) (t u x : Option Pos) → next_of (record (marked p y t s) { top = u }) x ≡ next_of s x
  next_marked s p y t u None = refl
  next_marked s p y t u (Some q) = map_found (λ (n : Node T). n.next) (λ (n : Node T). record n { away = y; unlinked_after = t }) (λ n. refl) p.at q.at None s.cells

  prev_marked : (s : ListState T) (p : Pos) (y : Bool) (t u x : Option Pos) → prev_of (record (marked p y t s) { top = u }) x ≡ prev_of s x
  prev_marked s p y t u None = refl
  prev_marked s p y t u (Some q) = map_found (λ (n : Node T). n.prev) (λ (n : Node T). record n { away = y; unlinked_after = t }) (λ n. refl) p.at q.at None s.cells

  -- a mark of p keeps the ring of the other items
  pub ring_marked : (s : ListState T) (p : Pos) (y : Bool) (t u z : Option Pos) (is : List (Pos × T)) → Differs (Some p) is → Ring s z is → Ring (record (marked p y t s) { top = u }) z is
  ring_marked s p y t u z [] d r = (next_marked s p y t u z ∙ r.0, r.1)
  ring_marked s p y t u z (i ∷ is) d r = (
    next_marked s p y t u z ∙ r.0,
    prev_marked s p y t u (Some i.0) ∙ r.1,
    (r.2.0, find-update_other p.at i.0.at (λ (n : Node T). record n { away = y; unlinked_after = t }) s.cells d.0 ∙ r.2.1, r.2.2, r.2.3, r.2.4),
    r.3,
    ring_marked s p y t u (Some i.0) is d.1 r.4,
  )

  differs_none : (is : List (Pos × T)) → Differs None is
  differs_none [] = tt
  differs_none (i ∷ is) = (refl, differs_none is)

  differs_left : (a : Option Pos) (xs ys : List (Pos × T)) → Differs a (xs ++ ys) → Differs a xs × Differs a ys
  differs_left a [] ys d = (tt, d)
  differs_left a (x ∷ xs) ys d = let r = differs_left a xs ys d.1 in ((d.0, r.0), r.1)

  differs_end : (p : Pos) (z : Option Pos) (xs : List (Pos × T)) → same_end z (Some p) ≡ false → Differs (Some p) xs → same_end (last_place z xs) (Some p) ≡ false
  differs_end p z [] e d = e
  differs_end p z (x ∷ xs) e d = differs_end p (Some x.0) xs (same_end_symm (Some x.0) (Some p) ∙ d.0) d.1

  find_next : (a b : Option Pos) (p : Pos) (s : ListState T) → same_end a (Some p) ≡ false → find p.at (with_next a b s).cells ≡ find p.at s.cells
  find_next None b p s d = refl
  find_next (Some q) b p s d = find-update_other q.at p.at _ s.cells d

  find_prev : (a b : Option Pos) (p : Pos) (s : ListState T) → same_end a (Some p) ≡ false → find p.at (with_prev a b s).cells ≡ find p.at s.cells
  find_prev None b p s d = refl
  find_prev (Some q) b p s d = find-update_other q.at p.at _ s.cells d

  top_next : (a b : Option Pos) (s : ListState T) → (with_next a b s).top ≡ s.top
  top_next None b s = refl
  top_next (Some q) b s = refl

  -- a write leaves each node where it stands
  pub end_update : (p : Ptr) (f : Node T → Node T) (cs : List (Cell (Node T))) (a : Option Pos) → IsEnd cs a → IsEnd (update p f cs) a
  end_update p f cs None h = tt
  end_update p f cs (Some q) h = (cond (same_place p q.at) (f h.0) h.0, found p q.at f cs h.0 h.1)

  end_next : (b c : Option Pos) (s : ListState T) (a : Option Pos) → IsEnd s.cells a → IsEnd (with_next b c s).cells a
  end_next None c s a h = h
  end_next (Some q) c s a h = end_update q.at _ s.cells a h

  end_prev : (b c : Option Pos) (s : ListState T) (a : Option Pos) → IsEnd s.cells a → IsEnd (with_prev b c s).cells a
  end_prev None c s a h = h
  end_prev (Some q) c s a h = end_update q.at _ s.cells a h

  pub as_end : (s : ListState T) (a : Option Pos) → Stands s a → IsEnd s.cells a
  as_end s None h = tt
  as_end s (Some q) h = h

  pub ring_of : (cs : List (Change T)) (s : ListState T) → IsTrail cs s → Ring s None (replay cs).present
  ring_of [] s t = subst (λ (e : ListState T). Ring e None []) (sym t) (refl, refl)
  ring_of (c ∷ cs) s t = t.1

  pub bound_of : (cs : List (Change T)) (s : ListState T) → IsTrail cs s → length (replay cs).present < 2 ^ 64
  bound_of [] s t = omega arith
  bound_of (c ∷ cs) s t = t.2

  pub trail_unlink : (cs : List (Change T)) (s : ListState T) (xs : List (Pos × T)) (i : Pos × T) (ys : List (Pos × T)) → IsTrail cs s → (replay cs).present ≡ xs ++ i ∷ ys
      → IsTrail (unlink_of i.0 ∷ cs) (unlinked (last_place None xs) i.0 (first_place ys) s)
  trail_unlink cs s xs i ys t e =
      let p = i.0 in let a = last_place None xs in let c = first_place ys in let r : Ring s None (xs ++ i ∷ ys) = subst (Ring s None) e (ring_of cs s t) in
      let b = between s None xs i ys tt r in let o = others s None xs i ys r in let n = b.node.0 in let u = unlinked a p c s in let br = bridged a c s in
      let sides = differs_left (Some p) xs ys o.0 in
      let is = ap (without p) e ∙ o.1 in
      let short : length (xs ++ ys) < 2 ^ 64 = omega (arith, bound_of cs s t, ap length e, length-append xs ys, length-append xs (i ∷ ys)) in
      let apart_a = differs_end p None xs refl sides.0 in let apart_c = differs_first p ys sides.1 in
      let at_br : find p.at br.cells ≡ Some n = find_prev c a p (with_next a c s) apart_c ∙ find_next a c p s apart_a ∙ b.node.1 in
      let ea : n.prev ≡ a = sym (read (λ (m : Node T). m.prev) _ n None b.node.1) ∙ b.prev in let ec : n.next ≡ c = sym (read (λ (m : Node T). m.next) _ n None b.node.1) ∙ b.next in
      let mark = λ (m : Node T). record m { away = true; unlinked_after = s.top } in (
        refl,
        subst (Ring u None) (sym is) (ring_marked br p true s.top (Some p) None (xs ++ ys) o.0 (ring_unlink s None xs i ys tt (differs_none (xs ++ i ∷ ys)) r)),
        subst (λ l. length l < 2 ^ 64) (sym is) short,
        s,
        record {
          node = record n { away = true; unlinked_after = s.top };
          at = find-update_same p.at mark br.cells n at_br;
          held = omega (arith, ap length e, ap length is, length-append xs ys, length-append xs (i ∷ ys));
          away = refl;
          before = subst (IsEnd u.cells) (sym ea) (end_update p.at mark br.cells a (end_prev c a (with_next a c s) a (end_next a c s a (as_end s a b.stands_a))));
          after = subst (IsEnd u.cells) (sym ec) (end_update p.at mark br.cells c (end_prev c a (with_next a c s) c (end_next a c s c (as_end s c b.stands_c))));
          back = (λ k. relinked (ea k) p (ec k) s.top u) ∙ exact_unlink a p c s n b.node.1 b.node.3 b.node.4 b.stands_a b.from b.stands_c b.to;
        },
        t,
      )

  ring_last : (s : ListState T) (z : Option Pos) (is : List (Pos × T)) → Ring s z is → s.last ≡ last_place z is
  ring_last s z [] r = r.1
  ring_last s z (i ∷ is) r = ring_last s (Some i.0) is r.4

  ring_end : (s : ListState T) (z : Option Pos) (is : List (Pos × T)) → Ring s z is → next_of s (last_place z is) ≡ None
  ring_end s z [] r = r.0
  ring_end s z (i ∷ is) r = ring_end s (Some i.0) is r.4

  ring_stands : (s : ListState T) (z : Option Pos) (is : List (Pos × T)) → Stands s z → Ring s z is → Stands s (last_place z is)
  ring_stands s z [] h r = h
  ring_stands s z (i ∷ is) h r = ring_stands s (Some i.0) is (stands-node s i r.2) r.4

  exact_push : (a : Option Pos) (p : Pos) (n : Node T) (s : ListState T) → IsFresh p.at s.cells → Stands s a → next_of s a ≡ None
      → with_next a None (with_next a (Some p) (added p n s)) ≡ added p n s
  exact_push None p n s f h e = λ i. record { cells = cell p.at n ∷ s.cells; first = sym e i; last = Some p; top = Some p }
  exact_push (Some q) p n s f h e =
      let here : find q.at (cell p.at n ∷ s.cells) ≡ Some h.0 = (λ i. cond (fresh_differs p.at q.at s.cells h.0 f h.1 i) (Some n) (find q.at s.cells)) ∙ h.1 in
      λ i. record { cells = next_back q None (Some p) (cell p.at n ∷ s.cells) h.0 here (sym (read (λ (m : Node T). m.next) _ h.0 None h.1) ∙ e) i; first = s.first; last = Some p; top = Some p }

  pub trail_push : (cs : List (Change T)) (s : ListState T) (p : Pos) (n : Node T) → IsTrail cs s → IsFresh p.at s.cells → n.prev ≡ s.last → n.next ≡ None → n.pushed_after ≡ s.top → n.away ≡ false → n.unlinked_after ≡ None
      → length (replay cs).present + 1 < 2 ^ 64 → IsTrail (push_of p n.value ∷ cs) (with_next s.last (Some p) (added p n s))
  trail_push cs s p n t f e_prev e_next e_top h k short =
      let is = (replay cs).present in let r = ring_of cs s t in let el = ring_last s None is r in let J = with_next s.last (Some p) (added p n s) in
      let stands : Stands s s.last = subst (Stands s) (sym el) (ring_stands s None is tt r) in
      let ends : next_of s s.last ≡ None = subst (λ x. next_of s x ≡ None) (sym el) (ring_end s None is r) in (
        top_next s.last (Some p) (added p n s),
        subst (λ x. Ring (with_next x (Some p) (added p n s)) None (is ++ (p, n.value) ∷ [])) (sym el) (ring_push s p n.value n f refl e_next h k None is tt (differs_none is) r (e_prev ∙ el)),
        omega (arith, short, length-append is ((p, n.value) ∷ [])),
        s,
        record {
          node = n;
          at = find_next s.last (Some p) p (added p n s) (away_from s p n.value n f refl e_next h k s.last stands) ∙ at_p s p n.value n f refl e_next h k;
          here = h;
          value = refl;
          stands = subst (IsEnd J.cells) (sym e_prev) (end_next s.last (Some p) (added p n s) s.last (as_end (added p n s) s.last (stands_K s p n.value n f refl e_next h k s.last stands)));
          gone = (λ i. with_next (e_prev i) None J) ∙ exact_push s.last p n s f stands ends;
          last = sym e_prev;
          top = sym e_top;
        },
        t,
      )

  end_added : (p : Pos) (n : Node T) (s : ListState T) → IsFresh p.at s.cells → (a : Option Pos) → Stands s a → IsEnd (cell p.at n ∷ s.cells) a
  end_added p n s f None h = tt
  end_added p n s f (Some q) h = (h.0, (λ i. cond (fresh_differs p.at q.at s.cells h.0 f h.1 i) (Some n) (find q.at s.cells)) ∙ h.1)

  -- the last place stands once a node has come
  pub last_stands : (cs : List (Change T)) (s : ListState T) → IsTrail cs s → (p : Pos) (n : Node T) → IsFresh p.at s.cells → IsEnd (cell p.at n ∷ s.cells) s.last
  last_stands cs s t p n f =
      let r = ring_of cs s t in let is = (replay cs).present in
      end_added p n s f s.last (subst (Stands s) (sym (ring_last s None is r)) (ring_stands s None is tt r))
