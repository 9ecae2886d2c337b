-- What each call of the list shows, over plain values.
use Rattle.std.proofs.Common.{◌≡◌, ℕ, ◌+◌, ◌-◌, ◌<◌, Bool, true, false, cond, List, [], ◌∷◌, ◌++◌, length, Option, Some, None, refl, sym, ap, ◌∙◌, subst, arith, length-append}
use Rattle.std.specs.Prelude.{IsSome, is_some as is_some_of}
use denote.RawPtr.{Ptr}
use Rattle.backlist.specs.Cells.{Cell, find, update}
use Rattle.backlist.specs.declared.boxes.Pos.{Pos}
use Rattle.backlist.specs.declared.list.Node.{Node}
use Rattle.backlist.specs.History.{History, Change, replay, without, unlink_of, IsIn}
use Rattle.std.proofs.Common.{◌^◌, ◌≤◌}
use Rattle.backlist.specs.Cells.{cell}
use Rattle.backlist.specs.Links.{relinked}
use Rattle.backlist.specs.Trail.{IsUndone, IsPushed, IsUnlinked}
use Rattle.backlist.proofs.Trails.{bound_of, trail_push, last_stands}
use Rattle.backlist.proofs.Rings.{added}
use Rattle.backlist.specs.History.{push_of}
use Rattle.backlist.specs.Cells.{IsFresh}
use Rattle.backlist.specs.Links.{ListState, with_next, unlinked, Ring, last_place, first_place}
use Rattle.backlist.specs.Trail.{IsTrail, IsEnd, next_cells, prev_cells, end_after}
use Rattle.backlist.proofs.Ringed.{read, map_found}
use Rattle.backlist.proofs.Found.{same_place_refl, same_place_eq}
use Rattle.backlist.specs.Cells.{same_place}
use Rattle.backlist.specs.History.{IsNew, IsNewIn}
use Rattle.std.specs.Option.{option_map_or}
use Rattle.backlist.proofs.Trails.{Between, between, others, ring_of, trail_unlink, end_update, as_end}

some_pos : (p q : Pos) → Some p ≡ Some q → p ≡ q
some_pos p q e = cc

tail_is : {X : Type 0} (x y : X) (xs ys : List X) → x ∷ xs ≡ y ∷ ys → xs ≡ ys
tail_is x y xs ys e = cc

module _ {T : Type 0} where
  pub is_some : (o : Option (Node T)) (n : Node T) → o ≡ Some n → IsSome o
  is_some (Some m) n e = refl
  is_some None n e = cc

  pub one_node : (o : Option (Node T)) (m n : Node T) → o ≡ Some m → o ≡ Some n → m ≡ n
  one_node o m n d e = cc

  pub ring_first : (s : ListState T) (is : List (Pos × T)) → Ring s None is → s.first ≡ first_place is
  ring_first s [] r = r.0
  ring_first s (i ∷ is) r = r.0

  module _ (cs : List (Change T)) (s : ListState T) (h : History T) (w : replay cs ≡ h) (t : IsTrail cs s) where
    pub first_is : s.first ≡ first_place h.present
    first_is = ring_first s (replay cs).present (ring_of cs s t) ∙ ap (λ (g : History T). first_place g.present) w

    pub at_item : (p : Pos) (xs : List (Pos × T)) (v : T) (ys : List (Pos × T)) → h.present ≡ xs ++ (p, v) ∷ ys → Between s (last_place None xs) (p, v) (first_place ys)
    at_item p xs v ys e = between s None xs (p, v) ys tt (subst (Ring s None) (ap (λ (g : History T). g.present) w ∙ e) (ring_of cs s t))

    pub found_in : (p : Pos) → IsIn p h.present → IsSome (find p.at s.cells)
    found_in p q = let b = at_item p q.0 q.1 q.2 q.3 in is_some _ b.node.0 b.node.1

    module _ (p : Pos) (n : Node T) (e : find p.at s.cells ≡ Some n) (xs : List (Pos × T)) (v : T) (ys : List (Pos × T)) (q : h.present ≡ xs ++ (p, v) ∷ ys) where
      pub value_is : n.value ≡ v
      value_is = let b = at_item p xs v ys q in ap (λ (m : Node T). m.value) (one_node _ n b.node.0 e b.node.1) ∙ b.node.2

      pub next_is : n.next ≡ first_place ys
      next_is = sym (read (λ (m : Node T). m.next) _ n None e) ∙ (at_item p xs v ys q).next

      pub prev_is : n.prev ≡ last_place None xs
      prev_is = sym (read (λ (m : Node T). m.prev) _ n None e) ∙ (at_item p xs v ys q).prev

      pub end_before : IsEnd s.cells n.prev
      end_before = subst (IsEnd s.cells) (sym prev_is) (as_end s (last_place None xs) (at_item p xs v ys q).stands_a)

      pub end_behind : IsEnd s.cells n.next
      end_behind = subst (IsEnd s.cells) (sym next_is) (as_end s (first_place ys) (at_item p xs v ys q).stands_c)

  pub end_next_cells : (a b : Option Pos) (cs : List (Cell (Node T))) (x : Option Pos) → IsEnd cs x → IsEnd (next_cells a b cs) x
  end_next_cells None b cs x h = h
  end_next_cells (Some q) b cs x h = end_update q.at _ cs x h

  pub end_prev_cells : (a b : Option Pos) (cs : List (Cell (Node T))) (x : Option Pos) → IsEnd cs x → IsEnd (prev_cells a b cs) x
  end_prev_cells None b cs x h = h
  end_prev_cells (Some q) b cs x h = end_update q.at _ cs x h

  abbrev pub marks : Bool → Option Pos → Node T → Node T
  marks y t n = record n { away = y; unlinked_after = t }

  unlinked_is : (a : Option Pos) (p : Pos) (c : Option Pos) (s : ListState T)
      → unlinked a p c s ≡ record { cells = update p.at (marks true s.top) (prev_cells c a (next_cells a c s.cells)); first = end_after a c s.first; last = end_after c a s.last; top = Some p }
  unlinked_is None p None s = refl
  unlinked_is None p (Some r) s = refl
  unlinked_is (Some q) p None s = refl
  unlinked_is (Some q) p (Some r) s = refl

  module _ (cs : List (Change T)) (s : ListState T) (h : History T) (w : replay cs ≡ h) (t : IsTrail cs s) (p : Pos) (q : IsIn p h.present) (n : Node T) (e : find p.at s.cells ≡ Some n) where
    is : (replay cs).present ≡ q.0 ++ (p, q.1) ∷ q.2
    is = ap (λ (g : History T). g.present) w ∙ q.3

    -- the items before and after that at p are the list without it
    pub unlink_others : (xs : List (Pos × T)) (v : T) (ys : List (Pos × T)) → h.present ≡ xs ++ (p, v) ∷ ys → without p h.present ≡ xs ++ ys
    unlink_others xs v ys d =
        ap (without p) d ∙ (others s None xs (p, v) ys (subst (Ring s None) (ap (λ (g : History T). g.present) w ∙ d) (ring_of cs s t))).1

    pub unlink_done : (ds : List (Change T)) (z : ListState T) → ds ≡ unlink_of p ∷ cs → z.cells ≡ update p.at (marks true s.top) (prev_cells n.next n.prev (next_cells n.prev n.next s.cells))
        → z.first ≡ end_after n.prev n.next s.first → z.last ≡ end_after n.next n.prev s.last → z.top ≡ Some p → IsTrail ds z
    unlink_done ds z d c f l o =
        let ea = prev_is cs s h w t p n e q.0 q.1 q.2 q.3 in let ec = next_is cs s h w t p n e q.0 q.1 q.2 q.3 in
        let whole : z ≡ unlinked (last_place None q.0) p (first_place q.2) s =
        (λ i. record { cells = c i; first = f i; last = l i; top = o i }) ∙ sym (unlinked_is n.prev p n.next s) ∙ (λ i. unlinked (ea i) p (ec i) s) in
        subst (λ (x : List (Change T) × ListState T). IsTrail x.0 x.1) (λ i. (sym d i, sym whole i)) (trail_unlink cs s q.0 (p, q.1) q.2 t is)

    pub unlink_len : (ds : List (Change T)) (m : ℕ) → ds ≡ unlink_of p ∷ cs → m ≡ length (replay cs).present → m - 1 ≡ length (replay ds).present
    unlink_len ds m d k =
        let r = subst (Ring s None) is (ring_of cs s t) in let o = others s None q.0 (p, q.1) q.2 r in
        let gone : (replay ds).present ≡ q.0 ++ q.2 = ap (λ (x : List (Change T)). (replay x).present) d ∙ ap (without p) is ∙ o.1 in
        omega (arith, k, ap length is, ap length gone, length-append q.0 ((p, q.1) ∷ q.2), length-append q.0 q.2)

  cells_next : (a b : Option Pos) (s : ListState T) → (with_next a b s).cells ≡ next_cells a b s.cells
  cells_next None b s = refl
  cells_next (Some q) b s = refl

  first_next : (a b : Option Pos) (s : ListState T) → (with_next a b s).first ≡ end_after a b s.first
  first_next None b s = refl
  first_next (Some q) b s = refl

  relinked_is : (a : Option Pos) (p : Pos) (c t : Option Pos) (s : ListState T)
      → relinked a p c t s ≡ record { cells = next_cells a (Some p) (prev_cells c (Some p) (update p.at (marks false None) s.cells)); first = end_after a (Some p) s.first; last = end_after c (Some p) s.last; top = t }
  relinked_is None p None t s = refl
  relinked_is None p (Some r) t s = refl
  relinked_is (Some q) p None t s = refl
  relinked_is (Some q) p (Some r) t s = refl

  -- the last change is of the node at the top
  pub record Last (cs : List (Change T)) (s : ListState T) (p : Pos) : Type 0 where
    pub value : Option T
    pub older : List (Change T)
    pub is : cs ≡ record { place = p; value = value } ∷ older
    pub state : ListState T
    pub undone : IsUndone (record { place = p; value = value }) (replay older).present s state
    pub trail : IsTrail older state

  pub last_change : (cs : List (Change T)) (s : ListState T) → IsTrail cs s → (p : Pos) → s.top ≡ Some p → Last cs s p
  last_change [] s t p e = let no : None ≡ Some p = sym (ap (λ (x : ListState T). x.top) t) ∙ e in cc
  last_change (k ∷ ks) s t p e =
      let same : k.place ≡ p = some_pos k.place p (sym t.0 ∙ e) in
      record { value = k.value; older = ks; is = (λ i. record { place = same i; value = k.value } ∷ ks); state = t.3; undone = subst (λ x. IsUndone (record { place = x; value = k.value }) (replay ks).present s t.3) same t.4; trail = t.5 }

  node_of : (p : Pos) (o : Option T) (is : List (Pos × T)) (s e : ListState T) → IsUndone (record { place = p; value = o }) is s e → (n : Node T) × (find p.at s.cells ≡ Some n)
  node_of p (Some v) as' s e u = (u.node, u.at)
  node_of p None as' s e u = (u.node, u.at)

  as_unlinked : (p : Pos) (o : Option T) (is : List (Pos × T)) (s e : ListState T) → IsUndone (record { place = p; value = o }) is s e → (n : Node T) → find p.at s.cells ≡ Some n → n.away ≡ true → IsUnlinked p is s e × (o ≡ None)
  as_unlinked p (Some v) as' s e u n at y = let no : true ≡ false = sym y ∙ ap (λ (m : Node T). m.away) (one_node _ n u.node at u.at) ∙ u.here in cc
  as_unlinked p None as' s e u n at y = (u, refl)

  as_pushed : (p : Pos) (o : Option T) (is : List (Pos × T)) (s e : ListState T) → IsUndone (record { place = p; value = o }) is s e → (n : Node T) → find p.at s.cells ≡ Some n → n.away ≡ false → (v : T) × IsPushed p v s e × (o ≡ Some v)
  as_pushed p (Some v) as' s e u n at y = (v, u, refl)
  as_pushed p None as' s e u n at y = let no : true ≡ false = sym u.away ∙ ap (λ (m : Node T). m.away) (one_node _ u.node n u.at at) ∙ y in cc

  module _ (cs : List (Change T)) (s : ListState T) (t : IsTrail cs s) (p : Pos) (top : s.top ≡ Some p) where
    abbrev pub k : Last cs s p
    k = last_change cs s t p top

    pub top_found : IsSome (find p.at s.cells)
    top_found = let n = node_of p k.value _ s k.state k.undone in is_some _ n.0 n.1

    pub top_logged : (c : Change T) × (ds : List (Change T)) × (cs ≡ c ∷ ds)
    top_logged = (record { place = p; value = k.value }, k.older, k.is)

    module _ (n : Node T) (e : find p.at s.cells ≡ Some n) where
      module _ (y : n.away ≡ true) where
        u : IsUnlinked p (replay k.older).present s k.state × (k.value ≡ None)
        u = as_unlinked p k.value _ s k.state k.undone n e y

        same : u.0.node ≡ n
        same = one_node _ u.0.node n u.0.at e

        pub back_before : IsEnd s.cells n.prev
        back_before = subst (λ (m : Node T). IsEnd s.cells m.prev) same u.0.before

        pub back_behind : IsEnd s.cells n.next
        back_behind = subst (λ (m : Node T). IsEnd s.cells m.next) same u.0.after

        pub unlink_undone : (ds : List (Change T)) (c : Change T) (z : ListState T) → cs ≡ c ∷ ds
            → z.cells ≡ next_cells n.prev (Some p) (prev_cells n.next (Some p) (update p.at (marks false None) s.cells)) → z.first ≡ end_after n.prev (Some p) s.first → z.last ≡ end_after n.next (Some p) s.last → z.top ≡ n.unlinked_after → IsTrail ds z
        unlink_undone ds c z d f g l o =
            let older : ds ≡ k.older = tail_is _ _ ds k.older (sym d ∙ k.is) in
            let whole : z ≡ k.state = (λ i. record { cells = f i; first = g i; last = l i; top = o i }) ∙ sym (relinked_is n.prev p n.next n.unlinked_after s) ∙ sym (λ i. relinked (same i).prev p (same i).next (same i).unlinked_after s) ∙ u.0.back in
            subst (λ (x : List (Change T) × ListState T). IsTrail x.0 x.1) (λ i. (sym older i, sym whole i)) k.trail

        pub unlink_undone_len : (ds : List (Change T)) (c : Change T) (m : ℕ) → cs ≡ c ∷ ds → m ≡ length (replay cs).present → (m + 1 ≡ length (replay ds).present) × (m + 1 < 2 ^ 64)
        unlink_undone_len ds c m d w =
            let older : ds ≡ k.older = tail_is _ _ ds k.older (sym d ∙ k.is) in
            let now : (replay cs).present ≡ without p (replay k.older).present = ap (λ (x : List (Change T)). (replay x).present) (k.is ∙ (λ i. record { place = p; value = u.1 i } ∷ k.older)) in
            let longer : m + 1 ≡ length (replay k.older).present = omega (arith, w, ap length now, u.0.held) in
            (longer ∙ ap (λ (x : List (Change T)). length (replay x).present) (sym older), omega (arith, longer, bound_of k.older k.state k.trail))

      module _ (y : n.away ≡ false) where
        v : (v : T) × IsPushed p v s k.state × (k.value ≡ Some v)
        v = as_pushed p k.value _ s k.state k.undone n e y

        alike : v.1.node ≡ n
        alike = one_node _ v.1.node n v.1.at e

        pub push_before : IsEnd s.cells n.prev
        push_before = subst (λ (m : Node T). IsEnd s.cells m.prev) alike v.1.stands

        whole_is : with_next n.prev None s ≡ record { cells = cell p.at n ∷ k.state.cells; first = k.state.first; last = Some p; top = Some p }
        whole_is = subst (λ (m : Node T). with_next m.prev None s ≡ record { cells = cell p.at m ∷ k.state.cells; first = k.state.first; last = Some p; top = Some p }) alike v.1.gone

        pub push_cells : next_cells n.prev None s.cells ≡ cell p.at n ∷ k.state.cells
        push_cells = sym (cells_next n.prev None s) ∙ ap (λ (x : ListState T). x.cells) whole_is

        pub push_taken : (cells : List (Cell (Node T))) → cells ≡ next_cells n.prev None s.cells → (m : Node T) × (rest : List (Cell (Node T))) × (cells ≡ cell p.at m ∷ rest)
        push_taken cells w = (n, k.state.cells, w ∙ push_cells)

        pub push_undone : (ds : List (Change T)) (c : Change T) (z : ListState T) (m : Node T) (cells : List (Cell (Node T))) → cs ≡ c ∷ ds → cells ≡ next_cells n.prev None s.cells → cells ≡ cell p.at m ∷ z.cells
            → z.first ≡ end_after n.prev None s.first → z.last ≡ n.prev → z.top ≡ n.pushed_after → IsTrail ds z
        push_undone ds c z m cells d w f g l o =
            let older : ds ≡ k.older = tail_is _ _ ds k.older (sym d ∙ k.is) in
            let both : cell p.at m ∷ z.cells ≡ cell p.at n ∷ k.state.cells = sym f ∙ w ∙ push_cells in
            let rest : z.cells ≡ k.state.cells = tail_is _ _ z.cells k.state.cells both in
            let first : z.first ≡ k.state.first = g ∙ sym (first_next n.prev None s) ∙ ap (λ (x : ListState T). x.first) whole_is in
            let last : z.last ≡ k.state.last = l ∙ ap (λ (x : Node T). x.prev) (sym alike) ∙ sym v.1.last in
            let newest : z.top ≡ k.state.top = o ∙ ap (λ (x : Node T). x.pushed_after) (sym alike) ∙ sym v.1.top in
            subst (λ (x : List (Change T) × ListState T). IsTrail x.0 x.1) (λ i. (sym older i, record { cells = sym rest i; first = sym first i; last = sym last i; top = sym newest i })) k.trail

        pub push_undone_len : (ds : List (Change T)) (c : Change T) (m : ℕ) → cs ≡ c ∷ ds → m ≡ length (replay cs).present → (m - 1 ≡ length (replay ds).present) × (1 ≤ m)
        push_undone_len ds c m d w =
            let older : ds ≡ k.older = tail_is _ _ ds k.older (sym d ∙ k.is) in
            let now : (replay cs).present ≡ (replay k.older).present ++ (p, v.0) ∷ [] = ap (λ (x : List (Change T)). (replay x).present) (k.is ∙ (λ i. record { place = p; value = v.2 i } ∷ k.older)) in
            let longer : m ≡ length (replay k.older).present + 1 = omega (arith, w, ap length now, length-append (replay k.older).present ((p, v.0) ∷ [])) in
            let shorter : m - 1 ≡ length (replay k.older).present = omega (arith, longer) in
            (shorter ∙ ap (λ (x : List (Change T)). length (replay x).present) (sym older), omega (arith, longer))

  joined_is : (a : Option Pos) (p : Pos) (n : Node T) (s : ListState T) → with_next a (Some p) (added p n s) ≡ record { cells = next_cells a (Some p) (cell p.at n ∷ s.cells); first = end_after a (Some p) s.first; last = Some p; top = Some p }
  joined_is None p n s = refl
  joined_is (Some q) p n s = refl

  module _ (cs : List (Change T)) (s : ListState T) (t : IsTrail cs s) (p : Pos) (f : IsFresh p.at s.cells) where
    pub end_last : (n : Node T) (cells : List (Cell (Node T))) → cells ≡ cell p.at n ∷ s.cells → IsEnd cells s.last
    end_last n cells w = subst (λ c. IsEnd c s.last) (sym w) (last_stands cs s t p n f)

    pub push_done : (ds : List (Change T)) (z : ListState T) (n : Node T) (v : T) (cells : List (Cell (Node T))) → ds ≡ push_of p v ∷ cs → n.value ≡ v → cells ≡ cell p.at n ∷ s.cells → z.cells ≡ next_cells s.last (Some p) cells
        → z.first ≡ end_after s.last (Some p) s.first → z.last ≡ Some p → z.top ≡ Some p
        → n.prev ≡ s.last → n.next ≡ None → n.pushed_after ≡ s.top → n.away ≡ false → n.unlinked_after ≡ None → length (replay cs).present + 1 < 2 ^ 64 → IsTrail ds z
    push_done ds z n v cells d is_v w c g l o e_prev e_next e_top h k short =
        let whole : z ≡ with_next s.last (Some p) (added p n s) = (λ i. record { cells = (c ∙ ap (next_cells s.last (Some p)) w) i; first = g i; last = l i; top = o i }) ∙ sym (joined_is s.last p n s) in
        let log : ds ≡ push_of p n.value ∷ cs = d ∙ (λ i. push_of p (sym is_v i) ∷ cs) in
        subst (λ (x : List (Change T) × ListState T). IsTrail x.0 x.1) (λ i. (sym log i, sym whole i)) (trail_push cs s p n t f e_prev e_next e_top h k short)

    pub push_len : (ds : List (Change T)) (v : T) (m : ℕ) → ds ≡ push_of p v ∷ cs → m ≡ length (replay cs).present → m + 1 ≡ length (replay ds).present
    push_len ds v m d w =
        let now : (replay ds).present ≡ (replay cs).present ++ (p, v) ∷ [] = ap (λ (x : List (Change T)). (replay x).present) d in
        omega (arith, w, ap length now, length-append (replay cs).present ((p, v) ∷ []))

  pub no_top : (cs : List (Change T)) (s : ListState T) → IsTrail cs s → (h : History T) → replay cs ≡ h → 0 < length h.earlier → s.top ≡ None → ⊥
  no_top [] s t h w l e = let none : length h.earlier ≡ 0 = ap (λ (g : History T). length g.earlier) (sym w) in omega (arith, l, none)
  no_top (c ∷ cs) s t h w l e = let both : Some c.place ≡ None = sym t.0 ∙ e in cc

  value_kept : (a b : Option Pos) (p : Pos) (n : Node T) (cs : List (Cell (Node T))) → option_map_or (λ (x : Node T). x.value) (find p.at (next_cells a b (cell p.at n ∷ cs))) n.value ≡ option_map_or (λ (x : Node T). x.value) (find p.at (cell p.at n ∷ cs)) n.value
  value_kept None b p n cs = refl
  value_kept (Some q) b p n cs = map_found (λ (x : Node T). x.value) (λ (x : Node T). record x { next = b }) (λ x. refl) q.at p.at n.value (cell p.at n ∷ cs)

  -- the pushed node has its value after the links are set
  pub pushed_value : (a b : Option Pos) (p : Pos) (n : Node T) (cs cells : List (Cell (Node T))) (m : Node T) → cells ≡ next_cells a b (cell p.at n ∷ cs) → find p.at cells ≡ Some m → m.value ≡ n.value
  pushed_value a b p n cs cells m w e = sym (read (λ (x : Node T). x.value) _ m n.value (ap (find p.at) (sym w) ∙ e)) ∙ value_kept a b p n cs ∙ read (λ (x : Node T). x.value) _ n n.value (λ i. cond (same_place_refl p.at i) (Some n) (find p.at cs))

  module _ (cs : List (Change T)) (s : ListState T) (t : IsTrail cs s) (h : History T) (w : replay cs ≡ h) where
    none_empty : h.earlier ≡ [] → cs ≡ []
    none_empty e = (elim cs as (λ (ds : List (Change T)). replay ds ≡ h → ds ≡ []) [
      | [] ↦ λ v. refl
      | (c ∷ ds) ↦ λ v. let no : (replay ds).present ∷ (replay ds).earlier ≡ [] = ap (λ (g : History T). g.earlier) v ∙ e in cc
    ]) w

    -- with no earlier list no node is left
    pub all_freed : h.earlier ≡ [] → s.cells ≡ []
    all_freed e = ap (λ (x : ListState T). x.cells) (subst (λ (ds : List (Change T)). IsTrail ds s) (none_empty e) t)

  pub some_earlier : (cs : List (Change T)) (s : ListState T) → IsTrail cs s → (h : History T) → replay cs ≡ h → is_some_of s.top ≡ true → 0 < length h.earlier
  some_earlier [] s t h w e = let no : false ≡ true = sym (ap (λ (x : ListState T). is_some_of x.top) t) ∙ e in cc
  some_earlier (c ∷ cs) s t h w e = let long : length h.earlier ≡ length (replay cs).earlier + 1 = ap (λ (g : History T). length g.earlier) (sym w) ∙ (omega arith) in omega (arith, long)

  pub none_earlier : (cs : List (Change T)) (s : ListState T) → IsTrail cs s → (h : History T) → replay cs ≡ h → is_some_of s.top ≡ false → h.earlier ≡ []
  none_earlier [] s t h w e = ap (λ (g : History T). g.earlier) (sym w)
  none_earlier (c ∷ cs) s t h w e = let no : false ≡ true = sym e ∙ ap is_some_of t.0 in cc

  -- whether a node stands at q
  abbrev pub stands_at : Ptr → List (Cell (Node T)) → Bool
  stands_at q cs = option_map_or (λ (n : Node T). true) (find q cs) false

  stands_update : (p q : Ptr) (f : Node T → Node T) (cs : List (Cell (Node T))) → stands_at q (update p f cs) ≡ stands_at q cs
  stands_update p q f cs = map_found (λ (n : Node T). true) f (λ n. refl) p q false cs

  stands_next : (q : Ptr) (a b : Option Pos) (cs : List (Cell (Node T))) → stands_at q (next_cells a b cs) ≡ stands_at q cs
  stands_next q None b cs = refl
  stands_next q (Some r) b cs = stands_update r.at q _ cs

  stands_prev : (q : Ptr) (a b : Option Pos) (cs : List (Cell (Node T))) → stands_at q (prev_cells a b cs) ≡ stands_at q cs
  stands_prev q None b cs = refl
  stands_prev q (Some r) b cs = stands_update r.at q _ cs

  stands_more : (p q : Ptr) (n : Node T) (cs : List (Cell (Node T))) → stands_at q cs ≡ true → stands_at q (cell p n ∷ cs) ≡ true
  stands_more p q n cs e = elim (same_place p q) as (λ y. option_map_or (λ (m : Node T). true) (cond y (Some n) (find q cs)) false ≡ true) [ true ↦ refl | false ↦ e ]

  -- a node that stood before a change stands after it
  stands_on : (p : Pos) (o : Option T) (is : List (Pos × T)) (s e : ListState T) → IsUndone (record { place = p; value = o }) is s e → (q : Ptr) → stands_at q e.cells ≡ true → stands_at q s.cells ≡ true
  stands_on p (Some v) as' s e u q h =
      let now : next_cells u.node.prev None s.cells ≡ cell p.at u.node ∷ e.cells = sym (cells_next u.node.prev None s) ∙ ap (λ (x : ListState T). x.cells) u.gone in
      sym (stands_next q u.node.prev None s.cells) ∙ ap (stands_at q) now ∙ stands_more p.at q u.node e.cells h
  stands_on p None as' s e u q h =
      let a = u.node.prev in let c = u.node.next in
      let now : next_cells a (Some p) (prev_cells c (Some p) (update p.at (marks false None) s.cells)) ≡ e.cells = ap (λ (x : ListState T). x.cells) (sym (relinked_is a p c u.node.unlinked_after s) ∙ u.back) in
      sym (stands_next q a (Some p) (prev_cells c (Some p) (update p.at (marks false None) s.cells)) ∙ stands_prev q c (Some p) (update p.at (marks false None) s.cells) ∙ stands_update p.at q (marks false None) s.cells) ∙ ap (stands_at q) now ∙ h

  new_place : (p q : Ptr) (cs : List (Cell (Node T))) → IsFresh p cs → stands_at q cs ≡ true → same_place q p ≡ false
  new_place p q [] f e = cc
  new_place p q (c ∷ cs) f e = (elim (same_place c.at q) as (λ y. same_place c.at q ≡ y → option_map_or (λ (m : Node T). true) (cond y (Some c.node) (find q cs)) false ≡ true → same_place q p ≡ false) [
    | true ↦ λ s h. sym (λ i. same_place (same_place_eq c.at q s i) p) ∙ f.0
    | false ↦ λ s h. new_place p q cs f.1 h
  ]) refl e

  ring_new : (s : ListState T) (z : Option Pos) (is : List (Pos × T)) → Ring s z is → (p : Pos) → ((q : Ptr) → stands_at q s.cells ≡ true → same_place q p.at ≡ false) → IsNew p is
  ring_new s z [] r p f = tt
  ring_new s z (i ∷ is) r p f = (f i.0.at (read (λ (m : Node T). true) _ r.2.0 false r.2.1), ring_new s (Some i.0) is r.4 p f)

  lists_new : (cs : List (Change T)) (s : ListState T) → IsTrail cs s → (p : Pos) → ((q : Ptr) → stands_at q s.cells ≡ true → same_place q p.at ≡ false) → IsNewIn p (replay cs)
  lists_new [] s t p f = (tt, tt)
  lists_new (c ∷ cs) s t p f = (ring_new s None (replay (c ∷ cs)).present t.1 p f, lists_new cs t.3 t.5 p (λ q h. f q (stands_on c.place c.value (replay cs).present s t.3 t.4 q h)))

  -- a fresh place is the place of no item, present or earlier
  pub fresh_place : (cs : List (Change T)) (s : ListState T) → IsTrail cs s → (h : History T) → replay cs ≡ h → (p : Pos) → IsFresh p.at s.cells → IsNewIn p h
  fresh_place cs s t h w p f = subst (IsNewIn p) w (lists_new cs s t p (λ q. new_place p.at q s.cells f))
