-- Undoing a change gives the very state that was before it.
use Rattle.std.proofs.Common.{◌≡◌, true, false, cond, List, Option, Some, None, refl, sym, ap, ◌∙◌}
use Rattle.backlist.specs.Cells.{Cell, same_place, find, update}
use Rattle.backlist.specs.declared.boxes.Pos.{Pos}
use Rattle.backlist.specs.declared.list.Node.{Node}
use Rattle.backlist.specs.Links.{ListState, next_of, prev_of, unlinked, relinked}
use Rattle.backlist.proofs.Ringed.{found, update-update, update-id, Stands, set_next, set_prev, kept, read}

module _ {T : Type 0} where
  some_eq : (m n : Node T) → Some m ≡ Some n → m ≡ n
  some_eq m n e = cc

  -- a second write of the old link undoes the first
  pub next_back : (p : Pos) (b c : Option Pos) (cs : List (Cell (Node T))) (n : Node T) → find p.at cs ≡ Some n → n.next ≡ b
      → update p.at (λ (m : Node T). record m { next = b }) (update p.at (λ (m : Node T). record m { next = c }) cs) ≡ cs
  next_back p b c cs n e h = update-update p.at _ _ cs ∙ update-id p.at _ cs n e (λ i. record n { next = sym h i })

  prev_back : (p : Pos) (b c : Option Pos) (cs : List (Cell (Node T))) (n : Node T) → find p.at cs ≡ Some n → n.prev ≡ b
      → update p.at (λ (m : Node T). record m { prev = b }) (update p.at (λ (m : Node T). record m { prev = c }) cs) ≡ cs
  prev_back p b c cs n e h = update-update p.at _ _ cs ∙ update-id p.at _ cs n e (λ i. record n { prev = sym h i })

  mark_back : (p : Pos) (t : Option Pos) (cs : List (Cell (Node T))) (n : Node T) → find p.at cs ≡ Some n → n.away ≡ false → n.unlinked_after ≡ None
      → update p.at (λ (m : Node T). record m { away = false; unlinked_after = None }) (update p.at (λ (m : Node T). record m { away = true; unlinked_after = t }) cs) ≡ cs
  mark_back p t cs n e h k = update-update p.at _ _ cs ∙ update-id p.at _ cs n e (λ i. record n { away = sym h i; unlinked_after = sym k i })

  -- the old links and marks stand in what is found after a write of another link
  pub exact_unlink : (a : Option Pos) (p : Pos) (c : Option Pos) (s : ListState T) (n : Node T) → find p.at s.cells ≡ Some n → n.away ≡ false → n.unlinked_after ≡ None
      → Stands s a → next_of s a ≡ Some p → Stands s c → prev_of s c ≡ Some p → relinked a p c s.top (unlinked a p c s) ≡ s
  exact_unlink None p None s n e h k sa ea sc ec = λ i. record { cells = mark_back p s.top s.cells n e h k i; first = sym ea i; last = sym ec i; top = s.top }
  exact_unlink (Some q) p None s n e h k sa ea sc ec =
      let f = set_next None in let y = same_place q.at p.at in
      let marks = mark_back p s.top (update q.at f s.cells) (cond y (f n) n) (found q.at p.at f s.cells n e) (kept (λ (m : Node T). m.away) f (λ m. refl) y n ∙ h) (kept (λ (m : Node T). m.unlinked_after) f (λ m. refl) y n ∙ k) in
      let cells = ap (update q.at (set_next (Some p))) marks ∙ next_back q (Some p) None s.cells sa.0 sa.1 (sym (read (λ (m : Node T). m.next) _ sa.0 None sa.1) ∙ ea) in
      λ i. record { cells = cells i; first = s.first; last = sym ec i; top = s.top }
  exact_unlink None p (Some r) s n e h k sa ea sc ec =
      let f = set_prev None in let y = same_place r.at p.at in
      let marks = mark_back p s.top (update r.at f s.cells) (cond y (f n) n) (found r.at p.at f s.cells n e) (kept (λ (m : Node T). m.away) f (λ m. refl) y n ∙ h) (kept (λ (m : Node T). m.unlinked_after) f (λ m. refl) y n ∙ k) in
      let cells = ap (update r.at (set_prev (Some p))) marks ∙ prev_back r (Some p) None s.cells sc.0 sc.1 (sym (read (λ (m : Node T). m.prev) _ sc.0 None sc.1) ∙ ec) in
      λ i. record { cells = cells i; first = sym ea i; last = s.last; top = s.top }
  exact_unlink (Some q) p (Some r) s n e h k sa ea sc ec =
      let f = set_next (Some r) in let g = set_prev (Some q) in let y = same_place q.at p.at in let z = same_place r.at p.at in let w = same_place q.at r.at in
      let one = update q.at f s.cells in let n1 = cond y (f n) n in let e1 = found q.at p.at f s.cells n e in
      let h1 = kept (λ (m : Node T). m.away) f (λ m. refl) y n ∙ h in let k1 = kept (λ (m : Node T). m.unlinked_after) f (λ m. refl) y n ∙ k in
      let marks = mark_back p s.top (update r.at g one) (cond z (g n1) n1) (found r.at p.at g one n1 e1) (kept (λ (m : Node T). m.away) g (λ m. refl) z n1 ∙ h1) (kept (λ (m : Node T). m.unlinked_after) g (λ m. refl) z n1 ∙ k1) in
      let m1 = cond w (f sc.0) sc.0 in
      let before = kept (λ (m : Node T). m.prev) f (λ m. refl) w sc.0 ∙ sym (read (λ (m : Node T). m.prev) _ sc.0 None sc.1) ∙ ec in
      let cells = ap (λ (cs : List (Cell (Node T))). update q.at (set_next (Some p)) (update r.at (set_prev (Some p)) cs)) marks
      ∙ ap (update q.at (set_next (Some p))) (prev_back r (Some p) (Some q) one m1 (found q.at r.at f s.cells sc.0 sc.1) before)
      ∙ next_back q (Some p) (Some r) s.cells sa.0 sa.1 (sym (read (λ (m : Node T). m.next) _ sa.0 None sa.1) ∙ ea) in
      λ i. record { cells = cells i; first = s.first; last = s.last; top = s.top }
