-- What the walks of the boxes share. Assumes `Logic`.
use mathlib.Core.Path.{◌≡◌, refl, subst}
use mathlib.Core.List.{List, [], ◌∷◌, ◌++◌}
use seplogic.Ra.Ura.{Ura}
use mir.Val.{Val, vstruct, vcons, vnil, of_list}
use base.Logic.{ent, sep, emp, via, fst∗, snd∗, id⊢}
use base.Fml.{Fml, Lft}
use types.Logic.{Logic, sem}
use types.Kit.{Goal, Seq, Step, step, ‵, ◌⊛◌, ◌$◌, ◌∵◌, !, qed, move, drop, use1, use2, split, fsplit, fjoin, fpick, fpack, feq_i, feq_l, done}
use denote.RattleType.{RattleType, Valss}
use denote.RawPtr.{Ptr, RawPtr, ptr_val}
use denote.Shadow.{makes_shadow}
use denote.Steps.{nothing}
use denote.Struct.Struct.{Shape, Struct, within}
use denote.Struct.Owning.{shape}
use denote.Struct.Lending.{lent_at}
use Rattle.std.proofs.RcSteps.{word}
use Rattle.std.specs.Box.Ownership.{box_owns}
use Rattle.backlist.specs.Cells.{Cell, same_place, IsFresh}
use Rattle.backlist.proofs.Found.{same_place_eq}
use Rattle.std.specs.Mem.{type_size}
use Rattle.std.proofs.Common.{ℕ, ◌<◌, arith, true, false}
use prog.Model.{Model}
use base.Fraction.{full_share}
use base.Logic.{SProp, never, never_e}
use base.Fml.{fat, froom}
use contract.Monad.{fact, fact_i, fact_use}
use types.Kit.{mean, prop, raw, some, by, keep, pick, Item}
use denote.Param.{param, layout}
use denote.Memory.{part_at}
use denote.RawPtr.{block_ptr, null_ptr}
use borrow.Table.OneValue.{part_out}
use Rattle.backlist.specs.Ownership.{dealloc_token, cells_own, cells_lent}
use Rattle.backlist.specs.contracts.boxes.Boxes as B-type

-- the owner's own field, which takes no bytes
abbrev pub Mark : RattleType → RattleType
Mark N = Struct (shape (B-type.the_type N))

abbrev pub mark : Val
mark = vstruct (vcons (vstruct vnil) vnil)

abbrev one_field : Shape
one_field = record { name = []; args = []; types = []; fields = RawPtr ∷ [] }

abbrev pub Word : RattleType
Word = Struct one_field

pub mark_made : (N : RattleType) {M : Type 1} {𝓤 : Ura M} (𝓛 : Logic 𝓤) → ent 𝓤 (emp 𝓤) (sem 𝓛 ((Mark N).own_val (tt, tt) (mark ∷ [])))
mark_made N 𝓛 = makes_shadow 𝓛 ((Mark N).own_val (tt, tt) (mark ∷ [])) (λ vss. (tt, ((λ uss. (tt, tt)), tt))) ((vstruct vnil ∷ [], tt), (refl, ((tt, (refl, tt)), tt)))

module _ {M : Type 1} {𝓤 : Ura M} {𝓛 : Logic 𝓤} {K : Type 0} {Γ : List (Item 𝓤)} {G : Goal 𝓤 𝓛.H} where
  pub word_had : K → (c : Ptr) (vs : List Val) → (vs ≡ word c ∷ [] → Seq K 𝓛 Γ G) → Seq K 𝓛 (‵ (Word.own_val (c, tt) vs) ∷ Γ) G
  word_had t c vs k = fpick t (λ vss. fsplit t $ feq_l t (λ ev. fsplit t $ feq_l t (λ e. drop t $ k (subst (λ (ws : List Val). vs ≡ vstruct (of_list (ws ++ [])) ∷ []) e ev))))

  pub word_made : K → (c : Ptr) → Step K 𝓛 (‵ (Word.own_val (c, tt) (word c ∷ [])) ∷ Γ) G Γ G
  word_made t c = step (λ s.
      nothing t $ feq_i t (List Val) (ptr_val c ∷ []) (ptr_val c ∷ []) refl $ fjoin t $ feq_i t (List Val) (word c ∷ []) (word c ∷ []) refl $ fjoin t $
      fpack t (Valss (RawPtr ∷ [])) (within one_field (c, tt) (word c ∷ [])) (ptr_val c ∷ [], tt) $ s)

module _ {M : Type 1} {𝓤 : Ura M} (𝓛 : Logic 𝓤) (N : RattleType) where
  abbrev pub Own : Cell N.Denot → Fml
  Own c = box_owns dealloc_token N c.at c.node

  pub cells_cut : (xs : List (Cell N.Denot)) (c : Cell N.Denot) (ys : List (Cell N.Denot)) → ent 𝓤 (sem 𝓛 (cells_own N (xs ++ c ∷ ys))) (sep 𝓤 (sem 𝓛 (Own c)) (sem 𝓛 (cells_own N (xs ++ ys))))
  cells_cut [] c ys = id⊢ 𝓤 _
  cells_cut (x ∷ xs) c ys = qed 𝓛 (‵ (cells_own N (x ∷ xs ++ c ∷ ys)) ∷ []) ∵ fsplit ! $ move ! (1 ∷ []) $
      use1 𝓛 (‵ (Own c) ⊛ ‵ (cells_own N (xs ++ ys))) (cells_cut xs c ys) $ split ! $ move ! (2 ∷ 1 ∷ []) $ fjoin ! $ move ! (1 ∷ []) $ done !

  pub cells_glue : (xs : List (Cell N.Denot)) (c : Cell N.Denot) (ys : List (Cell N.Denot)) → ent 𝓤 (sep 𝓤 (sem 𝓛 (Own c)) (sem 𝓛 (cells_own N (xs ++ ys)))) (sem 𝓛 (cells_own N (xs ++ c ∷ ys)))
  cells_glue [] c ys = id⊢ 𝓤 _
  cells_glue (x ∷ xs) c ys = qed 𝓛 (‵ (Own c) ∷ ‵ (cells_own N (x ∷ xs ++ ys)) ∷ []) ∵ move ! (1 ∷ []) $ fsplit ! $ move ! (2 ∷ 1 ∷ []) $
      use2 𝓛 (‵ (cells_own N (xs ++ c ∷ ys))) (cells_glue xs c ys) $ move ! (1 ∷ 0 ∷ []) $ fjoin ! $ done !

  pub cell_seen : (κ : Lft) (xs : List (Cell N.Denot)) (c : Cell N.Denot) (ys : List (Cell N.Denot)) → ent 𝓤 (sem 𝓛 (cells_lent N (xs ++ c ∷ ys) κ)) (sem 𝓛 (lent_at N c.at c.node κ))
  cell_seen κ [] c ys = fst∗ 𝓤 _ (sem 𝓛 (cells_lent N ys κ))
  cell_seen κ (x ∷ xs) c ys = via 𝓤 _ (snd∗ 𝓤 (sem 𝓛 (lent_at N x.at x.node κ)) _) (cell_seen κ xs c ys)

module _ {M : Type 1} {𝓤 : Ura M} {𝓛 : Logic 𝓤} {K : Type 0} {Γ : List (Item 𝓤)} {G : Goal 𝓤 𝓛.H} where
  -- a fact that two entries show is learned, and they stay
  pub knows : K → {i j : Item 𝓤} (φ : Type 0) → ent 𝓤 (sep 𝓤 (mean 𝓛 i) (mean 𝓛 j)) (fact 𝓤 φ) → (φ → Seq K 𝓛 (i ∷ j ∷ Γ) G) → Seq K 𝓛 (i ∷ j ∷ Γ) G
  knows t {i} {j} φ h k =
      let shown : Seq K 𝓛 (i ∷ j ∷ Γ) (prop (fact 𝓤 φ)) = use2 𝓛 (raw (fact 𝓤 φ)) h $ keep t (0 ∷ []) $ done t in
      record { prf = fact_use 𝓤 φ shown.prf (λ x. (k x).prf) }

module _ {M : Type 1} {𝓤 : Ura M} (𝓛 : Logic 𝓤) (𝓜 : Model 𝓤 𝓛.H) (X : RattleType) (sized : 0 < type_size (param 0 X)) where
  abbrev R : RattleType
  R = param 0 X

  room_of : (x : X.Denot) (b o : ℕ) → ent 𝓤 (sem 𝓛 (part_at R full_share x b o)) (sem 𝓛 (froom (layout X) b o))
  room_of x b o = qed 𝓛 (‵ (part_at R full_share x b o) ∷ []) ∵
      use1 𝓛 (some (λ (v : Val). ‵ (fat full_share (layout X) b o v) ⊛ ‵ (X.own_val x (v ∷ [])))) (part_out 𝓛 R refl full_share x b o) $ pick ! (λ v. split ! $ keep ! (0 ∷ []) $ by ! (𝓛.laws.at_room (layout X) b o v))

  crowd : (p : Ptr) (x y : X.Denot) → ent 𝓤 (sep 𝓤 (sem 𝓛 (box_owns dealloc_token R p x)) (sem 𝓛 (box_owns dealloc_token R p y))) (never 𝓤)
  crowd (block_ptr b o) x y = qed 𝓛 (‵ (box_owns dealloc_token R (block_ptr b o) x) ∷ ‵ (box_owns dealloc_token R (block_ptr b o) y) ∷ []) ∵
      fsplit ! $ move ! (2 ∷ []) $ fsplit ! $ keep ! (0 ∷ 2 ∷ []) $ use1 𝓛 (‵ (froom (layout X) b o)) (room_of y b o) $ move ! (1 ∷ []) $ use1 𝓛 (‵ (froom (layout X) b o)) (room_of x b o) $
      by ! (𝓜.room-room (layout X) (layout X) b o o o (omega arith, omega (arith, sized)) (omega arith, omega (arith, sized)))
  crowd null_ptr x y = qed 𝓛 (‵ (box_owns dealloc_token R null_ptr x) ∷ ‵ (box_owns dealloc_token R null_ptr y) ∷ []) ∵ fsplit ! $ keep ! (0 ∷ []) $ done !

  apart : (p : Ptr) (x : X.Denot) (c : Cell X.Denot) → ent 𝓤 (sep 𝓤 (sem 𝓛 (box_owns dealloc_token R p x)) (sem 𝓛 (box_owns dealloc_token R c.at c.node))) (fact 𝓤 (same_place c.at p ≡ false))
  apart p x c = let F : Ptr → SProp 𝓤 = λ q. sep 𝓤 (sem 𝓛 (box_owns dealloc_token R q x)) (sem 𝓛 (box_owns dealloc_token R c.at c.node)) in
      (elim (same_place c.at p) as (λ y. same_place c.at p ≡ y → ent 𝓤 (F p) (fact 𝓤 (same_place c.at p ≡ false))) [
        | true ↦ λ e. via 𝓤 (never 𝓤) (subst (λ q. ent 𝓤 (F q) (never 𝓤)) (same_place_eq c.at p e) (crowd c.at x c.node)) (never_e 𝓤 _)
        | false ↦ λ e. fact_i 𝓤 (same_place c.at p ≡ false) (F p) e
      ]) refl

  pub fresh : (p : Ptr) (x : X.Denot) (cs : List (Cell X.Denot)) → ent 𝓤 (sep 𝓤 (sem 𝓛 (box_owns dealloc_token R p x)) (sem 𝓛 (cells_own R cs))) (fact 𝓤 (IsFresh p cs))
  fresh p x [] = fact_i 𝓤 (IsFresh {N = X.Denot} p []) _ tt
  fresh p x (c ∷ cs) = qed 𝓛 (‵ (box_owns dealloc_token R p x) ∷ ‵ (cells_own R (c ∷ cs)) ∷ []) ∵ move ! (1 ∷ []) $ fsplit ! $ move ! (2 ∷ 0 ∷ []) $
      knows ! (same_place c.at p ≡ false) (apart p x c) (λ here. move ! (0 ∷ 2 ∷ []) $ knows ! (IsFresh p cs) (fresh p x cs) (λ rest.
      by ! (fact_i 𝓤 (IsFresh p (c ∷ cs)) _ (here, rest))))
