-- `get_mut` lends one value, and the boxes follow it.
use Rattle.std.proofs.Common.{◌≡◌, ℕ, List, [], ◌∷◌, ◌++◌, Some, refl, sym, ap, subst}
use Rattle.std.specs.Prelude.{IsSome}
use mir.Syntax.{a_type, named}
use mir.Raw.{raw as bare}
use mir.Val.{Val, vptr}
use mir.MapTy.{inst_fn}
use base.Fraction.{full_share}
use base.Logic.{SProp, ent, sep, emp, id⊢, never, fst∗}
use base.Fml.{Lft, GName, Fml, ftrue, fsep, fobs, fbor, flft}
use prog.Wp.{WpFn}
use types.Logic.{Logic, sem}
use types.SemTy.{Body as Borrowed}
use types.Kit.{⋆, ‵, raw, ◌⊛◌, some, later, await, pick, group, at_ret, ◌$◌, ◌∵◌, !, qed, by, move, keep, split, split3, join, fsplit, fsplit3, fjoin, fjoin3, fpack, rewrite, feq_l, use0, use1, use2, done}
use types.Part.{whole, sub}
use types.Run.{stop, fld, of_opd, addr, first, blocks, exec, returns, enter}
use types.ByLocal.{alloc_all, pass_all, free_all, look_at, get, get_in, through, sets, sets_last, is, env}
use contract.Monad.{fact, fact_i}
use contract.Running.{tables}
use denote.Exit.{yes, no}
use denote.RattleType.{RattleType, owns}
use denote.Memory.{lone, mem, cell_at, part_at, part_of}
use denote.Signature.{types_at, plain, mut_ref_to}
use denote.Param.{param, layouts}
use denote.RawPtr.{Ptr, block_ptr, null_ptr, ptr_val, in_a_block}
use denote.Ref.{MutRef, MutBor}
use denote.Follow.{follows, Part, lends_Part}
use denote.Steps.{nothing, heard, opens}
use denote.Triple.Walked.{Stays, stay_dropped, walk_of, Goes-dropped, Goes-spent_ref}
use Rattle.std.proofs.raw_atomic.Walks.{proved_at, leaves}
use Rattle.std.proofs.VecSteps.Shapes.{after}
use Rattle.std.proofs.RcSteps.{word, word-Good}
use Rattle.std.specs.Box.Ownership.{box_owns}
use Rattle.backlist.proofs.Walks.{Mark, word_had, cells_cut, cells_glue, Own}
use Rattle.backlist.proofs.Found.{Cut, cut, there}
use Rattle.backlist.specs.Cells.{Cell, cell, find, update}
use Rattle.backlist.specs.Ownership.{dealloc_token, cells_own}
use Rattle.backlist.specs.contracts.boxes.Pos as P-type
use Rattle.backlist.specs.contracts.boxes.Boxes as B-type
use Rattle.backlist.specs.contracts.boxes.Boxes.get_mut.{ended, clauses}
use Rattle.backlist.specs.contracts.boxes.Boxes.get_mut.Key.{name as #self}
use Rattle.backlist.proofs.boxes.Boxes.get_mut.Statement.{statement}
use Rattle.backlist.proofs.boxes.Boxes.get_mut.Code as code

module _ (X : RattleType) {M : Type 1} {𝓤 : seplogic.Ra.Ura.Ura M} (𝓛 : Logic 𝓤) (rb ro : ℕ) (p : Ptr) where
  abbrev R : RattleType
  R = param 0 X

  abbrev Row : RattleType
  Row = B-type.the_row R

  abbrev Rest : (xs ys : List (Cell X.Denot)) (vs : List Val) (b o : ℕ) → Fml
  Rest xs ys vs b o = fsep (dealloc_token (bare (lone R.mir)) (block_ptr b o)) (fsep (cells_own R (xs ++ ys)) (fsep ((Mark R).own_val (tt, tt) vs) (cell_at full_share Row.mir vs rb ro)))

  abbrev new : Row.Denot → X.Denot → Row.Denot
  new d w = record { mark = d.mark; cells = update p (λ _. w) d.cells }

  back : (d : Row.Denot) (n : X.Denot) (at : Cut p n d.cells) (vs : List Val) (b o : ℕ) → p ≡ block_ptr b o
      → (w : X.Denot) → ent 𝓤 (sep 𝓤 (sem 𝓛 ((mem R).own_at w b o)) (sem 𝓛 (Rest at.before at.after vs b o))) (sem 𝓛 ((mem Row).own_at (new d w) rb ro))
  unfolding part_of
  back d n at vs b o e w =
      qed 𝓛 (‵ (part_at R full_share w b o) ∷ ‵ (Rest at.before at.after vs b o) ∷ []) ∵ move ! (1 ∷ []) $ fsplit3 ! $ move ! (2 ∷ []) $ fsplit ! $ move ! (4 ∷ 2 ∷ []) $ fjoin ! $
      rewrite ! 0 (λ (q : Ptr). ‵ (box_owns dealloc_token R q w)) (sym e) refl $ move ! (0 ∷ 3 ∷ []) $
      use2 𝓛 (‵ (cells_own R (at.before ++ cell p w ∷ at.after))) (cells_glue 𝓛 R at.before (cell p w) at.after) $ rewrite ! 0 (λ (cs : List (Cell X.Denot)). ‵ (cells_own R cs)) (sym (at.updated (λ _. w))) refl $
      move ! (1 ∷ 0 ∷ []) $ fjoin ! $ move ! (1 ∷ 0 ∷ []) $ fjoin ! $
      fpack ! (List Val) (λ us. fsep (cell_at full_share Row.mir us rb ro) (Row.own_val (new d w) us)) vs $ done !

pub get_mut_spec : {M : Type 1} → statement M
get_mut_spec 𝓤 𝓛 𝓜 𝓡 wired X L =
    let H = 𝓛.H in let 𝓣 = tables 𝓤 H 𝓜 𝓡 𝓡.env in let En = ended X in let inst = layouts (a_type ∷ []) (X, tt) in let fn = inst_fn inst code.function in
    let Rx : RattleType = param 0 X in let Rw : RattleType = B-type.the_row Rx in let Ps : RattleType = P-type.the_row in let c = clauses X 𝓛 𝓜.mem 𝓡.returns in
    let self = plain (λ _. Rw) in let hs : Stays En.signature.params En.kept = (stay_dropped (mut_ref_to (0 ∷ []) tt self) no, (stay_dropped (plain (λ _. Ps)) yes, tt)) in
    proved_at 𝓛 En hs c 𝓜 𝓡 (Goes-spent_ref 𝓛 2 (0 ∷ []) tt self, (Goes-dropped 𝓛 2 (plain (λ _. Ps)) yes (λ κs x f. refl), tt)) (#self inst) fn (code.unfolded 𝓤 H 𝓜 𝓡 wired (X, tt)) (λ z are.
    let κs = z.0.0 in let qs = z.0.1 in let κ : Lft = κs.0 in let q = qs.0 in let a = z.0.3 in let rb : ℕ = a.0.ref_ptr.0 in let ro : ℕ = a.0.ref_ptr.1 in let γ : GName = a.0.ghost_name in let d : Rw.Denot = a.0.now in let p : Ptr = a.1.0.at in
    let others : Fml = fsep (flft κs.1.0 qs.1.0) ftrue in let Post : Val → SProp 𝓤 = (walk_of 𝓛 En hs c).post z in let Asked : Type 0 = IsSome (find p d.cells) in let code' = Rw.coded.code d in
    let obs = ‵ (fobs γ code') in let bor = ‵ (fbor κ (Borrowed (mem Rw) rb ro γ)) in
    qed 𝓛 (((‵ (flft κ qs.0) ⊛ ‵ others) ⊛ ‵ (owns (types_at En.signature.params κs) a z.0.4)) ∷ raw (fact 𝓤 _) ∷ raw (fact 𝓤 Asked) ∷ []) ∵
    keep ! (2 ∷ 0 ∷ []) $ heard ! Asked (λ asked. let n = there (find p d.cells) asked in let at = cut p n.0 d.cells n.1 in let f = new X 𝓛 rb ro p d in
    split ! $ split ! $ move ! (2 ∷ []) $ fsplit ! $ fsplit3 ! $ feq_l ! (λ e0. move ! (2 ∷ []) $ fsplit ! $ word_had ! p z.0.4.1.0 (λ e1. keep ! (1 ∷ 2 ∷ 3 ∷ 4 ∷ []) $
    let Γ = obs ∷ bor ∷ ‵ (flft κ qs.0) ∷ ‵ others ∷ [] in
    by ! (subst (λ (ws : List Val × List Val). ent 𝓤 (⋆ 𝓛 Γ) (WpFn 𝓤 H 𝓣.C 𝓣.Λ fn (ws.0 ++ (ws.1 ++ [])) Post)) (λ j. (sym e0 j, sym e1 j)) (qed 𝓛 Γ ∵
    enter ! 𝓣.C 𝓣.Λ fn (vptr rb ro ∷ word p ∷ []) Post $ alloc_all ! (λ l. pass_all ! refl ((tt, tt), (word-Good [] p, tt)) $ let Ev = env fn.locals l in
    opens ! tt Rw {h = d} rb ro (λ vs. move ! (1 ∷ []) $ fsplit ! $ move ! (1 ∷ []) $ rewrite ! 0 (λ (cs : List (Cell X.Denot)). ‵ (cells_own Rx cs)) at.is refl $
    use1 𝓛 (‵ (Own 𝓛 Rx (cell p n.0)) ⊛ ‵ (cells_own Rx (at.before ++ at.after))) (cells_cut 𝓛 Rx at.before (cell p n.0) at.after) $ split ! $
    in_a_block ! p (λ r. box_owns dealloc_token Rx r n.0) (fst∗ 𝓤 (never 𝓤) (sem 𝓛 (dealloc_token (bare (lone Rx.mir)) null_ptr))) (λ pb po e. fsplit ! $
    let way = back X 𝓛 rb ro p d n.0 at vs pb po e in let kept = sem 𝓛 (Rest X 𝓛 rb ro p at.before at.after vs pb po) in
    first ! $ blocks ! $ sets ! (is ! (of_opd ! (get_in ! (fld ! refl (stop !)) (sub ! 0 refl (whole !)))) (ap ptr_val e)) refl (tt, tt) $
    sets_last ! (addr ! (through ! refl (stop !))) refl (tt, tt) $ exec ! 𝓣.C 𝓣.Λ Ev (after 1 fn.body) (at_ret Ev Post) $ sets ! (of_opd ! (get ! refl)) refl (tt, tt) $
    move ! (3 ∷ 4 ∷ []) $ fjoin ! $ move ! (2 ∷ 3 ∷ 0 ∷ []) $ fjoin3 ! $ move ! (2 ∷ 3 ∷ 4 ∷ 1 ∷ 0 ∷ []) $ group ! 5 $
    use1 𝓛 (later (some (λ (δ : GName). raw (Part 𝓛 Rw Rx f (named 0) κ q rb ro pb po γ kept way n.0 δ))))
    (lends_Part 𝓛 Rw Rx f (named 0) κ q rb ro pb po γ kept way code' code' n.0) $ await ! tt $ pick ! (λ δ. let r : MutBor X.Denot = record { ref_ptr = (pb, po); ghost_name = δ; now = n.0 } in
    use1 𝓛 (‵ ((MutRef (named 0) κ Rx).own_val r (vptr pb po ∷ [])) ⊛ ‵ (flft κ q) ⊛ ‵ (follows Rw Rx γ δ f)) (id⊢ 𝓤 _) $ split3 ! $ move ! (1 ∷ 3 ∷ []) $ join ! $
    move ! (2 ∷ []) $ use0 𝓛 (raw (fact 𝓤 (find p d.cells ≡ Some n.0))) (fact_i 𝓤 (find p d.cells ≡ Some n.0) (emp 𝓤) n.1) $ move ! (1 ∷ 0 ∷ []) $ join ! $
    nothing ! $ nothing ! $ fjoin ! $ nothing ! $ fjoin ! $
    returns ! (look_at ! 0 refl) $ free_all ! refl $ keep ! (2 ∷ 0 ∷ 3 ∷ 1 ∷ []) $ by ! (leaves 𝓛 En hs c z (vptr pb po) r (tt, (tt, tt)) (tt, (tt, tt)))))))))))))
