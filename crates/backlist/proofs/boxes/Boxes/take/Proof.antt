-- `take` gives up what the first cell owns.
use Rattle.std.proofs.Common.{◌≡◌, ℕ, List, [], ◌∷◌, ◌++◌, refl, sym, ap, subst}
use mir.Syntax.{a_type}
use mir.Raw.{raw as bare}
use mir.Val.{Val, vptr}
use mir.MapTy.{inst_fn}
use base.Logic.{SProp, ent, emp, never, fst∗}
use base.Fml.{Lft, GName, Fml, ftrue, fsep, fobs, fbor, flft}
use prog.Wp.{WpFn}
use types.Logic.{sem}
use types.SemTy.{Body as Borrowed}
use types.Kit.{⋆, ‵, raw, ◌⊛◌, ◌$◌, ◌∵◌, !, qed, by, move, keep, split, join, fsplit, fsplit3, fjoin, fjoin3, rewrite, feq_i, feq_l, use0}
use types.Part.{agg, whole, sub}
use types.Run.{stop, fld, of_opd, no_more, and_then, returns, enter}
use types.ByLocal.{alloc_all, pass_all, free_all, look_at, get, get_in, sets, is}
use contract.Monad.{fact, fact_i}
use contract.Running.{tables}
use denote.Exit.{yes}
use denote.RattleType.{RattleType, owns}
use denote.Memory.{lone, mem}
use denote.Signature.{types_at, plain}
use denote.Param.{param, layouts}
use denote.RawPtr.{Ptr, block_ptr, null_ptr, ptr_val, in_a_block}
use denote.Steps.{nothing, heard, opens, closes}
use denote.Triple.Walked.{Stays, stay_dropped, stay_ref, walk_of, Goes-dropped, Goes-ref}
use Rattle.std.proofs.alloc.Calls.{handle_tells}
use Rattle.std.proofs.raw_atomic.Walks.{proved_at, leaves}
use Rattle.std.proofs.RcSteps.{word, word-Good}
use Rattle.std.specs.Box.Ownership.{box_owns}
use Rattle.std.specs.contracts.alloc.Global as G-type
use Rattle.std.specs.contracts.impls.GlobalAllocator.TheImpl.{ghosts}
use Rattle.std.proofs.alloc.Global.TheLaws.{the_row_laws as LG}
use Rattle.backlist.proofs.Walks.{word_had}
use Rattle.backlist.proofs.LooseValues.{both, loose_good, loose_in, al}
use Rattle.backlist.specs.Cells.{Cell, cell}
use Rattle.backlist.specs.Ownership.{dealloc_token, cells_own}
use Rattle.backlist.specs.contracts.boxes.Pos as P-type
use Rattle.backlist.specs.contracts.boxes.Boxes as B-type
use Rattle.backlist.specs.contracts.boxes.Boxes.take.{ended, clauses}
use Rattle.backlist.specs.contracts.boxes.Boxes.take.Key.{name as #self}
use Rattle.backlist.proofs.boxes.Boxes.take.Statement.{statement}
use Rattle.backlist.proofs.boxes.Boxes.take.Code as code

pub take_spec : {M : Type 1} → statement M
take_spec 𝓤 𝓛 𝓜 𝓡 wired X L =
    let H = 𝓛.H in let 𝓣 = tables 𝓤 H 𝓜 𝓡 𝓡.env in let R : RattleType = param 0 X in let En = ended X in let inst = layouts (a_type ∷ []) (X, tt) in let fn = inst_fn inst code.function in
    let Row : RattleType = B-type.the_row R in let Z : RattleType = G-type.the_row in let Ps : RattleType = P-type.the_row in let c = clauses X 𝓛 𝓜.mem 𝓡.returns in
    let self = plain (λ _. Row) in let hs : Stays En.signature.params En.kept = (stay_ref (0 ∷ []) tt self, (stay_dropped (plain (λ _. Z)) yes, (stay_dropped (plain (λ _. Ps)) yes, tt))) in
    proved_at 𝓛 En hs c 𝓜 𝓡 (Goes-ref 𝓛 2 0 tt self, (Goes-dropped 𝓛 2 (plain (λ _. Z)) yes (λ κs x f. refl), (Goes-dropped 𝓛 2 (plain (λ _. Ps)) yes (λ κs x f. refl), tt))) (#self inst) fn (code.unfolded 𝓤 H 𝓜 𝓡 wired (X, tt)) (λ z are.
    let κs = z.0.0 in let qs = z.0.1 in let κ : Lft = κs.0 in let a = z.0.3 in let rb : ℕ = a.0.ref_ptr.0 in let ro : ℕ = a.0.ref_ptr.1 in let γ : GName = a.0.ghost_name in let d : Row.Denot = a.0.now in let heap : Z.Denot = a.1.0 in let p : Ptr = a.1.1.0.at in
    let others : Fml = fsep (flft κs.1.0 qs.1.0) ftrue in let Post : Val → SProp 𝓤 = (walk_of 𝓛 En hs c).post z in let Asked : Type 0 = (n : X.Denot) × (rest : List (Cell X.Denot)) × (d.cells ≡ cell p n ∷ rest) in
    let obs = ‵ (fobs γ (Row.coded.code d)) in let bor = ‵ (fbor κ (Borrowed (mem Row) rb ro γ)) in
    qed 𝓛 (((‵ (flft κ qs.0) ⊛ ‵ others) ⊛ ‵ (owns (types_at En.signature.params κs) a z.0.4)) ∷ raw (fact 𝓤 _) ∷ raw (fact 𝓤 Asked) ∷ []) ∵
    keep ! (2 ∷ 0 ∷ []) $ heard ! Asked (λ asked. let n : X.Denot = asked.0 in let rest = asked.1 in split ! $ split ! $ move ! (2 ∷ []) $ fsplit ! $ fsplit3 ! $ feq_l ! (λ e0. move ! (2 ∷ []) $ fsplit ! $
    handle_tells (al R Z LG ghosts) ! heap z.0.4.1.0 (λ h e1 fits. move ! (1 ∷ []) $ fsplit ! $ word_had ! p z.0.4.1.1.0 (λ e2. keep ! (1 ∷ 2 ∷ 3 ∷ 4 ∷ 5 ∷ []) $
    let new : Row.Denot = record { mark = d.mark; cells = rest } in
    let Γ = ‵ (Z.own_val heap (h ∷ [])) ∷ obs ∷ bor ∷ ‵ (flft κ qs.0) ∷ ‵ others ∷ [] in
    by ! (subst (λ (ws : List Val × List Val × List Val). ent 𝓤 (⋆ 𝓛 Γ) (WpFn 𝓤 H 𝓣.C 𝓣.Λ fn (ws.0 ++ (ws.1 ++ (ws.2 ++ []))) Post)) (λ j. (sym e0 j, sym e1 j, sym e2 j)) (qed 𝓛 Γ ∵
    enter ! 𝓣.C 𝓣.Λ fn (vptr rb ro ∷ h ∷ word p ∷ []) Post $ alloc_all ! (λ l. pass_all ! refl ((tt, tt), (fits, (word-Good [] p, tt))) $
    move ! (1 ∷ 2 ∷ 3 ∷ []) $ opens ! tt Row {h = d} rb ro (λ vs. move ! (1 ∷ []) $ fsplit ! $ move ! (1 ∷ []) $ rewrite ! 0 (λ (cs : List (Cell X.Denot)). ‵ (cells_own R cs)) asked.2 refl $ fsplit ! $
    in_a_block ! p (λ r. box_owns dealloc_token R r n) (fst∗ 𝓤 (never 𝓤) (sem 𝓛 (dealloc_token (bare (lone R.mir)) null_ptr))) (λ pb po e.
    sets ! (is ! (of_opd ! (get_in ! (fld ! refl (stop !)) (sub ! 0 refl (whole !)))) (ap ptr_val e)) refl (tt, tt) $
    sets ! (agg ! (and_then ! (get ! refl) (and_then ! (get ! refl) (no_more !)))) refl (loose_good R Z LG ghosts pb po h fits) $
    move ! (0 ∷ 7 ∷ []) $ loose_in R Z LG ghosts ! pb po h heap n $ move ! (2 ∷ 1 ∷ []) $ fjoin ! $ move ! (2 ∷ 0 ∷ 3 ∷ 4 ∷ 5 ∷ []) $ closes ! tt Row new vs rb ro $
    feq_i ! (List Val) z.0.4.0 (vptr rb ro ∷ []) e0 $ fjoin3 ! $ nothing ! $ nothing ! $ fjoin ! $ nothing ! $ fjoin ! $ move ! (1 ∷ 0 ∷ []) $ fjoin ! $ move ! (1 ∷ 3 ∷ []) $ join ! $
    use0 𝓛 (raw (fact 𝓤 (d.cells ≡ cell p n ∷ rest))) (fact_i 𝓤 (d.cells ≡ cell p n ∷ rest) (emp 𝓤) asked.2) $
    returns ! (look_at ! 0 refl) $ free_all ! refl $ keep ! (1 ∷ 2 ∷ 3 ∷ 0 ∷ []) $ by ! (leaves 𝓛 En hs c z (both (vptr pb po) h) (record { at = block_ptr pb po; alloc = heap; value = n }) (new, (tt, (tt, tt))) (tt, (tt, (tt, tt))))))))))))))
