-- `put` takes in what a loose box owns.
use Rattle.std.proofs.Common.{◌≡◌, ℕ, ◌<◌, List, [], ◌∷◌, ◌++◌, refl, sym, subst}
use Rattle.std.specs.Mem.{type_size}
use mir.Syntax.{a_type}
use mir.Val.{Val, vptr}
use mir.MapTy.{inst_fn}
use base.Logic.{SProp, ent, emp}
use base.Fml.{Lft, GName, Fml, ftrue, fsep, fobs, fbor, flft}
use prog.Wp.{WpFn}
use types.SemTy.{Body as Borrowed}
use types.Kit.{⋆, ‵, raw, ◌⊛◌, ◌$◌, ◌∵◌, !, qed, by, move, keep, split, join, fsplit, fsplit3, fjoin, fjoin3, feq_i, feq_l, use0}
use types.Part.{agg, whole, sub}
use types.Run.{stop, fld, of_opd, no_more, and_then, returns, enter}
use types.ByLocal.{alloc_all, pass_all, free_all, look_at, get, get_in, sets}
use contract.Monad.{fact, fact_i}
use contract.Running.{tables}
use denote.Exit.{no}
use denote.RattleType.{RattleType, owns}
use denote.Memory.{mem}
use denote.Signature.{types_at, plain}
use denote.Param.{param, layouts}
use denote.RawPtr.{Ptr, block_ptr}
use denote.Steps.{nothing, heard, opens, closes}
use denote.Triple.Walked.{Stays, stay_dropped, stay_ref, walk_of, Goes-ref}
use Rattle.std.proofs.alloc.Calls.{Goes-blank}
use Rattle.std.proofs.raw_atomic.Walks.{proved_at, leaves}
use Rattle.std.proofs.RcSteps.{word}
use Rattle.std.specs.Box.Ownership.{box_owns}
use Rattle.backlist.specs.Ownership.{dealloc_token}
use Rattle.std.specs.contracts.alloc.Global as G-type
use Rattle.std.specs.contracts.impls.GlobalAllocator.TheImpl.{ghosts}
use Rattle.std.proofs.alloc.Global.TheLaws.{the_row_laws as LG}
use Rattle.backlist.proofs.Walks.{word_made, knows, fresh}
use Rattle.backlist.proofs.LooseValues.{both, Loose, loose_good, loose_out}
use Rattle.backlist.specs.Cells.{cell, IsFresh}
use Rattle.backlist.specs.contracts.boxes.Boxes as B-type
use Rattle.backlist.specs.contracts.boxes.Boxes.put.{ended, clauses}
use Rattle.backlist.specs.contracts.boxes.Boxes.put.Key.{name as #self}
use Rattle.backlist.proofs.boxes.Boxes.put.Statement.{statement}
use Rattle.backlist.proofs.boxes.Boxes.put.Code as code

pub put_spec : {M : Type 1} → statement M
put_spec 𝓤 𝓛 𝓜 𝓡 wired X L =
    let H = 𝓛.H in let 𝓣 = tables 𝓤 H 𝓜 𝓡 𝓡.env in let R : RattleType = param 0 X in let En = ended X in let inst = layouts (a_type ∷ []) (X, tt) in let fn = inst_fn inst code.function in
    let Row : RattleType = B-type.the_row R in let Z : RattleType = G-type.the_row in let Lo : RattleType = Loose R Z LG ghosts in let c = clauses X 𝓛 𝓜.mem 𝓡.returns in
    let self = plain (λ _. Row) in let hs : Stays En.signature.params En.kept = (stay_ref (0 ∷ []) tt self, (stay_dropped (plain (λ _. Lo)) no, tt)) in
    proved_at 𝓛 En hs c 𝓜 𝓡 (Goes-ref 𝓛 2 0 tt self, (Goes-blank 𝓛 2 (plain (λ _. Lo)) no (λ κs x f. tt), tt)) (#self inst) fn (code.unfolded 𝓤 H 𝓜 𝓡 wired (X, tt)) (λ z are.
    let κs = z.0.0 in let qs = z.0.1 in let κ : Lft = κs.0 in let a = z.0.3 in let rb : ℕ = a.0.ref_ptr.0 in let ro : ℕ = a.0.ref_ptr.1 in let γ : GName = a.0.ghost_name in let d : Row.Denot = a.0.now in let e : Lo.Denot = a.1.0 in
    let others : Fml = fsep (flft κs.1.0 qs.1.0) ftrue in let Post : Val → SProp 𝓤 = (walk_of 𝓛 En hs c).post z in let Asked : Type 0 = 0 < type_size R in
    let obs = ‵ (fobs γ (Row.coded.code d)) in let bor = ‵ (fbor κ (Borrowed (mem Row) rb ro γ)) in
    qed 𝓛 (((‵ (flft κ qs.0) ⊛ ‵ others) ⊛ ‵ (owns (types_at En.signature.params κs) a z.0.4)) ∷ raw (fact 𝓤 _) ∷ raw (fact 𝓤 Asked) ∷ []) ∵
    keep ! (2 ∷ 0 ∷ []) $ heard ! Asked (λ sized. split ! $ split ! $ move ! (2 ∷ []) $ fsplit ! $ fsplit3 ! $ feq_l ! (λ e0. move ! (2 ∷ []) $ fsplit ! $
    loose_out R Z LG ghosts ! e z.0.4.1.0 (λ lb lo h is e1 fits. keep ! (0 ∷ 3 ∷ 4 ∷ 5 ∷ 6 ∷ []) $
    let p : Ptr = block_ptr lb lo in let x : X.Denot = e.value in let new : Row.Denot = record { mark = d.mark; cells = cell p x ∷ d.cells } in
    let Γ = ‵ (box_owns dealloc_token R p x) ∷ obs ∷ bor ∷ ‵ (flft κ qs.0) ∷ ‵ others ∷ [] in
    by ! (subst (λ (ws : List Val × List Val). ent 𝓤 (⋆ 𝓛 Γ) (WpFn 𝓤 H 𝓣.C 𝓣.Λ fn (ws.0 ++ (ws.1 ++ [])) Post)) (λ j. (sym e0 j, sym e1 j)) (qed 𝓛 Γ ∵
    enter ! 𝓣.C 𝓣.Λ fn (vptr rb ro ∷ both (vptr lb lo) h ∷ []) Post $ alloc_all ! (λ l. pass_all ! refl ((tt, tt), (loose_good R Z LG ghosts lb lo h fits, tt)) $
    sets ! (of_opd ! (get_in ! (fld ! refl (stop !)) (sub ! 0 refl (whole !)))) refl (tt, tt) $ sets ! (of_opd ! (get ! refl)) refl (tt, tt) $
    sets ! (agg ! (and_then ! (get ! refl) (no_more !))) refl (tt, (tt, tt)) $
    move ! (1 ∷ 2 ∷ 3 ∷ []) $ opens ! tt Row {h = d} rb ro (λ vs. move ! (1 ∷ []) $ fsplit ! $ move ! (1 ∷ []) $ move ! (6 ∷ 0 ∷ []) $
    knows ! (IsFresh p d.cells) (fresh 𝓛 𝓜 X sized p x d.cells) (λ free. fjoin ! $ move ! (1 ∷ 0 ∷ []) $ fjoin ! $ move ! (1 ∷ 0 ∷ []) $ closes ! tt Row new vs rb ro $
    feq_i ! (List Val) z.0.4.0 (vptr rb ro ∷ []) e0 $ fjoin3 ! $ nothing ! $ nothing ! $ fjoin ! $ move ! (1 ∷ 0 ∷ []) $ fjoin ! $ move ! (1 ∷ 2 ∷ []) $ join ! $
    word_made ! p $ use0 𝓛 (raw (fact 𝓤 (IsFresh p d.cells))) (fact_i 𝓤 (IsFresh p d.cells) (emp 𝓤) free) $ use0 𝓛 (raw (fact 𝓤 (new.cells ≡ new.cells))) (fact_i 𝓤 (new.cells ≡ new.cells) (emp 𝓤) refl) $ join ! $
    returns ! (look_at ! 0 refl) $ free_all ! refl $ keep ! (2 ∷ 3 ∷ 1 ∷ 0 ∷ []) $ by ! (leaves 𝓛 En hs c z (word p) (record { at = p }) (new, (tt, tt)) (tt, (tt, tt))))))))))))
