-- `get` shows the value that the cells lend.
use Rattle.std.proofs.Common.{◌≡◌, ℕ, List, [], ◌∷◌, ◌++◌, Some, refl, sym, ap, subst}
use Rattle.std.specs.Prelude.{IsSome}
use mir.Syntax.{a_type}
use mir.Val.{Val, vptr}
use mir.MapTy.{inst_fn}
use base.Logic.{SProp, ent, emp}
use base.Fml.{Lft, Fml, ftrue, fsep, flft}
use prog.Wp.{WpFn}
use types.Kit.{⋆, ‵, raw, ◌⊛◌, at_ret, ◌$◌, ◌∵◌, !, qed, by, move, keep, drop, split, join, fsplit, fjoin, rewrite, feq_i, feq_l, use0, use1, done}
use types.Part.{whole, sub}
use types.Run.{stop, fld, of_opd, addr, first, blocks, exec, returns, enter}
use types.ByLocal.{alloc_all, pass_all, free_all, look_at, get, get_in, through, sets, sets_last, is, env}
use contract.Monad.{fact, fact_i}
use contract.Running.{tables}
use denote.Exit.{yes}
use denote.RattleType.{RattleType, owns}
use denote.Memory.{hidden_shr}
use denote.Signature.{types_at, plain}
use denote.Param.{param, layouts}
use denote.RawPtr.{Ptr, null_ptr, ptr_val, in_a_block}
use denote.Builtin.{RefOf}
use denote.Opens.{hide, unhide}
use denote.Steps.{nothing, heard}
use denote.Struct.Lending.{lent_at}
use denote.Triple.Walked.{Stays, stay_dropped, walk_of, Goes-dropped}
use Rattle.std.proofs.raw_atomic.Walks.{proved_at, leaves}
use Rattle.std.proofs.VecSteps.Shapes.{after}
use Rattle.std.proofs.RcSteps.{word, word-Good}
use Rattle.backlist.proofs.Walks.{word_had, cell_seen}
use Rattle.backlist.proofs.Found.{cut, there}
use Rattle.backlist.specs.Cells.{Cell, cell, find}
use Rattle.backlist.specs.Ownership.{cells_lent}
use Rattle.backlist.specs.contracts.boxes.Pos as P-type
use Rattle.backlist.specs.contracts.boxes.Boxes as B-type
use Rattle.backlist.specs.contracts.boxes.Boxes.get.{ended, clauses}
use Rattle.backlist.specs.contracts.boxes.Boxes.get.Key.{name as #self}
use Rattle.backlist.proofs.boxes.Boxes.get.Statement.{statement}
use Rattle.backlist.proofs.boxes.Boxes.get.Code as code

pub get_spec : {M : Type 1} → statement M
get_spec 𝓤 𝓛 𝓜 𝓡 wired X L =
    let H = 𝓛.H in let 𝓣 = tables 𝓤 H 𝓜 𝓡 𝓡.env in let R : RattleType = param 0 X in let En = ended X in let inst = layouts (a_type ∷ []) (X, tt) in let fn = inst_fn inst code.function in
    let Row : RattleType = B-type.the_row R in let Ps : RattleType = P-type.the_row in let c = clauses X 𝓛 𝓜.mem 𝓡.returns in
    let self = RefOf (0 ∷ []) tt (plain (λ _. Row)) (λ _. tt) in let hs : Stays En.signature.params En.kept = (stay_dropped self yes, (stay_dropped (plain (λ _. Ps)) yes, tt)) in
    proved_at 𝓛 En hs c 𝓜 𝓡 (Goes-dropped 𝓛 2 self yes (λ κs x f. refl), (Goes-dropped 𝓛 2 (plain (λ _. Ps)) yes (λ κs x f. refl), tt)) (#self inst) fn (code.unfolded 𝓤 H 𝓜 𝓡 wired (X, tt)) (λ z are.
    let κs = z.0.0 in let qs = z.0.1 in let κ : Lft = κs.0 in let a = z.0.3 in let b : ℕ = a.0.ref_ptr.0 in let o : ℕ = a.0.ref_ptr.1 in let d : Row.Denot = a.0.now in let p : Ptr = a.1.0.at in
    let others : Fml = fsep (flft κs.1.0 qs.1.0) ftrue in let Post : Val → SProp 𝓤 = (walk_of 𝓛 En hs c).post z in let Asked : Type 0 = IsSome (find p d.cells) in
    qed 𝓛 (((‵ (flft κ qs.0) ⊛ ‵ others) ⊛ ‵ (owns (types_at En.signature.params κs) a z.0.4)) ∷ raw (fact 𝓤 _) ∷ raw (fact 𝓤 Asked) ∷ []) ∵
    keep ! (2 ∷ 0 ∷ []) $ heard ! Asked (λ asked. let n = there (find p d.cells) asked in let at = cut p n.0 d.cells n.1 in
    split ! $ split ! $ move ! (2 ∷ []) $ fsplit ! $ fsplit ! $ feq_l ! (λ e0. move ! (1 ∷ []) $ fsplit ! $ word_had ! p z.0.4.1.0 (λ e1. keep ! (1 ∷ 2 ∷ 3 ∷ []) $
    by ! (subst (λ (ws : List Val × List Val). ent 𝓤 (⋆ 𝓛 (‵ (hidden_shr Row κ d b o) ∷ ‵ (flft κ qs.0) ∷ ‵ others ∷ [])) (WpFn 𝓤 H 𝓣.C 𝓣.Λ fn (ws.0 ++ (ws.1 ++ [])) Post)) (λ j. (sym e0 j, sym e1 j))
    (qed 𝓛 (‵ (hidden_shr Row κ d b o) ∷ ‵ (flft κ qs.0) ∷ ‵ others ∷ []) ∵
    enter ! 𝓣.C 𝓣.Λ fn (vptr b o ∷ word p ∷ []) Post $ alloc_all ! (λ l. pass_all ! refl ((tt, tt), (word-Good [] p, tt)) $ let Ev = env fn.locals l in
    unhide ! $ fsplit ! $ drop ! $ rewrite ! 0 (λ (cs : List (Cell X.Denot)). ‵ (cells_lent R cs κ)) at.is refl $
    use1 𝓛 (‵ (lent_at R p n.0 κ)) (cell_seen 𝓛 R κ at.before (cell p n.0) at.after) $
    in_a_block ! p (λ r. lent_at R r n.0 κ) (qed 𝓛 (‵ (lent_at R null_ptr n.0 κ) ∷ []) ∵ fsplit ! $ keep ! (0 ∷ []) $ done !) (λ pb po e.
    first ! $ blocks ! $ sets ! (is ! (of_opd ! (get_in ! (fld ! refl (stop !)) (sub ! 0 refl (whole !)))) (ap ptr_val e)) refl (tt, tt) $
    sets_last ! (addr ! (through ! refl (stop !))) refl (tt, tt) $ exec ! 𝓣.C 𝓣.Λ Ev (after 1 fn.body) (at_ret Ev Post) $ sets ! (of_opd ! (get ! refl)) refl (tt, tt) $
    fsplit ! $ drop ! $ hide ! $ feq_i ! (List Val) (vptr pb po ∷ []) (vptr pb po ∷ []) refl $ fjoin ! $
    move ! (1 ∷ 2 ∷ []) $ join ! $
    use0 𝓛 (raw (fact 𝓤 (find p d.cells ≡ Some n.0))) (fact_i 𝓤 (find p d.cells ≡ Some n.0) (emp 𝓤) n.1) $ nothing ! $ nothing ! $ fjoin ! $ nothing ! $ fjoin ! $
    returns ! (look_at ! 0 refl) $ free_all ! refl $ keep ! (2 ∷ 0 ∷ 3 ∷ 1 ∷ []) $ by ! (leaves 𝓛 En hs c z (vptr pb po) (record { ref_ptr = (pb, po); now = n.0 }) (tt, (tt, tt)) (tt, (tt, tt)))))))))))
