-- `pushed` puts a change on the log.
use Rattle.std.proofs.Common.{◌≡◌, ℕ, List, [], ◌∷◌, ◌++◌, refl, sym, subst}
use mir.Syntax.{a_type}
use mir.Val.{Val, vptr}
use mir.MapTy.{inst_fn}
use base.Logic.{SProp, ent, emp}
use base.Fml.{Lft, GName, Fml, ftrue, fsep, fobs, fbor, flft}
use prog.Wp.{WpFn}
use types.SemTy.{Body as Borrowed}
use types.Kit.{⋆, ‵, raw, ◌⊛◌, ◌$◌, ◌∵◌, !, qed, by, move, keep, split, join, fsplit, fsplit3, fjoin, fjoin3, feq_i, feq_l, use0}
use types.Run.{of_opd, returns, enter}
use types.ByLocal.{alloc_all, pass_all, free_all, look_at, sets}
use contract.Monad.{fact, fact_i}
use contract.Running.{tables}
use denote.Exit.{yes}
use denote.RattleType.{RattleType, owns}
use denote.Memory.{mem}
use denote.Signature.{types_at, plain}
use denote.Param.{param, layouts}
use denote.RawPtr.{Ptr}
use denote.Steps.{nothing, opens, closes}
use denote.Triple.Walked.{Stays, stay_dropped, stay_ref, walk_of, Goes-dropped, Goes-ref}
use Rattle.std.proofs.raw_atomic.Walks.{proved_at, leaves}
use Rattle.std.proofs.RcSteps.{word, word-Good}
use Rattle.backlist.proofs.Walks.{word_had}
use Rattle.backlist.specs.contracts.boxes.Pos as P-type
use Rattle.backlist.specs.contracts.log.Log as L-type
use Rattle.backlist.specs.History.{push_of}
use mir.Val.{vunit}
use types.Run.{unit_lit}
use denote.Builtin.{RefOf}
use Rattle.backlist.specs.contracts.log.Log.pushed.{ended, clauses}
use Rattle.backlist.specs.contracts.log.Log.pushed.Key.{name as #self}
use Rattle.backlist.proofs.log.Log.pushed.Statement.{statement}
use Rattle.backlist.proofs.log.Log.pushed.Code as code

pub pushed_spec : {M : Type 1} → statement M
pushed_spec 𝓤 𝓛 𝓜 𝓡 wired X L =
    let H = 𝓛.H in let 𝓣 = tables 𝓤 H 𝓜 𝓡 𝓡.env in let R : RattleType = param 0 X in let En = ended X in let inst = layouts (a_type ∷ []) (X, tt) in let fn = inst_fn inst code.function in
    let Row : RattleType = L-type.the_row R in let Ps : RattleType = P-type.the_row in let c = clauses X 𝓛 𝓜.mem 𝓡.returns in
    let self = plain (λ _. Row) in let ref = RefOf (1 ∷ []) tt (plain (λ _. R)) (λ _. tt) in let hs : Stays En.signature.params En.kept = (stay_ref (0 ∷ []) tt self, (stay_dropped (plain (λ _. Ps)) yes, (stay_dropped ref yes, tt))) in
    proved_at 𝓛 En hs c 𝓜 𝓡 (Goes-ref 𝓛 3 0 tt self, (Goes-dropped 𝓛 3 (plain (λ _. Ps)) yes (λ κs x f. refl), (Goes-dropped 𝓛 3 ref yes (λ κs x f. refl), tt))) (#self inst) fn (code.unfolded 𝓤 H 𝓜 𝓡 wired (X, tt)) (λ z are.
    let κs = z.0.0 in let qs = z.0.1 in let κ : Lft = κs.0 in let a = z.0.3 in let rb : ℕ = a.0.ref_ptr.0 in let ro : ℕ = a.0.ref_ptr.1 in let γ : GName = a.0.ghost_name in let d : Row.Denot = a.0.now in
    let others : Fml = fsep (flft κs.1.0 qs.1.0) (fsep (flft κs.1.1.0 qs.1.1.0) ftrue) in let Post : Val → SProp 𝓤 = (walk_of 𝓛 En hs c).post z in
    let obs = ‵ (fobs γ (Row.coded.code d)) in let bor = ‵ (fbor κ (Borrowed (mem Row) rb ro γ)) in let Γ = obs ∷ bor ∷ ‵ (flft κ qs.0) ∷ ‵ others ∷ [] in
    let p : Ptr = a.1.0.at in let x : X.Denot = a.1.1.0.now in let new : Row.Denot = record { mark = d.mark; changes = push_of a.1.0 x ∷ d.changes } in let Told : Type 0 = new.changes ≡ push_of a.1.0 x ∷ d.changes in let told : Told = refl in
    qed 𝓛 (((‵ (flft κ qs.0) ⊛ ‵ others) ⊛ ‵ (owns (types_at En.signature.params κs) a z.0.4)) ∷ raw ((c κs a).requires z.1) ∷ []) ∵
    split ! $ split ! $ move ! (2 ∷ []) $ fsplit ! $ fsplit3 ! $ feq_l ! (λ e0. move ! (2 ∷ []) $ fsplit ! $ word_had ! p z.0.4.1.0 (λ e1. fsplit ! $ fsplit ! $ feq_l ! (λ e2. keep ! (2 ∷ 3 ∷ 4 ∷ 5 ∷ []) $
    by ! (subst (λ (ws : List Val × List Val × List Val). ent 𝓤 (⋆ 𝓛 Γ) (WpFn 𝓤 H 𝓣.C 𝓣.Λ fn (ws.0 ++ (ws.1 ++ (ws.2 ++ []))) Post)) (λ j. (sym e0 j, sym e1 j, sym e2 j)) (qed 𝓛 Γ ∵
    enter ! 𝓣.C 𝓣.Λ fn (vptr rb ro ∷ word p ∷ vptr a.1.1.0.ref_ptr.0 a.1.1.0.ref_ptr.1 ∷ []) Post $ alloc_all ! (λ l. pass_all ! refl ((tt, tt), (word-Good [] p, ((tt, tt), tt))) $
    opens ! tt Row {h = d} rb ro (λ vs. move ! (1 ∷ []) $ fsplit ! $ fjoin ! $ move ! (1 ∷ 0 ∷ []) $ closes ! tt Row new vs rb ro $
    feq_i ! (List Val) z.0.4.0 (vptr rb ro ∷ []) e0 $ fjoin3 ! $ nothing ! $ nothing ! $ fjoin ! $ nothing ! $ fjoin ! $ move ! (1 ∷ 0 ∷ []) $ fjoin ! $ move ! (1 ∷ 2 ∷ []) $ join ! $
    sets ! (of_opd ! (unit_lit !)) refl (tt, tt) $ use0 𝓛 (raw (fact 𝓤 Told)) (fact_i 𝓤 Told (emp 𝓤) told) $ feq_i ! (List Val) (vunit ∷ []) (vunit ∷ []) refl $
    returns ! (look_at ! 0 refl) $ free_all ! refl $ keep ! (2 ∷ 3 ∷ 0 ∷ 1 ∷ []) $ by ! (leaves 𝓛 En hs c z vunit tt (new, (tt, (tt, tt))) (tt, (tt, (tt, tt))))))))))))
