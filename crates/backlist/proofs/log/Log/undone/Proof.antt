-- `undone` takes the last change off the log.
use Rattle.std.proofs.Common.{◌≡◌, ℕ, List, [], ◌∷◌, ◌++◌, refl, sym, subst}
use mir.Syntax.{a_type}
use mir.Val.{Val, vptr}
use mir.MapTy.{inst_fn}
use base.Logic.{SProp, ent, emp}
use base.Fml.{Lft, GName, Fml, ftrue, fsep, fobs, fbor, flft}
use prog.Wp.{WpFn}
use types.SemTy.{Body as Borrowed}
use types.Kit.{⋆, ‵, raw, ◌⊛◌, ◌$◌, ◌∵◌, !, qed, by, move, keep, split, join, fsplit, fsplit3, fjoin, fjoin3, feq_i, feq_l, use0}
use types.Run.{of_opd, returns, enter}
use types.ByLocal.{alloc_all, pass_all, free_all, look_at, sets}
use contract.Monad.{fact, fact_i}
use contract.Running.{tables}
use denote.RattleType.{RattleType, owns}
use denote.Memory.{mem}
use denote.Signature.{types_at, plain}
use denote.Param.{param, layouts}
use denote.Steps.{nothing, heard, opens, closes}
use denote.Triple.Walked.{Stays, stay_ref, walk_of, Goes-ref}
use Rattle.std.proofs.raw_atomic.Walks.{proved_at, leaves}
use Rattle.backlist.specs.contracts.boxes.Pos as P-type
use Rattle.backlist.specs.contracts.log.Log as L-type
use Rattle.backlist.specs.History.{Change}
use mir.Val.{vunit}
use types.Run.{unit_lit}
use Rattle.backlist.specs.contracts.log.Log.undone.{ended, clauses}
use Rattle.backlist.specs.contracts.log.Log.undone.Key.{name as #self}
use Rattle.backlist.proofs.log.Log.undone.Statement.{statement}
use Rattle.backlist.proofs.log.Log.undone.Code as code

pub undone_spec : {M : Type 1} → statement M
undone_spec 𝓤 𝓛 𝓜 𝓡 wired X L =
    let H = 𝓛.H in let 𝓣 = tables 𝓤 H 𝓜 𝓡 𝓡.env in let R : RattleType = param 0 X in let En = ended X in let inst = layouts (a_type ∷ []) (X, tt) in let fn = inst_fn inst code.function in
    let Row : RattleType = L-type.the_row R in let Ps : RattleType = P-type.the_row in let c = clauses X 𝓛 𝓜.mem 𝓡.returns in
    let self = plain (λ _. Row) in let hs : Stays En.signature.params En.kept = (stay_ref (0 ∷ []) tt self, tt) in
    proved_at 𝓛 En hs c 𝓜 𝓡 (Goes-ref 𝓛 2 0 tt self, tt) (#self inst) fn (code.unfolded 𝓤 H 𝓜 𝓡 wired (X, tt)) (λ z are.
    let κs = z.0.0 in let qs = z.0.1 in let κ : Lft = κs.0 in let a = z.0.3 in let rb : ℕ = a.0.ref_ptr.0 in let ro : ℕ = a.0.ref_ptr.1 in let γ : GName = a.0.ghost_name in let d : Row.Denot = a.0.now in
    let others : Fml = fsep (flft κs.1.0 qs.1.0) ftrue in let Post : Val → SProp 𝓤 = (walk_of 𝓛 En hs c).post z in
    let obs = ‵ (fobs γ (Row.coded.code d)) in let bor = ‵ (fbor κ (Borrowed (mem Row) rb ro γ)) in let Γ = obs ∷ bor ∷ ‵ (flft κ qs.0) ∷ ‵ others ∷ [] in
    let Asked : Type 0 = (x : Change X.Denot) × (cs : List (Change X.Denot)) × (d.changes ≡ x ∷ cs) in
    qed 𝓛 (((‵ (flft κ qs.0) ⊛ ‵ others) ⊛ ‵ (owns (types_at En.signature.params κs) a z.0.4)) ∷ raw (fact 𝓤 _) ∷ raw (fact 𝓤 Asked) ∷ []) ∵ keep ! (2 ∷ 0 ∷ []) $ heard ! Asked (λ asked.
    let new : Row.Denot = record { mark = d.mark; changes = asked.1 } in let Told : Type 0 = (x : Change X.Denot) × (d.changes ≡ x ∷ asked.1) in let told : Told = (asked.0, asked.2) in
    split ! $ split ! $ move ! (2 ∷ []) $ fsplit ! $ fsplit3 ! $ feq_l ! (λ e0. keep ! (0 ∷ 1 ∷ 3 ∷ 4 ∷ []) $
    by ! (subst (λ (ws : List Val). ent 𝓤 (⋆ 𝓛 Γ) (WpFn 𝓤 H 𝓣.C 𝓣.Λ fn (ws ++ []) Post)) (sym e0) (qed 𝓛 Γ ∵
    enter ! 𝓣.C 𝓣.Λ fn (vptr rb ro ∷ []) Post $ alloc_all ! (λ l. pass_all ! refl ((tt, tt), tt) $
    opens ! tt Row {h = d} rb ro (λ vs. move ! (1 ∷ []) $ fsplit ! $ fjoin ! $ move ! (1 ∷ 0 ∷ []) $ closes ! tt Row new vs rb ro $
    feq_i ! (List Val) z.0.4.0 (vptr rb ro ∷ []) e0 $ fjoin3 ! $ nothing ! $ move ! (1 ∷ 0 ∷ []) $ fjoin ! $ move ! (1 ∷ 2 ∷ []) $ join ! $
    sets ! (of_opd ! (unit_lit !)) refl (tt, tt) $ use0 𝓛 (raw (fact 𝓤 Told)) (fact_i 𝓤 Told (emp 𝓤) told) $ feq_i ! (List Val) (vunit ∷ []) (vunit ∷ []) refl $
    returns ! (look_at ! 0 refl) $ free_all ! refl $ keep ! (2 ∷ 3 ∷ 0 ∷ 1 ∷ []) $ by ! (leaves 𝓛 En hs c z vunit tt (new, tt) (tt, tt)))))))))
