use Rattle.std.proofs.Common.{rules, refl, to_z-of_z}
use mir.Syntax.{w128}
use mir.Val.{SFits}
use Rattle.base_budget.proofs.Charging.{work_ok, work_err, work_just}
use Rattle.elim_rules.proofs.Named.{memory_only}
use Rattle.elim_rules.proofs.Merging.{combining_at, without_at, combined-free}
use Rattle.elim_rules.proofs.Shifting.{bound_computed, opposite_at, bound_made}
use Rattle.elim_rules.proofs.shift.shifted_bound.Goals as goal

pub returns-in_err-computing-clause-work : goal.returns-in_err-computing-clause-work
returns-in_err-computing-clause-work c =
    let a : SFits w128 c.coef-a.result = search rules in
    let d : SFits w128 c.divisor-d.result = search rules in
    let p : SFits w128 c.args.z.now.p = search rules in
    work_err _ _ c.from_residual.result c.from_residual.ensures.1
    (bound_computed c.coef-a.result c.divisor-d.result c.args.z.now.p _ _ c.times.result c.times-2.result _ (simp to_z-of_z at c.times.ensures) (simp to_z-of_z at c.times-2.ensures) c.coef-a.ensures.exact
    c.divisor-d.ensures c.in_err-computing.ensures.work)

pub returns-in_err-v-clause-work : goal.returns-in_err-v-clause-work
returns-in_err-v-clause-work c =
    let a : SFits w128 c.coef-a.result = search rules in
    let d : SFits w128 c.divisor-d.result = search rules in
    let g : SFits w128 c.args.z.now.g = search rules in
    let p : SFits w128 c.args.z.now.p = search rules in
    let n : SFits w128 c.multiplied.result = search rules in
    let o : SFits w128 c.opposite.result = search rules in
    work_ok _ _
    (bound_computed c.coef-a.result c.divisor-d.result c.args.z.now.p _ _ c.times.result c.times-2.result _ (simp to_z-of_z at c.times.ensures) (simp to_z-of_z at c.times-2.ensures) c.coef-a.ensures.exact
    c.divisor-d.ensures c.in_ok-computing.ensures.work)
    (work_err _ _ c.from_residual-in_err-v.result c.from_residual-in_err-v.ensures.1
    (combining_at c.args.z.now.g c.opposite.result _ _ c.in_ok-s.s c.in_ok-t.t _ _ _ refl c.in_ok-s.ensures
    (opposite_at c.opposite.result c.multiplied.result c.coef-a.result c.args.z.now.p _ (simp to_z-of_z at c.opposite.ensures.exact) (simp to_z-of_z at c.multiplied.ensures.exact) c.coef-a.ensures.exact)
    (without_at c.args.x c.args.l.now c.term.result.now c.in_ok-t.t c.in_ok-t.ensures c.term.ensures) (simp to_z-of_z at c.in_err-v.ensures)))

pub with_name-requires-clause-without : goal.with_name-requires-clause-without
with_name-requires-clause-without c = combined-free c.args.x _ _ c.in_ok-s.s c.in_ok-t.t c.args.r.now c.term.result.now c.in_ok-v.v c.in_ok-s.ensures c.in_ok-t.ensures c.in_ok-v.ensures

pub returns-in_err-u-clause-work : goal.returns-in_err-u-clause-work
returns-in_err-u-clause-work c = memory_only c.in_err-u.field-0.0 c.from_residual-in_err-u.result c.in_err-u.ensures.memory c.from_residual-in_err-u.ensures.1

pub returns-clause-work : goal.returns-clause-work
returns-clause-work c =
    let a : SFits w128 c.coef-a.result = search rules in
    let d : SFits w128 c.divisor-d.result = search rules in
    let g : SFits w128 c.args.z.now.g = search rules in
    let p : SFits w128 c.args.z.now.p = search rules in
    let n : SFits w128 c.multiplied.result = search rules in
    let o : SFits w128 c.opposite.result = search rules in
    let k : SFits w128 c.multiplied-2.result = search rules in
    work_ok _ _
    (bound_computed c.coef-a.result c.divisor-d.result c.args.z.now.p _ _ c.times.result c.times-2.result _ (simp to_z-of_z at c.times.ensures) (simp to_z-of_z at c.times-2.ensures) c.coef-a.ensures.exact
    c.divisor-d.ensures c.in_ok-computing.ensures.work)
    (work_ok _ _
    (combining_at c.args.z.now.g c.opposite.result _ _ c.in_ok-s.s c.in_ok-t.t _ _ _ refl c.in_ok-s.ensures
    (opposite_at c.opposite.result c.multiplied.result c.coef-a.result c.args.z.now.p _ (simp to_z-of_z at c.opposite.ensures.exact) (simp to_z-of_z at c.multiplied.ensures.exact) c.coef-a.ensures.exact)
    (without_at c.args.x c.args.l.now c.term.result.now c.in_ok-t.t c.in_ok-t.ensures c.term.ensures) (simp to_z-of_z at c.in_ok-v.ensures))
    (work_just _ _
    (bound_made c.args.x c.coef-a.result c.divisor-d.result _ _ c.multiplied-2.result c.in_ok-v.v c.in_ok-u.u c.in_ok-alone.field-0 (simp to_z-of_z at c.multiplied-2.ensures.exact) c.coef-a.ensures.exact
    c.divisor-d.ensures (simp to_z-of_z at c.in_ok-u.ensures.exact) c.in_ok-alone.ensures)))
