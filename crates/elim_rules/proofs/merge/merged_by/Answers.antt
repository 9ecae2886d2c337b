use Rattle.std.proofs.Common.{rules, to_z-of_z}
use mir.Syntax.{w128}
use mir.Val.{SFits}
use Rattle.base_budget.proofs.Charging.{work_ok, work_err, work_just}
use Rattle.elim_rules.proofs.Named.{memory_only}
use Rattle.elim_rules.proofs.Merging.{two_computed, combining_at, without_at, coefficient_at, negated_at, multiplied_at, combined-free, joint_divisor, merged_formed}
use Rattle.elim_rules.proofs.merge.merged_by.Goals as goal

pub returns-in_err-computing : goal.returns-in_err-computing
returns-in_err-computing c =
    let d1 : SFits w128 c.divisor-d1.result = search rules in
    let d2 : SFits w128 c.divisor-d2.result = search rules in
    let p : SFits w128 c.args.z.now.p = search rules in
    let q : SFits w128 c.args.z.now.q = search rules in
    work_err _ _ c.from_residual.result c.from_residual.ensures.1
    (two_computed c.args.z.now.p c.divisor-d2.result c.args.z.now.q c.divisor-d1.result _ _ c.times.result c.times-2.result _ (simp to_z-of_z at c.times.ensures) (simp to_z-of_z at c.times-2.ensures)
    c.divisor-d2.ensures c.divisor-d1.ensures c.in_err-computing.ensures.work)

pub returns-in_err-v : goal.returns-in_err-v
returns-in_err-v c =
    let d1 : SFits w128 c.divisor-d1.result = search rules in
    let d2 : SFits w128 c.divisor-d2.result = search rules in
    let p : SFits w128 c.args.z.now.p = search rules in
    let q : SFits w128 c.args.z.now.q = search rules in
    let m : SFits w128 c.multiplied.result = search rules in
    let n : SFits w128 c.multiplied-2.result = search rules in
    let first = two_computed c.args.z.now.p c.divisor-d2.result c.args.z.now.q c.divisor-d1.result _ _ c.times.result c.times-2.result _ (simp to_z-of_z at c.times.ensures)
    (simp to_z-of_z at c.times-2.ensures) c.divisor-d2.ensures c.divisor-d1.ensures c.in_ok-computing.ensures.work in
    work_ok _ _ first
    (work_err _ _ c.from_residual-in_err-v.result c.from_residual-in_err-v.ensures.1
    (combining_at c.multiplied.result c.multiplied-2.result _ _ c.in_ok-s.s c.in_ok-t.t _ _ _
    (multiplied_at _ c.args.z.now.p c.divisor-d2.result _ (simp to_z-of_z at c.multiplied.ensures.exact) c.divisor-d2.ensures)
    (without_at c.args.x c.args.l.now c.term.result.now c.in_ok-s.s c.in_ok-s.ensures c.term.ensures)
    (multiplied_at _ c.args.z.now.q c.divisor-d1.result _ (simp to_z-of_z at c.multiplied-2.ensures.exact) c.divisor-d1.ensures)
    (without_at c.args.x c.args.m.now c.term-2.result.now c.in_ok-t.t c.in_ok-t.ensures c.term-2.ensures) (simp to_z-of_z at c.in_err-v.ensures)))

pub returns-in_err-w : goal.returns-in_err-w
returns-in_err-w c =
    let d1 : SFits w128 c.divisor-d1.result = search rules in
    let d2 : SFits w128 c.divisor-d2.result = search rules in
    let p : SFits w128 c.args.z.now.p = search rules in
    let q : SFits w128 c.args.z.now.q = search rules in
    let m : SFits w128 c.multiplied.result = search rules in
    let n : SFits w128 c.multiplied-2.result = search rules in
    let a : SFits w128 c.coef.result = search rules in
    let b : SFits w128 c.coef-2.result = search rules in
    let o : SFits w128 c.opposite.result = search rules in
    let first = two_computed c.args.z.now.p c.divisor-d2.result c.args.z.now.q c.divisor-d1.result _ _ c.times.result c.times-2.result _ (simp to_z-of_z at c.times.ensures)
    (simp to_z-of_z at c.times-2.ensures) c.divisor-d2.ensures c.divisor-d1.ensures c.in_ok-computing.ensures.work in
    let s = without_at c.args.x c.args.l.now c.term.result.now c.in_ok-s.s c.in_ok-s.ensures c.term.ensures in
    let t = without_at c.args.x c.args.m.now c.term-2.result.now c.in_ok-t.t c.in_ok-t.ensures c.term-2.ensures in
    work_ok _ _ first
    (work_ok _ _
    (combining_at c.multiplied.result c.multiplied-2.result _ _ c.in_ok-s.s c.in_ok-t.t _ _ _
    (multiplied_at _ c.args.z.now.p c.divisor-d2.result _ (simp to_z-of_z at c.multiplied.ensures.exact) c.divisor-d2.ensures) s
    (multiplied_at _ c.args.z.now.q c.divisor-d1.result _ (simp to_z-of_z at c.multiplied-2.ensures.exact) c.divisor-d1.ensures) t (simp to_z-of_z at c.in_ok-v.ensures))
    (work_err _ _ c.from_residual-in_err-w.result c.from_residual-in_err-w.ensures.1
    (combining_at c.coef.result c.opposite.result _ _ c.in_ok-s.s c.in_ok-t.t _ _ _ (coefficient_at c.args.x c.args.m.now c.term-3.result.now c.coef.result c.coef.ensures.exact c.term-3.ensures) s
    (negated_at c.args.x c.args.l.now c.term-4.result.now c.coef-2.result c.opposite.result (simp to_z-of_z at c.opposite.ensures.exact) c.coef-2.ensures.exact c.term-4.ensures) t
    (simp to_z-of_z at c.in_err-w.ensures))))

pub joined-requires-clause-divisor : goal.joined-requires-clause-divisor
joined-requires-clause-divisor c =
    let d1 : SFits w128 c.divisor-d1.result = search rules in
    let d2 : SFits w128 c.divisor-d2.result = search rules in
    let k : SFits w128 c.multiplied-3.result = search rules in
    simp to_z-of_z (joint_divisor c.args.l.now c.args.m.now c.divisor-d1.result c.divisor-d2.result c.multiplied-3.result c.divisor-d1.ensures c.divisor-d2.ensures
    (simp to_z-of_z at c.multiplied-3.ensures.exact) c.requires.first.divisor c.requires.second.divisor c.requires.product)

pub joined-requires-clause-without : goal.joined-requires-clause-without
joined-requires-clause-without c = combined-free c.args.x _ _ c.in_ok-s.s c.in_ok-t.t c.term.result.now c.term-2.result.now c.in_ok-v.v c.in_ok-s.ensures c.in_ok-t.ensures c.in_ok-v.ensures

pub returns-in_err-new : goal.returns-in_err-new
returns-in_err-new c = memory_only c.in_err-new.field-0.0 c.from_residual-in_err-new.result c.in_err-new.ensures.memory c.from_residual-in_err-new.ensures.1

pub returns : goal.returns
returns c =
    let d1 : SFits w128 c.divisor-d1.result = search rules in
    let d2 : SFits w128 c.divisor-d2.result = search rules in
    let p : SFits w128 c.args.z.now.p = search rules in
    let q : SFits w128 c.args.z.now.q = search rules in
    let m : SFits w128 c.multiplied.result = search rules in
    let n : SFits w128 c.multiplied-2.result = search rules in
    let k : SFits w128 c.multiplied-3.result = search rules in
    let a : SFits w128 c.coef.result = search rules in
    let b : SFits w128 c.coef-2.result = search rules in
    let o : SFits w128 c.opposite.result = search rules in
    let first = two_computed c.args.z.now.p c.divisor-d2.result c.args.z.now.q c.divisor-d1.result _ _ c.times.result c.times-2.result _ (simp to_z-of_z at c.times.ensures)
    (simp to_z-of_z at c.times-2.ensures) c.divisor-d2.ensures c.divisor-d1.ensures c.in_ok-computing.ensures.work in
    let s = without_at c.args.x c.args.l.now c.term.result.now c.in_ok-s.s c.in_ok-s.ensures c.term.ensures in
    let t = without_at c.args.x c.args.m.now c.term-2.result.now c.in_ok-t.t c.in_ok-t.ensures c.term-2.ensures in
    work_ok _ _ first
    (work_ok _ _
    (combining_at c.multiplied.result c.multiplied-2.result _ _ c.in_ok-s.s c.in_ok-t.t _ _ _
    (multiplied_at _ c.args.z.now.p c.divisor-d2.result _ (simp to_z-of_z at c.multiplied.ensures.exact) c.divisor-d2.ensures) s
    (multiplied_at _ c.args.z.now.q c.divisor-d1.result _ (simp to_z-of_z at c.multiplied-2.ensures.exact) c.divisor-d1.ensures) t (simp to_z-of_z at c.in_ok-v.ensures))
    (work_ok _ _
    (combining_at c.coef.result c.opposite.result _ _ c.in_ok-s.s c.in_ok-t.t _ _ _ (coefficient_at c.args.x c.args.m.now c.term-3.result.now c.coef.result c.coef.ensures.exact c.term-3.ensures) s
    (negated_at c.args.x c.args.l.now c.term-4.result.now c.coef-2.result c.opposite.result (simp to_z-of_z at c.opposite.ensures.exact) c.coef-2.ensures.exact c.term-4.ensures) t
    (simp to_z-of_z at c.in_ok-w.ensures))
    (work_just _ _ (merged_formed c.args.x c.args.l.now c.args.m.now c.args.z.now.g c.divisor-d1.result c.divisor-d2.result c.multiplied-3.result c.in_ok-v.v c.in_ok-w.w c.args.rest c.in_ok-new.new
    c.in_ok-in_form_with.field-0 c.divisor-d1.ensures c.divisor-d2.ensures (simp to_z-of_z at c.multiplied-3.ensures.exact) (simp to_z-of_z at c.in_ok-new.ensures.exact) c.in_ok-in_form_with.ensures))))
