use Rattle.std.proofs.Common.{rules, arith, to_z-of_z}
use mir.Syntax.{w128}
use mir.Val.{SFits}
use Rattle.parameter_solver.proofs.OneName.{true_more, truth_done, truth_failed}
use Rattle.parameter_solver.proofs.roots.truth_at.Goals as goal

pub returns-in_err-value : goal.returns-in_err-value
returns-in_err-value c =
    let v : SFits w128 c.args.v = c.ranges.v in
    truth_failed c.args.j c.args.v c.args.ls.now c.loop-l.l-index c.l-item.result c.value_number.result c.in_err-value.field-0.0 c.from_residual.result (omega arith) c.l-item.is
    (simp to_z-of_z at c.value_number.ensures) c.from_residual.ensures.1 c.in_err-value.ensures.overflow

pub loop-l-preserved : goal.loop-l-preserved
loop-l-preserved c =
    let v : SFits w128 c.args.v = c.ranges.v in
    let k : SFits w128 c.in_ok-value.value = search rules in
    simp to_z-of_z
    (true_more c.args.j c.args.v c.args.ls.now c.loop-l.l-index c.l-item.result c.value_number.result c.in_ok-value.value c.is_also_true_of-truth.result c.loop-l.truth c.requires.alone (omega arith) c.l-item.is
    (simp to_z-of_z at c.value_number.ensures) c.in_ok-value.ensures.exact c.in_ok-value.ensures.stays (simp to_z-of_z at c.is_also_true_of-truth.ensures) (simp to_z-of_z at c.loop-l.invariant))

pub returns : goal.returns
returns c =
    let v : SFits w128 c.args.v = c.ranges.v in
    truth_done c.args.j c.args.v c.args.ls.now c.loop-l.l-index c.loop-l.truth (omega arith) (simp to_z-of_z at c.loop-l.invariant)
