use Rattle.std.proofs.Common.{to_z-of_z}
use mir.Syntax.{w128}
use mir.Val.{SFits}
use Rattle.solve_values.proofs.Valuing.{valued_done, valued_failed}
use Rattle.solve_values.proofs.values.valued.Goals as goal

pub returns-in_err-s-clause-work : goal.returns-in_err-s-clause-work
returns-in_err-s-clause-work c =
    let v : SFits w128 c.args.v = c.ranges.v in
    valued_failed c.args.j c.args.v c.args.l.now c.term.result.now _ c.from_residual.result c.term.ensures (simp to_z-of_z at c.in_err-s.ensures) c.from_residual.ensures.1

pub returns-clause-work : goal.returns-clause-work
returns-clause-work c =
    let v : SFits w128 c.args.v = c.ranges.v in
    valued_done c.args.j c.args.v c.args.l.now c.with_term.result c.term.result.now c.in_ok-s.s c.in_ok-alone.field-0 c.term.ensures (simp to_z-of_z at c.in_ok-s.ensures) c.with_term.ensures.exact c.in_ok-alone.ensures
