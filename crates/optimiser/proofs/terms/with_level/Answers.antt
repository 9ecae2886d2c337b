use Rattle.std.proofs.Common.{pos, negsuc, to_z-of_z}
use mir.Syntax.{w128}
use mir.Val.{SFits}
use Rattle.linear_term.specs.Linear.{number}
use Rattle.base_budget.specs.Trace.{combining}
use Rattle.base_budget.proofs.Charging.{then_ok, then_err, free}
use Rattle.optimiser.specs.Least.{with_zero}
use Rattle.optimiser.proofs.terms.with_level.Goals as goal

pub returns-in_err-s : goal.returns-in_err-s
returns-in_err-s c =
    let k : SFits w128 c.args.k = c.ranges.k in
    let made = simp to_z-of_z at c.number.ensures in
    then_err (combining (pos 1) c.args.t.now (negsuc 0) (number c.args.k)) (with_zero c.args.d.now) c.from_residual.result c.from_residual.ensures.1 (free _ (rw made at c.in_err-s.ensures))

pub returns : goal.returns
returns c =
    let k : SFits w128 c.args.k = c.ranges.k in
    let made = simp to_z-of_z at c.number.ensures in
    then_ok (combining (pos 1) c.args.t.now (negsuc 0) (number c.args.k)) (with_zero c.args.d.now) (free _ (rw made at c.in_ok-s.ensures)) c.with_zero.ensures
