use Rattle.std.proofs.Common.{to_z-of_z}
use mir.Syntax.{w128}
use mir.Val.{SFits}
use Rattle.base_budget.proofs.Charging.{then_ok, then_err, free}
use Rattle.solve_laws.specs.Solutions.{with_value}
use Rattle.parameter_solver.proofs.values.with_value.Goals as goal

pub returns-in_err-step : goal.returns-in_err-step
unfolding with_value
returns-in_err-step c = then_err _ _ c.from_residual.result c.from_residual.ensures.1 (c.in_err-step.ensures _ c.charge.ensures)

pub returns-in_err-clauses : goal.returns-in_err-clauses
unfolding with_value
returns-in_err-clauses c =
    let v : SFits w128 c.args.v = c.ranges.v in
    then_ok _ _ (c.in_ok-step.ensures _ c.charge.ensures)
    (then_err _ _ c.from_residual-in_err-clauses.result c.from_residual-in_err-clauses.ensures.1 (free _ (simp to_z-of_z at c.in_err-clauses.ensures)))

pub returns : goal.returns
unfolding with_value
returns c =
    let v : SFits w128 c.args.v = c.ranges.v in
    then_ok _ _ (c.in_ok-step.ensures _ c.charge.ensures)
    (then_ok _ _ (free _ (simp to_z-of_z at c.in_ok-clauses.ensures)) c.tidy.ensures.charged)
