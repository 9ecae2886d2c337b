use Rattle.std.proofs.Common.{to_z-of_z}
use mir.Syntax.{w128}
use mir.Val.{SFits}
use Rattle.parameter_solver.proofs.OneName.{root_done, root_failed, root_memory, root_range}
use Rattle.parameter_solver.proofs.roots.root.Goals as goal

pub returns-in_err-truth-clause-work : goal.returns-in_err-truth-clause-work
returns-in_err-truth-clause-work c =
    let v : SFits w128 c.args.v = c.ranges.v in
    root_failed c.args.j c.args.v c.args.ls.now _ c.from_residual.result (simp to_z-of_z at c.in_err-truth.ensures) c.from_residual.ensures.1

pub returns-in_err-push_when-clause-work : goal.returns-in_err-push_when-clause-work
returns-in_err-push_when-clause-work c =
    let v : SFits w128 c.args.v = c.ranges.v in
    root_memory c.args.j c.args.v c.args.ls.now c.in_ok-truth.truth c.from_residual-in_err-push_when.result (simp to_z-of_z at c.in_ok-truth.ensures) c.from_residual-in_err-push_when.ensures.1

pub returns-clause-work : goal.returns-clause-work
returns-clause-work c =
    let v : SFits w128 c.args.v = c.ranges.v in
    root_done c.args.j c.args.v c.args.ls.now c.in_ok-truth.truth _ _ (simp to_z-of_z at c.in_ok-truth.ensures) c.new-out.ensures (simp to_z-of_z at c.in_ok-push_when.ensures)

pub returns-clause-range : goal.returns-clause-range
returns-clause-range c =
    let v : SFits w128 c.args.v = c.ranges.v in
    root_range c.in_ok-truth.truth c.args.v _ _ c.requires.range c.new-out.ensures (simp to_z-of_z at c.in_ok-push_when.ensures)
