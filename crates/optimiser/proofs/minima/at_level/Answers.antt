use Rattle.std.proofs.Common.{◌≡◌, ◌^◌, ◌∙◌, ap, to_z-of_z, Result, Ok}
use mir.Syntax.{w128}
use mir.Val.{SFits}
use Rattle.base_budget.specs.declared.fault.ElimFault.{ElimFault}
use Rattle.quant_elim.proofs.Budgets.{below_budget}
use Rattle.parameter_solver.specs.declared.solving.Solved.{Solved}
use Rattle.parameter_solver.specs.declared.solving.Solved.TheVariants as solved
use Rattle.optimiser.proofs.Levels.{level_failed, level_done, level_stopped, joined_over, solved_some}
use Rattle.optimiser.proofs.minima.at_level.Goals as goal

pub returns-in-Err-clause-charged : goal.returns-in-Err-clause-charged
returns-in-Err-clause-charged c =
    let k : SFits w128 c.args.k = c.ranges.k in
    let did = simp to_z-of_z at c.in-Err.ensures in
    rw c.with_log.ensures (level_failed c.args.names c.args.d.now c.args.t.now c.args.k c.in-Err.fault c.args.log did)

pub solve-requires-clause-over : goal.solve-requires-clause-over
solve-requires-clause-over c =
    let k : SFits w128 c.args.k = c.ranges.k in
    let did = simp to_z-of_z at c.in-Ok.ensures in
    joined_over c.args.names c.args.d.now c.in-Ok.joined c.args.t.now c.args.k c.requires.task did

pub solve-requires-clause-budget : goal.solve-requires-clause-budget
solve-requires-clause-budget c = below_budget (2 ^ 32) c.in-Ok.ensures c.requires.budget

pub unreachable-requires : goal.unreachable-requires
unreachable-requires c =
    let k : SFits w128 c.args.k = c.ranges.k in
    let did = simp to_z-of_z at c.in-Ok.ensures in
    let is : c.solve.result ≡ Ok (solved.None c.in-Ok-None.field-0-0) = c.in-Ok-None.is ∙ ap (λ (s : Solved). let r : Result Solved ElimFault = Ok s in r) c.in-Ok-None.field-0-is in
    solved_some c.args.names c.args.d.now c.in-Ok.joined c.args.t.now c.args.k c.requires.task c.requires.attained did (c.solve.ensures.none c.in-Ok-None.field-0-0 is)

pub returns-in-Ok-Values-clause-charged : goal.returns-in-Ok-Values-clause-charged
returns-in-Ok-Values-clause-charged c =
    let k : SFits w128 c.args.k = c.ranges.k in
    let did = simp to_z-of_z at c.in-Ok.ensures in
    let found = rw c.in-Ok-Values.field-0-is at c.in-Ok-Values.ensures.charged in
    simp to_z-of_z (level_done c.args.names c.args.d.now c.in-Ok.joined c.args.t.now c.args.k c.in-Ok-Values.values c.args.log.entries c.args.log did found)

pub returns-in-Err-solve-clause-charged : goal.returns-in-Err-solve-clause-charged
returns-in-Err-solve-clause-charged c =
    let k : SFits w128 c.args.k = c.ranges.k in
    let did = simp to_z-of_z at c.in-Ok.ensures in
    level_stopped c.args.names c.args.d.now c.in-Ok.joined c.args.t.now c.args.k c.in-Err-solve.fault c.args.log.entries _ _ _ did c.in-Err-solve.ensures.charged
