use Rattle.std.proofs.Common.{◌≡◌, ◌<◌, ◌^◌, arith, refl}
use Rattle.base_budget.proofs.Charging.{then_err, then_just, no_memory, remains_next, remains_ends}
use Rattle.quant_elim.proofs.Budgets.{below_budget}
use Rattle.parameter_solver.proofs.Spanning.{names_next}
use Rattle.parameter_solver.proofs.solving.names_from.Goals as goal

pub returns-in_err-left : goal.returns-in_err-left
returns-in_err-left c = no_memory c.from_residual.result c.from_residual.ensures.1

pub returns-in_err-left-2 : goal.returns-in_err-left-2
returns-in_err-left-2 c =
    let some : 0 < c.loop-rest.rest = omega arith in
    let item = names_next c.loop-rest.rest c.args.j c.loop-rest.left some in
    let inv = rw item at c.loop-rest.invariant.work in
    remains_ends inv (then_err _ _ c.from_residual-in_err-left-2.result c.from_residual-in_err-left-2.ensures.1 c.in_err-left-2.ensures)

pub loop-rest-preserved : goal.loop-rest-preserved
loop-rest-preserved c =
    let some : 0 < c.loop-rest.rest = omega arith in
    let item = names_next c.loop-rest.rest c.args.j c.loop-rest.left some in
    let inv = rw item at c.loop-rest.invariant.work in
    let fewer = c.loop-rest.invariant.fewer in
    record {
      work = remains_next _ _ inv c.in_ok-left-2.ensures;
      fewer = omega (arith, fewer);
      budget = below_budget (2 ^ 32) c.in_ok-left-2.ensures c.loop-rest.invariant.budget;
    }

pub returns : goal.returns
returns c =
    let none : c.loop-rest.rest ≡ 0 = omega arith in
    let inv = rw none at c.loop-rest.invariant.work in
    remains_ends inv (then_just c.loop-rest.left c.loop-rest.left refl)
