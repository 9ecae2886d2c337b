use Rattle.std.proofs.Common.{◌≡◌, ℕ, ◌+◌, ◌-◌, ◌<◌, ◌^◌, arith, refl, rules, subst, to_z-of_z}
use mir.Syntax.{w128}
use mir.Val.{SFits}
use Rattle.base_budget.proofs.Following.{follow_err, follow_just, follow_memory, going_next, going_ends}
use Rattle.quant_elim.proofs.Budgets.{below_budget}
use Rattle.parameter_solver.specs.Names.{IsOfNames}
use Rattle.parameter_solver.proofs.Spanning.{step_names, values_next}
use Rattle.parameter_solver.proofs.solving.values.Goals as goal

pub returns-in_err-rest : goal.returns-in_err-rest
returns-in_err-rest c = follow_memory c.from_residual.result c.from_residual.ensures.1

pub value_step-requires-clause-over : goal.value_step-requires-clause-over
value_step-requires-clause-over c =
    let lt : c.loop-j.j < c.args.names = c.loop-j-test.true in
    let same : c.args.names ≡ c.loop-j.j + (c.args.names - 1 - c.loop-j.j) + 1 = omega arith in
    subst (λ (n : ℕ). IsOfNames c.loop-j.j n c.loop-j.rest) same c.loop-j.invariant.names

pub returns-in_err-v : goal.returns-in_err-v
returns-in_err-v c =
    let item = values_next c.args.names c.loop-j.j c.loop-j.rest c.loop-j.values c.loop-j-test.true in
    let inv = rw item at c.loop-j.invariant.work in
    going_ends inv (follow_err _ _ c.from_residual-in_err-v.result c.from_residual-in_err-v.ensures.1 c.in_err-v.ensures)

pub returns-in_err-push : goal.returns-in_err-push
returns-in_err-push c =
    let item = values_next c.args.names c.loop-j.j c.loop-j.rest c.loop-j.values c.loop-j-test.true in
    let inv = rw item at c.loop-j.invariant.work in
    going_ends (going_next _ _ inv c.in_ok-v.ensures) (follow_memory c.from_residual-in_err-push.result c.from_residual-in_err-push.ensures.1)

pub loop-j-preserved : goal.loop-j-preserved
loop-j-preserved c =
    let v : SFits w128 c.in_ok-v.v = search rules in
    let item = values_next c.args.names c.loop-j.j c.loop-j.rest c.loop-j.values c.loop-j-test.true in
    let inv = rw item at c.loop-j.invariant.work in
    let pushed = simp to_z-of_z at c.in_ok-push.ensures.ok in
    record {
      work = rw pushed (going_next _ _ inv c.in_ok-v.ensures);
      names = step_names c.loop-j.j (c.args.names - 1 - c.loop-j.j) c.args.names c.loop-j.rest c.in_ok-v.next c.in_ok-v.v c.loop-j.invariant.names c.in_ok-v.ensures;
      budget = below_budget (2 ^ 32) c.in_ok-v.ensures.charged c.loop-j.invariant.budget;
    }

pub returns : goal.returns
returns c =
    let none : c.args.names - c.loop-j.j ≡ 0 = omega arith in
    let inv = rw none at c.loop-j.invariant.work in
    going_ends inv (follow_just c.loop-j.values c.loop-j.values refl)
