use mir.Syntax.{w128}
use mir.Val.{SFits}
use Rattle.std.proofs.Common.{rules, to_z-of_z, arith}
use Rattle.tree_checker.proofs.Concluding.{all_put, put_cut, put_next, rest_in_range}
use Rattle.tree_checker.proofs.conclusion.values_put.Goals as goal

pub returns-in_err-valued : goal.returns-in_err-valued
returns-in_err-valued c =
    let first = c.in-Some.ensures.cases.0 in
    let fits : SFits w128 c.in-Some.v.now = search rules in
    put_cut c.loop-v.j c.in-Some.v.now c.in-Some.more.now c.loop-v.left c.from_residual-in_err-valued.result
    (rw first at c.loop-v.invariant.2) (rw c.clauses.ensures at (simp (to_z-of_z, fits) at c.in_err-valued.ensures)) c.from_residual-in_err-valued.ensures.1

pub loop-v-preserved : goal.loop-v-preserved
loop-v-preserved c =
    let first = c.in-Some.ensures.cases.0 in
    let fits : SFits w128 c.in-Some.v.now = search rules in
    let fewer = c.in-Some.ensures.cases.1 in
    let all = c.loop-v.invariant.1 in (
      rest_in_range c.in-Some.v.now c.in-Some.more.now (rw first at c.loop-v.invariant.0),
      omega (arith, fewer, all),
      put_next c.loop-v.j c.in-Some.v.now c.in-Some.more.now c.loop-v.left c.in_ok-valued.valued c.in_ok-left-2.left (rw first at c.loop-v.invariant.2) (rw c.clauses.ensures at (simp (to_z-of_z, fits) at c.in_ok-valued.ensures)) c.in_ok-left-2.ensures.form,
    )

pub returns : goal.returns
returns c = all_put c.loop-v.j c.loop-v.rest.now c.loop-v.left c.in_default.ensures.cases c.loop-v.invariant.2
