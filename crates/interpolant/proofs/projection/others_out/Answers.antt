use Rattle.std.proofs.Common.{◌≡◌, ◌<◌, ◌^◌, arith}
use Rattle.function_encoding.specs.Marks.{is_marked}
use Rattle.interpolant.proofs.Steps.{elim_budget, elim_err, left_all, left_next, left_none, left_one}
use Rattle.interpolant.proofs.projection.others_out.Goals as goal

pub loop-x-init : goal.loop-x-init
loop-x-init c = record { work = left_all _ _; within = omega arith; budget = c.requires.budget }

pub bounds-marks-x : goal.bounds-marks-x
bounds-marks-x c = let w = c.loop-x.invariant.within in let t = c.loop-x-test.true in omega (arith, w, t)

pub overflow_cast-x : goal.overflow_cast-x
overflow_cast-x c = let w = c.loop-x.invariant.within in let few = c.requires.few in omega (arith, w, few)

pub without-requires : goal.without-requires
without-requires c = c.loop-x.invariant.budget

pub returns-in_err-left : goal.returns-in_err-left
returns-in_err-left c =
    let some : 0 < c.loop-x.x = c.loop-x-test.true in
    (left_one (is_marked c.args.marks.now) c.loop-x.x c.loop-x.left some c.loop-x.invariant.work).ends _ _
    (elim_err _ _ c.in_err-left.field-0.0 c.from_residual.result c.from_residual.ensures.1 c.in_err-left.ensures)

pub loop-x-preserved : goal.loop-x-preserved
loop-x-preserved c =
    let some : 0 < c.loop-x.x = c.loop-x-test.true in
    let w = c.loop-x.invariant.within in
    record {
      work = left_next _ _ (left_one (is_marked c.args.marks.now) c.loop-x.x c.loop-x.left some c.loop-x.invariant.work) c.in_ok-left.ensures;
      within = omega (arith, w);
      budget = elim_budget (2 ^ 32) c.in_ok-left.ensures c.loop-x.invariant.budget;
    }

pub returns : goal.returns
returns c =
    let test = c.loop-x-test.false in
    let none : c.loop-x.x ≡ 0 = omega (arith, test) in
    left_none (is_marked c.args.marks.now) c.loop-x.x c.loop-x.left none c.loop-x.invariant.work
