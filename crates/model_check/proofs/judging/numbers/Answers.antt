use Rattle.std.proofs.Common.{rules, ◌<◌, pos, length, get_or, arith, to_z-of_z}
use mir.Syntax.{w128}
use mir.Val.{SFits}
use Rattle.model_check.proofs.Numbers.{numbers_more}
use Rattle.model_check.proofs.judging.numbers.Goals as goal

pub loop-i-preserved : goal.loop-i-preserved
loop-i-preserved c =
    let f : SFits w128 (get_or c.args.xs.now c.loop-i.i (pos 0)) = search rules in
    let lt : c.loop-i.i < length c.args.xs.now = omega arith in
    numbers_more c.args.xs.now c.loop-i.i c.loop-i.out c.push.new.self c.in_ok-t.t lt c.loop-i.invariant (simp to_z-of_z at c.in_ok-t.ensures) c.in_ok-push.ensures.ok
