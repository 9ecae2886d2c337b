use Rattle.std.proofs.Common.{to_z-of_z}
use Rattle.form_closures.proofs.Puts.{put_found}
use mir.Syntax.{w128}
use mir.Val.{SFits}
use Rattle.clause_checker.proofs.putting.put_one.Goals as goal

pub returns-in_ok-sum-in-Some-clause-ok : goal.returns-in_ok-sum-in-Some-clause-ok
returns-in_ok-sum-in-Some-clause-ok c =
    let k : SFits w128 c.args.k = c.ranges.k in
    put_found c.args.ts.now c.args.u.now c.in_ok-sum-in-Some.sum c.args.x c.args.k c.at.result c.in-Some.t c.at.ensures c.in-Some.is (simp to_z-of_z at c.in_ok-sum-in-Some.ensures.ok)
