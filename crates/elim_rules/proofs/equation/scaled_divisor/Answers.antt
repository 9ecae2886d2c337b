use Rattle.std.proofs.Common.{rules, to_z-of_z}
use mir.Syntax.{w128}
use mir.Val.{SFits}
use Rattle.clause_set.specs.Equations.{size_of}
use Rattle.elim_rules.proofs.Products.{one_computed}
use Rattle.elim_rules.proofs.equation.scaled_divisor.Goals as goal

pub returns-clause-stays : goal.returns-clause-stays
returns-clause-stays c =
    let d : SFits w128 c.args.d = c.ranges.d in
    let n : SFits w128 c.size-n.result = search rules in
    one_computed c.args.d c.size-n.result (size_of c.args.q.now.a) c.times.result (simp to_z-of_z at c.times.ensures) c.size-n.ensures.exact c.in_ok-computing.ensures.stay
