use Rattle.std.proofs.Common.{rules, to_z-of_z}
use mir.Syntax.{w128}
use mir.Val.{SFits}
use Rattle.elim_rules.proofs.Remainders.{count_is}
use Rattle.elim_rules.proofs.apart.remainder_count.Goals as goal

pub returns-clause-exact : goal.returns-clause-exact
returns-clause-exact c =
    let d : SFits w128 c.divisor.result = search rules in
    count_is c.divisor.result _ c.unsigned_abs.result (simp to_z-of_z at c.unsigned_abs.ensures.value) c.divisor.ensures
