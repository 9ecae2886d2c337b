use Rattle.std.proofs.Common.{rules, to_z-of_z}
use Rattle.clause_checker.proofs.Quotients.{content_passed}
use mir.Syntax.{w128}
use mir.Val.{SFits}
use Rattle.clause_checker.proofs.canonical.content.Goals as goal

pub returns-clause-divides : goal.returns-clause-divides
returns-clause-divides c =
    let g : SFits w128 c.gcd_with-g.result = search rules in
    let f : SFits w128 c.positive_one.result = search rules in
    content_passed c.args.t.now _ _ _ c.pairs.ensures c.gcd_with-g.ensures.exact (simp to_z-of_z at c.positive_one.ensures) f
