use Rattle.std.proofs.Common.{rules, to_z-of_z}
use Rattle.clause_set.proofs.Quotients.{content_passed_positive, content_passed_divides}
use mir.Syntax.{w128}
use mir.Val.{SFits}
use Rattle.clause_set.proofs.normal_form.content.Goals as goal

pub returns-clause-positive : goal.returns-clause-positive
returns-clause-positive c =
    let g : SFits w128 c.args.g = c.ranges.g in
    let f : SFits w128 c.gcd_with.result = search rules in
    content_passed_positive c.args.g c.args.t.now _ _ c.know_normal.ensures c.requires.some c.pairs.ensures (simp to_z-of_z at c.gcd_with.ensures.exact) f

pub returns-clause-divides : goal.returns-clause-divides
returns-clause-divides c =
    let g : SFits w128 c.args.g = c.ranges.g in
    let f : SFits w128 c.gcd_with.result = search rules in
    content_passed_divides c.args.g c.args.t.now _ _ c.pairs.ensures (simp to_z-of_z at c.gcd_with.ensures.exact) f
