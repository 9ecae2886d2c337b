use Rattle.std.proofs.Common.{rules, to_z-of_z, subst, sym, ◌∙◌, ◌<◌, ◌^◌}
use Rattle.std.specs.Prelude.{unsigned_abs}
use mir.Syntax.{w128}
use mir.Val.{SFits}
use Rattle.linear_term.proofs.Small.{small_product, exact_product}
use Rattle.linear_term.proofs.range.small_product.Goals as goal

pub returns-clause-exact : goal.returns-clause-exact
returns-clause-exact c =
    let a : SFits w128 c.from.result = search rules in
    let b : SFits w128 c.from-2.result = search rules in
    exact_product c.args.a c.args.b _ _ (to_z-of_z a ∙ search rules) (to_z-of_z b ∙ search rules) c.requires.left c.requires.right

pub returns-clause-small : goal.returns-clause-small
returns-clause-small c =
    subst (λ z. unsigned_abs z < 2 ^ 126) (sym (returns-clause-exact c)) (small_product c.args.a c.args.b c.requires.left c.requires.right)
