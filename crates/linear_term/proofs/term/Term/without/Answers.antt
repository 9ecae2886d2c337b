use Rattle.std.proofs.Common.{rules, ◌∙◌, ap, subst}
use Rattle.std.proofs.lemmas.Int.{to_z-of_z}
use mir.Syntax.{w128}
use mir.Val.{SFits}
use Rattle.linear_term.specs.Linear.{IsNormal, Linear}
use Rattle.linear_term.proofs.Names.{normal-without, without-is}
use Rattle.linear_term.proofs.term.Term.without.Goals as goal

pub invariant_of-result : goal.invariant_of-result
invariant_of-result c =
    let f : SFits w128 c.self.inside.constant = search rules in
    let items = c.as_slice.ensures ∙ ap (λ (t : Linear). t.pairs) c.self.view_is in
    let constant = ap (λ (t : Linear). t.constant) c.self.view_is in
    rw (to_z-of_z, without-is c.args.self.now c.args.x _ _ (rw items at c.in_ok-pairs.ensures) constant)
    (normal-without c.args.self.now c.args.x (subst IsNormal c.self.view_is c.self.invariant))

pub returns : goal.returns
returns c =
    let f : SFits w128 c.self.inside.constant = search rules in
    let items = c.as_slice.ensures ∙ ap (λ (t : Linear). t.pairs) c.self.view_is in
    let constant = ap (λ (t : Linear). t.constant) c.self.view_is in
    rw to_z-of_z (without-is c.args.self.now c.args.x _ _ (rw items at c.in_ok-pairs.ensures) constant)
