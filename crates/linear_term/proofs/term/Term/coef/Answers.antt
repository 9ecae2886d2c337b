use Rattle.std.proofs.Common.{rules, ◌∙◌, ap, subst}
use Rattle.std.proofs.lemmas.Int.{to_z-of_z}
use mir.Syntax.{w128}
use mir.Val.{SFits}
use Rattle.linear_term.specs.Linear.{IsNormal, Linear}
use Rattle.linear_term.proofs.Names.{coef_of_found, range_of_found, coef_of_missing}
use Rattle.linear_term.proofs.term.Term.coef.Goals as goal

pub returns-in-Some-clause-exact : goal.returns-in-Some-clause-exact
returns-in-Some-clause-exact c =
    let f : SFits w128 c.in-Some.pair.now.1 = search rules in
    let items = c.as_slice.ensures ∙ ap (λ (t : Linear). t.pairs) c.self.view_is in
    rw to_z-of_z
    (coef_of_found c.args.self.now c.args.x c.in-Some.pair.now (subst IsNormal c.self.view_is c.self.invariant)
    (rw items at c.in-Some.ensures))

pub returns-in-Some-clause-range : goal.returns-in-Some-clause-range
returns-in-Some-clause-range c =
    let f : SFits w128 c.in-Some.pair.now.1 = search rules in
    let items = c.as_slice.ensures ∙ ap (λ (t : Linear). t.pairs) c.self.view_is in
    rw to_z-of_z
    (range_of_found c.args.self.now c.args.x c.in-Some.pair.now (subst IsNormal c.self.view_is c.self.invariant)
    (rw items at c.in-Some.ensures))

pub returns-in-None-clause-exact : goal.returns-in-None-clause-exact
returns-in-None-clause-exact c =
    let items = c.as_slice.ensures ∙ ap (λ (t : Linear). t.pairs) c.self.view_is in
    coef_of_missing c.args.self.now c.args.x (rw items at c.in-None.ensures)
