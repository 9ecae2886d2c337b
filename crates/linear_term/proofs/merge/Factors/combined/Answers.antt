use Rattle.std.proofs.Common.{◌≡◌, ◌∙◌, ap, subst, refl, rules}
use Rattle.std.proofs.lemmas.Int.{to_z-of_z}
use mir.Syntax.{w128}
use mir.Val.{SFits}
use Rattle.linear_term.specs.Linear.{IsNormal, Linear}
use Rattle.linear_term.specs.Combination.{combination}
use Rattle.linear_term.proofs.Combining.{combination-is, raw_stay}
use Rattle.linear_term.proofs.Normal.{normal-combination}
use Rattle.linear_term.proofs.merge.Factors.combined.Goals as goal

-- what the merge and the number of the constants made is the combination
same : (c : goal.In_ok-merge) → record { pairs = c.merge.new.pairs.items; constant = c.in_ok-constant.constant }
    ≡ combination c.args.self.now.m c.args.s.now c.args.self.now.n c.args.t.now
same c =
    let left = c.as_slice.ensures ∙ ap (λ (t : Linear). t.pairs) c.s.view_is in
    let right = c.as_slice-2.ensures ∙ ap (λ (t : Linear). t.pairs) c.t.view_is in
    combination-is _ _ _ _ _ _
    (c.in_ok-merge.ensures.exact ∙ rw (c.in_ok-pairs.ensures, left, right) refl)
    (c.in_ok-constant.ensures.exact ∙ rw c.constants.ensures refl)

pub invariant_of-result : goal.invariant_of-result
invariant_of-result c =
    let f : SFits w128 c.in_ok-constant.constant = search rules in
    let left = c.as_slice.ensures ∙ ap (λ (t : Linear). t.pairs) c.s.view_is in
    let right = c.as_slice-2.ensures ∙ ap (λ (t : Linear). t.pairs) c.t.view_is in
    rw (to_z-of_z, same c)
    (normal-combination _ _ _ _ (subst IsNormal c.s.view_is c.s.invariant) (subst IsNormal c.t.view_is c.t.invariant)
    (raw_stay _ _ _ _ (rw (left, right) at c.in_ok-merge.ensures.stays) (rw c.constants.ensures at c.in_ok-constant.ensures.stays)))

pub returns-clause-exact : goal.returns-clause-exact
returns-clause-exact c =
    let f : SFits w128 c.in_ok-constant.constant = search rules in
    rw to_z-of_z (same c)
