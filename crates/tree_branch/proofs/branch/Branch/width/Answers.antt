use Rattle.std.proofs.Common.{◌<◌, ◌^◌, sym, ap, ◌∙◌, length, subst}
use Rattle.sequent.proofs.Premising.{length-premises}
use Rattle.tree_branch.specs.Standing.{held}
use Rattle.tree_branch.proofs.Held.{member_got, premises_are}
use Rattle.tree_branch.proofs.branch.Branch.width.Goals as goal

pub width_of-requires : goal.width_of-requires
width_of-requires c =
    let b = c.args.self.now in
    let p = c.args.principal.now in
    subst (λ n. n < 2 ^ 32) (ap length (premises_are b p) ∙ length-premises (held b) p.index c.get.result.now (member_got p b.list.present c.get.result.now c.requires.principal c.get.ensures.value)) c.requires.few

pub returns : goal.returns
returns c =
    let b = c.args.self.now in
    let p = c.args.principal.now in
    c.width_of.ensures ∙ sym (ap length (premises_are b p) ∙ length-premises (held b) p.index c.get.result.now (member_got p b.list.present c.get.result.now c.requires.principal c.get.ensures.value))
