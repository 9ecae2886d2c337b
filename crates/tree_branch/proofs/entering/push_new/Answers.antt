use Rattle.std.proofs.Common.{◌++◌, ◌∙◌, [], ◌∷◌, ap, append_assoc}
use Rattle.backlist.specs.History.{History}
use Rattle.sequent.specs.declared.member.Member.{Member}
use Rattle.tree_branch.proofs.entering.push_new.Goals as goal

pub returns-in_ok-push-in-One-clause-behind : goal.returns-in_ok-push-in-One-clause-behind
returns-in_ok-push-in-One-clause-behind c =
    let did = c.in_ok-push-in-One.ensures in ((did.0, c.in-One.m) ∷ [], ap (λ (h : History Member). h.present) did.1)

pub returns-in_ok-push-in-Two-2-clause-behind : goal.returns-in_ok-push-in-Two-2-clause-behind
returns-in_ok-push-in-Two-2-clause-behind c =
    let one = c.in_ok-push-in-Two.ensures in
    let two = c.in_ok-push-in-Two-2.ensures in (
      (one.0, c.in-Two.first) ∷ (two.0, c.in-Two.second) ∷ [],
      ap (λ (h : History Member). h.present) two.1 ∙ ap (λ (h : History Member). h.present ++ (two.0, c.in-Two.second) ∷ []) one.1
          ∙ append_assoc c.args.list.now.present ((one.0, c.in-Two.first) ∷ []) ((two.0, c.in-Two.second) ∷ []),
    )
