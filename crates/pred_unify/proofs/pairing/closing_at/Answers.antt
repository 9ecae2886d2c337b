use Rattle.std.proofs.Common.{◌≤◌, ◌<◌, ◌+◌, ◌-◌, ◌^◌, ◌∙◌, List, ap, map, subst, sym}
use Rattle.std.specs.List.{AllByRecursion}
use Rattle.formula.specs.Form.{is_pure}
use Rattle.formula.specs.Shifts.{IsBelow}
use Rattle.formula.specs.Tree.{form}
use Rattle.formula.proofs.Making.{made_memory}
use Rattle.sequent.specs.Rules.{brought}
use Rattle.sequent.specs.Views.{sequent_of}
use Rattle.sequent.specs.declared.member.Member.{Member}
use Rattle.pred_unify.specs.Reading.{behind, sequent_at}
use Rattle.pred_unify.proofs.Making.{closing_cut, closing_made}
use Rattle.pred_unify.proofs.Partners.{all_among, pures_kept}
use Rattle.pred_unify.proofs.pairing.closing_at.Goals as goal

pub all_brought-requires : goal.all_brought-requires
all_brought-requires c =
    let HasPlace = λ (m : Member). (m.over ≤ c.args.leaf.now.count) × (m.used + 1 < 2 ^ 32) × IsBelow (2 ^ 32 - (c.args.leaf.now.count - m.over)) (form m.formula) in
    subst (AllByRecursion HasPlace) (sym (ap behind c.as_slice.ensures.value ∙ c.requires.kinds.pure)) (all_among HasPlace is_pure (behind c.args.leaf.now.members.items) c.requires.room.members)

pub returns-in_err-all : goal.returns-in_err-all
returns-in_err-all c = made_memory form _ c.from_residual.ensures.1

pub returns-in_err-put_pairs : goal.returns-in_err-put_pairs
returns-in_err-put_pairs c =
    let n = c.args.leaf.now.count in
    let all = λ (ms : List Member). map (λ (m : Member). brought m.over n (form m.formula)) ms in
    closing_cut (sequent_of (sequent_at c.args.leaf.now)) _ _ _ _
    (c.in_ok-all.ensures ∙ ap all (ap behind c.as_slice.ensures.value ∙ c.requires.kinds.pure) ∙ pures_kept n (behind c.args.leaf.now.members.items))
    c.from_residual-in_err-put_pairs.ensures.1 c.in_err-put_pairs.ensures

pub returns : goal.returns
returns c =
    let n = c.args.leaf.now.count in
    let all = λ (ms : List Member). map (λ (m : Member). brought m.over n (form m.formula)) ms in
    closing_made (sequent_of (sequent_at c.args.leaf.now)) _ _
    (c.in_ok-all.ensures ∙ ap all (ap behind c.as_slice.ensures.value ∙ c.requires.kinds.pure) ∙ pures_kept n (behind c.args.leaf.now.members.items)) c.in_ok-put_pairs.ensures
