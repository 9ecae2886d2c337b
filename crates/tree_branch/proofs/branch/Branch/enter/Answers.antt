use Rattle.std.proofs.Common.{◌≡◌, ◌<◌, ◌++◌, ◌∙◌, refl, ap, length, subst, arith}
use Rattle.std.specs.List.{remove, slice_get}
use Rattle.sequent.proofs.Premising.{length-premises, premise_is, room_below, room_over, room_used}
use Rattle.sequent.specs.Views.{added_members}
use Rattle.tree_branch.specs.Standing.{held, members_in, undone}
use Rattle.tree_branch.proofs.Held.{leads_back, member_got, others_are, premises_are}
use Rattle.tree_branch.proofs.Idle.{passed_entered}
use Rattle.tree_branch.proofs.branch.Branch.enter.Goals as goal

pub branch-alloc-requires-clause-over : goal.branch-alloc-requires-clause-over
branch-alloc-requires-clause-over c =
    let b = c.args.self.now in
    let p = c.args.principal.now in
    room_over (held b) p.index c.get-member.result.now (member_got p b.list.present c.get-member.result.now c.requires.principal c.get-member.ensures.value) c.requires.room

pub branch-alloc-requires-clause-used : goal.branch-alloc-requires-clause-used
branch-alloc-requires-clause-used c =
    let b = c.args.self.now in
    let p = c.args.principal.now in
    room_used (held b) p.index c.get-member.result.now (member_got p b.list.present c.get-member.result.now c.requires.principal c.get-member.ensures.value) c.requires.room

pub branch-alloc-requires-clause-below : goal.branch-alloc-requires-clause-below
branch-alloc-requires-clause-below c =
    let b = c.args.self.now in
    let p = c.args.principal.now in
    room_below (held b) p.index c.get-member.result.now (member_got p b.list.present c.get-member.result.now c.requires.principal c.get-member.ensures.value) c.requires.room

pub branch-alloc-requires-clause-within : goal.branch-alloc-requires-clause-within
branch-alloc-requires-clause-within c =
    let b = c.args.self.now in
    let p = c.args.principal.now in
    let got = member_got p b.list.present c.get-member.result.now c.requires.principal c.get-member.ensures.value in
    subst (λ n. c.args.i < n) (ap length (premises_are b p) ∙ length-premises (held b) p.index c.get-member.result.now got) c.requires.within

pub returns-clause-premise : goal.returns-clause-premise
returns-clause-premise c =
    let b = c.args.self.now in
    let p = c.args.principal.now in
    let h = c.requires.principal in
    let new = added_members c.in_ok-new.new in
    let got = member_got p b.list.present c.get-member.result.now h c.get-member.ensures.value in
    let members : members_in c.push_new.new.list.present ≡ remove (members_in b.list.present) p.index ++ new =
    c.in_ok-push_new.ensures.members ∙ ap (λ is. members_in is ++ new) (c.unlink.ensures.others h.before h.member h.behind h.whole) ∙ ap (λ ms. ms ++ new) (others_are p b.list.present h) in
    ap (λ ss. slice_get ss c.args.i) (premises_are b p)
    ∙ premise_is (held b) (record { members = members_in c.push_new.new.list.present; count = c.count_after-self.result }) p.index c.args.i c.get-member.result.now new got c.in_ok-new.ensures members c.count_after-self.ensures

pub returns-clause-back : goal.returns-clause-back
returns-clause-back c =
    let b = c.args.self.now in
    let two = c.push_new.new.list in
    let few = c.in_ok-push_new.ensures.changes in
    let same = c.len.ensures in
    leads_back (record { pushed = c.len.result; count = b.count }) (record { list = two; count = c.count_after-self.result }) b c.unlink.new.self two c.args.principal.now.at c.unlink.ensures.unlinked (omega (arith, few, same))
    (ap (λ n. undone n two) same ∙ c.in_ok-push_new.ensures.back) refl refl

pub returns-clause-passed : goal.returns-clause-passed
returns-clause-passed c =
    let b = c.args.self.now in
    let h = c.requires.principal in
    let more = c.in_ok-push_new.ensures.behind in
    passed_entered b (record { list = c.push_new.new.list; count = c.count_after-self.result }) c.args.principal.now h more.0 (more.1 ∙ ap (λ is. is ++ more.0) (c.unlink.ensures.others h.before h.member h.behind h.whole))
