use Rattle.std.proofs.Common.{◌∙◌, ◌++◌, ◌∷◌, [], List, map, ap, sym, arith}
use Rattle.std.proofs.lemmas.List.{map-append}
use Rattle.std.specs.Borrow.{Bor}
use Rattle.backlist.proofs.WalkLemmas.{walk_first, walk_in, walk_next, walk_none}
use Rattle.sequent.specs.declared.member.Member.{Member}
use Rattle.tree_branch.proofs.Passing.{passed_more}
use Rattle.tree_branch.proofs.branch.Branch.members.Goals.{in-Some+in_ok-push, in_default}
use Rattle.tree_branch.proofs.branch.Branch.members.Goals as goal

pub loop-i-init : goal.loop-i-init
loop-i-init c = (walk_first c.args.self.now.list.present c.first-at.result c.first-at.ensures.first, ap (map (λ (m : Bor Member). m.now)) c.in_ok-members.ensures.items)

pub get-requires : goal.get-requires
get-requires c = walk_in c.args.self.now.list.present c.loop-i.i c.loop-i.at c.loop-i.invariant.0 c.in-Some.p c.in-Some.is

pub next-at-requires : goal.next-at-requires
next-at-requires c = walk_in c.args.self.now.list.present c.loop-i.i c.loop-i.at c.loop-i.invariant.0 c.in-Some.p c.in-Some.is

pub loop-i-preserved : goal.loop-i-preserved
loop-i-preserved c =
    let is = c.args.self.now.list.present in
    let w = c.loop-i.invariant.0 in
    let now = λ (m : Bor Member). m.now in
    elim c.match-at.branch [
      | in-Some+in_ok-push b ↦ rw (b.at-is, b.members-is) (
        walk_next is c.loop-i.i c.loop-i.at w b.in-Some.p b.in-Some.is b.next-at.result b.next-at.ensures.next,
        ap (map now) b.in_ok-push.ensures.items ∙ map-append now c.loop-i.members.items (b.get.result ∷ []) ∙ ap (λ (ms : List Member). ms ++ b.get.result.now ∷ []) c.loop-i.invariant.1
            ∙ sym (passed_more is c.loop-i.i c.loop-i.at w b.in-Some.p b.in-Some.is b.get.result.now b.get.ensures.value b.next-at.result b.next-at.ensures.next),
      )
      | in_default b ↦ absurd (omega (arith, walk_none is c.loop-i.i c.loop-i.at w b.in_default.is, c.loop-i-test.true, c.len-i-end.ensures.length))
    ]
