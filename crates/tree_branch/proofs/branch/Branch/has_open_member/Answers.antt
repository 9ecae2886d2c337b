use Rattle.std.proofs.Common.{◌∙◌, sym, refl, arith, ◌||◌}
use Rattle.backlist.proofs.WalkLemmas.{walk_first, walk_in, walk_next, walk_none}
use Rattle.tree_branch.proofs.Passing.{open_more}
use Rattle.tree_branch.proofs.branch.Branch.has_open_member.Goals.{in-Some, in_default}
use Rattle.tree_branch.proofs.branch.Branch.has_open_member.Goals as goal

pub loop-i-init : goal.loop-i-init
loop-i-init c = (walk_first c.args.self.now.list.present c.first-at.result c.first-at.ensures.first, refl)

pub get-requires : goal.get-requires
get-requires c = walk_in c.args.self.now.list.present c.loop-i.i c.loop-i.at c.loop-i.invariant.0 c.in-Some.p c.in-Some.is

pub next-at-requires : goal.next-at-requires
next-at-requires c = walk_in c.args.self.now.list.present c.loop-i.i c.loop-i.at c.loop-i.invariant.0 c.in-Some.p c.in-Some.is

pub loop-i-preserved : goal.loop-i-preserved
loop-i-preserved c =
    let is = c.args.self.now.list.present in
    let w = c.loop-i.invariant.0 in
    elim c.match-at.branch [
      | in-Some b ↦ rw (b.at-is, b.found-is) (
        walk_next is c.loop-i.i c.loop-i.at w b.in-Some.p b.in-Some.is b.next-at.result b.next-at.ensures.next,
        (λ k. c.loop-i.invariant.1 k || b.is_open-found.ensures k) ∙ sym (open_more is c.loop-i.i c.loop-i.at w b.in-Some.p b.in-Some.is b.get.result.now b.get.ensures.value b.next-at.result b.next-at.ensures.next),
      )
      | in_default b ↦ absurd (omega (arith, walk_none is c.loop-i.i c.loop-i.at w b.in_default.is, c.loop-i-test.true, c.len-i-end.ensures.length))
    ]
