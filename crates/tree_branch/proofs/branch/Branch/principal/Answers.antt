use Rattle.std.proofs.Common.{arith}
use Rattle.backlist.proofs.WalkLemmas.{walk_in, walk_next, walk_none}
use Rattle.tree_branch.proofs.Idle.{better_behind, idle_picked, passed_walk}
use Rattle.tree_branch.proofs.Passing.{pick_more, principal_more}
use Rattle.tree_branch.proofs.branch.Branch.principal.Goals.{in-Some, in_default}
use Rattle.tree_branch.proofs.branch.Branch.principal.Goals as goal

pub loop-i-init : goal.loop-i-init
loop-i-init c =
    let w = c.requires.passed in
    (passed_walk c.args.limit c.args.self.now c.args.passed.now c.behind-at.result w (c.behind-at.ensures c.args.limit w), idle_picked c.args.limit _ w.idle, tt, tt, omega arith)

pub get-requires : goal.get-requires
get-requires c = walk_in c.args.self.now.list.present c.loop-i.i c.loop-i.at c.loop-i.invariant.0 c.in-Some.p c.in-Some.is

pub next-at-requires : goal.next-at-requires
next-at-requires c = walk_in c.args.self.now.list.present c.loop-i.i c.loop-i.at c.loop-i.invariant.0 c.in-Some.p c.in-Some.is

pub loop-i-preserved : goal.loop-i-preserved
loop-i-preserved c =
    let is = c.args.self.now.list.present in
    let w = c.loop-i.invariant.0 in
    elim c.match-at.branch [
      | in-Some b ↦ rw (b.at-is, b.best-is, b.better-best.ensures, b.fits.ensures) (
        walk_next is c.loop-i.i c.loop-i.at w b.in-Some.p b.in-Some.is b.next-at.result b.next-at.ensures.next,
        pick_more is c.loop-i.i c.loop-i.at w b.in-Some.p b.in-Some.is b.get.result.now b.get.ensures.value b.next-at.result b.next-at.ensures.next c.args.limit c.loop-i.best c.loop-i.invariant.1,
        principal_more is c.loop-i.i c.loop-i.at w b.in-Some.p b.in-Some.is b.get.result.now b.get.ensures.value b.next-at.result b.next-at.ensures.next _ c.loop-i.best c.loop-i.invariant.2,
        better_behind c.args.passed.now.count c.loop-i.best _ c.loop-i.i b.in-Some.p c.loop-i.invariant.3 c.loop-i.invariant.4,
        (let le = c.loop-i.invariant.4 in omega (arith, le)),
      )
      | in_default b ↦ absurd (omega (arith, walk_none is c.loop-i.i c.loop-i.at w b.in_default.is, c.loop-i-test.true, c.len-i-end.ensures.length))
    ]
