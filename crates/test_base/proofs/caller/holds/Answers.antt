use Rattle.std.proofs.Common.{◌∙◌, sym, refl, arith, ◌||◌, ◌==◌}
use Rattle.backlist.proofs.WalkLemmas.{walk_first, walk_in, walk_next, walk_none, walk_whole}
use Rattle.test_base.proofs.Any.{any_is-push}
use Rattle.test_base.proofs.caller.holds.Goals.{in-Some, in_default}
use Rattle.test_base.proofs.caller.holds.Goals as goal

pub loop-i-init : goal.loop-i-init
loop-i-init c = (walk_first c.args.list.now.present c.first-at.result c.first-at.ensures.first, refl)

pub get-requires : goal.get-requires
get-requires c = walk_in c.args.list.now.present c.loop-i.i c.loop-i.at c.loop-i.invariant.0 c.in-Some.p c.in-Some.is

pub next-at-requires : goal.next-at-requires
next-at-requires c = walk_in c.args.list.now.present c.loop-i.i c.loop-i.at c.loop-i.invariant.0 c.in-Some.p c.in-Some.is

pub loop-i-preserved : goal.loop-i-preserved
loop-i-preserved c = elim c.match-at.branch [
  | in-Some w ↦ rw (w.at-is, w.found-is) (
    walk_next c.args.list.now.present c.loop-i.i c.loop-i.at c.loop-i.invariant.0 w.in-Some.p w.in-Some.is w.next-at.result w.next-at.ensures.next,
    let v = w.get.ensures.value _ _ _ (walk_whole c.args.list.now.present c.loop-i.i c.loop-i.at c.loop-i.invariant.0 w.in-Some.p w.in-Some.is) in
        (λ k. c.loop-i.invariant.1 k || (v k == c.args.x)) ∙ sym (any_is-push c.args.x c.loop-i.invariant.0.passed w.in-Some.p _),
  )
  | in_default w ↦ absurd (omega (arith, walk_none c.args.list.now.present c.loop-i.i c.loop-i.at c.loop-i.invariant.0 w.in_default.is, c.loop-i-test.true, c.len-i-end.ensures.length))
]
