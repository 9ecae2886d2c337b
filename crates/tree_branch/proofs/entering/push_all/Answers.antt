use Rattle.tree_branch.proofs.Undoing.{pushing_goes, pushing_starts}
use Rattle.tree_branch.proofs.entering.push_all.Goals as goal

pub loop-m-init : goal.loop-m-init
loop-m-init c = pushing_starts c.args.list.now c.in_ok-rest.rest c.args.members c.in_ok-rest.ensures

pub loop-m-preserved : goal.loop-m-preserved
loop-m-preserved c =
    pushing_goes c.args.list.now c.loop-m.list c.push.new.list c.loop-m.rest c.pop.new.self c.args.members c.in-Some.m c.in_ok-push.ensures.0 c.loop-m.invariant c.in-Some.ensures c.in_ok-push.ensures.1
