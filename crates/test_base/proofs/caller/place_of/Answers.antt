use Rattle.test_base.proofs.Steps.{first_in, next_is_in}
use Rattle.test_base.proofs.caller.place_of.Goals.{in-Some, in_default}
use Rattle.test_base.proofs.caller.place_of.Goals as goal

pub loop-init : goal.loop-init
loop-init c = first_in _ _ c.first-at.ensures.first

pub loop-preserved : goal.loop-preserved
loop-preserved c = elim c.match-at.branch [
  | in-Some w ↦ rw w.at-is (next_is_in _ w.in-Some.p _ (c.loop.invariant w.in-Some.p w.in-Some.is) w.next-at.ensures.next)
  | in_default w ↦ rw w.at-is c.loop.invariant
]
