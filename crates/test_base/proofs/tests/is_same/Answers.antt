use Rattle.test_base.proofs.Steps.{first_in, next_is_in}
use Rattle.test_base.proofs.tests.is_same.Goals.{in-Some, in_default}
use Rattle.test_base.proofs.tests.is_same.Goals as goal

pub loop-x-init : goal.loop-x-init
loop-x-init c = first_in _ _ c.first-at.ensures.first

pub loop-x-preserved : goal.loop-x-preserved
loop-x-preserved c = elim c.match-at.branch [
  | in-Some w ↦ rw w.at-is (next_is_in _ w.in-Some.p _ (c.loop-x.invariant w.in-Some.p w.in-Some.is) w.next-at.ensures.next)
  | in_default w ↦ rw w.at-is c.loop-x.invariant
]
