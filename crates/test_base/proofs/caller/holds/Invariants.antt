use Rattle.std.proofs.Common.{◌≡◌}
use Rattle.backlist.specs.Walk.{IsWalk}
use Rattle.test_base.specs.Walked.{any_is}
use Rattle.test_base.proofs.caller.holds.Given as goal

abbrev pub invariant-loop-i : goal.invariant-loop-i
invariant-loop-i l = (w : IsWalk l.list.present l.i l.at) × (l.found ≡ any_is l.x w.passed)
