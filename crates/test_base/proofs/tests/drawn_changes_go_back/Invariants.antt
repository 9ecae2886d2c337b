use Rattle.std.proofs.Common.{◌≡◌, length}
use Rattle.test_base.proofs.tests.drawn_changes_go_back.Given as goal

-- a copy is kept for each earlier list
abbrev pub invariant-loop-step : goal.invariant-loop-step
invariant-loop-step g l = length l.pair.list.earlier ≡ length l.pair.earlier.items
