use Rattle.std.proofs.Common.{◌≡◌, Some}
use Rattle.backlist.specs.History.{IsIn}
use Rattle.backlist.specs.declared.boxes.Pos.{Pos}
use Rattle.test_base.proofs.tests.is_same.Given as goal

abbrev pub invariant-loop-x : goal.invariant-loop-x
invariant-loop-x l = (p : Pos) → l.at ≡ Some p → IsIn p l.list.present
