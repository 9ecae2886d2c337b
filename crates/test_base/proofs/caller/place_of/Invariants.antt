use Rattle.std.proofs.Common.{◌≡◌, Some}
use Rattle.backlist.specs.History.{IsIn}
use Rattle.backlist.specs.declared.boxes.Pos.{Pos}
use Rattle.test_base.proofs.caller.place_of.Given as goal

abbrev pub invariant-loop : goal.invariant-loop
invariant-loop l = (p : Pos) → l.at ≡ Some p → IsIn p l.list.present
