use Rattle.std.proofs.Common.{◌≡◌, take, []}
use Rattle.pri_typing.specs.Faults.{least}
use Rattle.pri_typing.specs.Parts.{name_faults, names_of}
use Rattle.pri_typing.specs.Typing.{distinct_from}
use Rattle.pri_typing.proofs.parts.cut_fault.Given as goal

abbrev pub invariant-loop-set : goal.invariant-loop-set
invariant-loop-set l = record {
  given_are : l.given ≡ distinct_from [] (names_of (take l.set-index l.sets));
  fault_is : l.fault ≡ least (name_faults l.parts [] (names_of (take l.set-index l.sets)));
}
