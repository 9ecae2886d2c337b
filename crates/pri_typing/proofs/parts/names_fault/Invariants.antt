use Rattle.std.proofs.Common.{◌≡◌, take}
use Rattle.pri_typing.specs.Faults.{least}
use Rattle.pri_typing.specs.Parts.{name_faults}
use Rattle.pri_typing.specs.Typing.{distinct_from}
use Rattle.pri_typing.proofs.parts.names_fault.Given as goal

abbrev pub invariant-loop-name : goal.invariant-loop-name
invariant-loop-name l = record {
  given_are : l.given ≡ distinct_from l.initial.given (take l.name-index l.names);
  fault_is : l.fault ≡ least (name_faults l.parts l.initial.given (take l.name-index l.names));
}
