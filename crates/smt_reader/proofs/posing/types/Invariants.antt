use Rattle.std.proofs.Common.{◌≡◌, take}
use Rattle.pri_typing.specs.Files.{all_int}
use Rattle.smt_reader.proofs.posing.types.Given as goal

abbrev pub invariant-loop-name : goal.invariant-loop-name
invariant-loop-name l = l.out ≡ all_int (take l._name-index l.names)
