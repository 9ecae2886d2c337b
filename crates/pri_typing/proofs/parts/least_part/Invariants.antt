use Rattle.std.proofs.Common.{◌≡◌, take}
use Rattle.pri_typing.specs.Faults.{least}
use Rattle.pri_typing.specs.Parts.{parts_at}
use Rattle.pri_typing.proofs.parts.least_part.Given as goal

abbrev pub invariant-loop-name : goal.invariant-loop-name
invariant-loop-name l = l.least ≡ least (parts_at (take l.name-index l.names))
