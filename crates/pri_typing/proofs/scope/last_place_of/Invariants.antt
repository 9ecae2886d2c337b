use Rattle.std.proofs.Common.{◌≡◌, take}
use Rattle.pri_typing.specs.Sites.{last_place}
use Rattle.pri_typing.proofs.scope.last_place_of.Given as goal

abbrev pub invariant-loop-i : goal.invariant-loop-i
invariant-loop-i l = l.found ≡ last_place l.text (take l.i l.names)
