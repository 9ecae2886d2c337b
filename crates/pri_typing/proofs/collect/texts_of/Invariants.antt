use Rattle.std.proofs.Common.{◌≡◌, take, []}
use Rattle.pri_typing.specs.Typing.{distinct_from}
use Rattle.pri_typing.proofs.collect.texts_of.Given as goal

abbrev pub invariant-loop-name : goal.invariant-loop-name
invariant-loop-name l = l.texts ≡ distinct_from [] (take l.name-index l.names)
