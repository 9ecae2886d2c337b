use Rattle.std.proofs.Common.{◌≡◌, take, ◌++◌}
use Rattle.pri_typing.specs.Sorts.{sorts_of}
use Rattle.pri_typing.proofs.sorts.push_names.Given as goal

abbrev pub invariant-loop-constant : goal.invariant-loop-constant
invariant-loop-constant l = l.out ≡ l.initial.out ++ sorts_of (take l.constant-index l.names)
