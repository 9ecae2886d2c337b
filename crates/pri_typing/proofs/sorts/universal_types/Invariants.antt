use Rattle.std.proofs.Common.{◌≡◌, take}
use Rattle.std.specs.List.{flat_map}
use Rattle.pri_typing.specs.Sorts.{universal_sorts}
use Rattle.pri_typing.proofs.sorts.universal_types.Given as goal

abbrev pub invariant-loop-block : goal.invariant-loop-block
invariant-loop-block l = l.out ≡ flat_map universal_sorts (take l.block-index l.blocks)
