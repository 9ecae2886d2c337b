use Rattle.std.proofs.Common.{◌≡◌, take}
use Rattle.std.specs.List.{flat_map}
use Rattle.pri_typing.specs.Faults.{least}
use Rattle.pri_typing.specs.Parts.{block_faults}
use Rattle.pri_typing.proofs.parts.blocks_fault.Given as goal

abbrev pub invariant-loop-block : goal.invariant-loop-block
invariant-loop-block l = l.fault ≡ least (flat_map (block_faults l.parts l.existential) (take l.block-index l.blocks))
