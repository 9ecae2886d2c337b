use Rattle.std.proofs.Common.{◌≡◌, take}
use Rattle.std.specs.List.{flat_map}
use Rattle.pri_typing.specs.Parts.{cuts_in}
use Rattle.pri_typing.proofs.cuts.cuts.Given as goal

abbrev pub invariant-loop-block : goal.invariant-loop-block
invariant-loop-block l = l.out ≡ flat_map (cuts_in l.parts) (take l.block-index l.blocks)
