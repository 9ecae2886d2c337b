use Rattle.std.proofs.Common.{◌≡◌, drop}
use Rattle.std.specs.List.{list_any}
use Rattle.pri_typing.specs.Parts.{is_cut}
use Rattle.pri_typing.proofs.parts.asks_cuts.Given as goal

abbrev pub invariant-loop-block : goal.invariant-loop-block
invariant-loop-block l = list_any is_cut (drop l.block-index l.blocks) ≡ list_any is_cut l.blocks
