use Rattle.std.proofs.Common.{take}
use Rattle.pri_typing.specs.Scope.{declarations}
use Rattle.pri_typing.specs.Symbols.{Extends}
use Rattle.pri_typing.proofs.symbols.Builder.declare_blocks.Given as goal

abbrev pub invariant-loop-block : goal.invariant-loop-block
invariant-loop-block l = Extends l.initial.self l.self (declarations (take l.block-index l.blocks))
