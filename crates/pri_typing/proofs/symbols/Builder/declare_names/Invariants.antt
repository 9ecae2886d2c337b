use Rattle.std.proofs.Common.{map, take}
use Rattle.pri_typing.specs.Scope.{declaration}
use Rattle.pri_typing.specs.Symbols.{Extends}
use Rattle.pri_typing.proofs.symbols.Builder.declare_names.Given as goal

abbrev pub invariant-loop-constant : goal.invariant-loop-constant
invariant-loop-constant l = Extends l.initial.self l.self (map (λ n. declaration l.kind n.name) (take l.constant-index l.names))
