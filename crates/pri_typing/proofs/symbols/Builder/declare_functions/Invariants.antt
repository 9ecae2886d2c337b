use Rattle.std.proofs.Common.{map, take}
use Rattle.pri_typing.specs.Scope.{declaration, function_kind}
use Rattle.pri_typing.specs.Symbols.{Extends}
use Rattle.pri_typing.proofs.symbols.Builder.declare_functions.Given as goal

abbrev pub invariant-loop-item : goal.invariant-loop-item
invariant-loop-item l = Extends l.initial.self l.self (map (λ i. declaration (function_kind i.arity) i.name) (take l.item-index l.items))
