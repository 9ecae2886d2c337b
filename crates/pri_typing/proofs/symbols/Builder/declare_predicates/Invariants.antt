use Rattle.std.proofs.Common.{map, take}
use Rattle.pri_typing.specs.declared.declaration.Kind.TheVariants.{Predicate}
use Rattle.pri_typing.specs.Scope.{declaration}
use Rattle.pri_typing.specs.Symbols.{Extends}
use Rattle.pri_typing.proofs.symbols.Builder.declare_predicates.Given as goal

abbrev pub invariant-loop-item : goal.invariant-loop-item
invariant-loop-item l = Extends l.initial.self l.self (map (λ i. declaration (Predicate i.arity) i.name) (take l.item-index l.items))
