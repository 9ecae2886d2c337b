use Rattle.std.proofs.Common.{◌≡◌, drop, map}
use Rattle.pri_typing.specs.declared.problem.Symbol.{Symbol}
use Rattle.base_texts.specs.Texts.{is_among}
use Rattle.pri_printer.proofs.quotient.is_symbol.Given as goal

abbrev pub invariant-loop-symbol : goal.invariant-loop-symbol
invariant-loop-symbol l = is_among l.name (map (λ (y : Symbol). y.name) (drop l.symbol-index l.symbols)) ≡ is_among l.name (map (λ (y : Symbol). y.name) l.symbols)
