use Rattle.std.proofs.Common.{ap, ◌∙◌}
use Rattle.pri_typing.specs.Phrase.{phrase}
use Rattle.pri_typing.specs.Scope.{declarations}
use Rattle.pri_typing.specs.Typing.{value}
use Rattle.pri_typing.proofs.ConstantTerms.{no_fault, scope_is}
use Rattle.pri_typing.proofs.constant_terms.resolve_term.Goals as goal

pub returns : goal.returns
returns c =
    let p = phrase c.args.expr.now in
    let same = scope_is c.args.constants.now c.in_ok-symbols.symbols c.new-parts.result (c.in_ok-symbols.ensures ∙ ap declarations c.as_slice.ensures ∙ c.in_ok-blocks.ensures) c.new-parts.ensures in
    record {
      faultless = no_fault c.args.constants.now c.in_ok-symbols.symbols c.new-parts.result p c.fault.result same c.fault.ensures c.in-None.is;
      is = c.in_ok-build_term-in-None.ensures ∙ ap (λ z. value z p) same;
    }
