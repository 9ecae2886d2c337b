use Rattle.std.proofs.Common.{◌∙◌, sym, ap, arith}
use Rattle.smt_terms.specs.Term.{phrases_of}
use Rattle.smt_typing.specs.Faults.{are_numerals, is_sign}
use Rattle.smt_typing.proofs.Products.{numeral_use}
use Rattle.smt_typing.proofs.numerals.+numerals.Goals as goal

pub is_numeral-returns-else-len-eq0 : goal.is_numeral-returns-else-len-eq0
is_numeral-returns-else-len-eq0 t c =
    numeral_use c.args.term.now c.in-Use.field-0 c.in-Use.name c.in-Use.arguments c.are_numerals.result c.in-Use.is (ap is_sign (sym c.as_slice.ensures) ∙ sym c.is_sign.ensures ∙ c.if-not-is_sign.false) (omega arith)
    (c.are_numerals.ensures ∙ ap (λ z. are_numerals (phrases_of z)) c.as_slice-in-Use.ensures)
