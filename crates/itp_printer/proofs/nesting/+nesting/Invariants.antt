use Rattle.std.proofs.Common.{◌≡◌, drop, max}
use Rattle.form_typed.specs.Formula.{expressions_of, formulas_of}
use Rattle.itp_printer.specs.Numbers.{all_nesting, terms_nesting}
use Rattle.itp_printer.proofs.nesting.+nesting.Given as goal

abbrev pub invariant-all_nesting-loop-f : goal.invariant-all_nesting-loop-f
invariant-all_nesting-loop-f l = max l.most (all_nesting (formulas_of (drop l.f-index l.formulas))) ≡ all_nesting (formulas_of l.formulas)

abbrev pub invariant-terms_nesting-loop-t : goal.invariant-terms_nesting-loop-t
invariant-terms_nesting-loop-t l = max l.most (terms_nesting (expressions_of (drop l.t-index l.terms))) ≡ terms_nesting (expressions_of l.terms)
