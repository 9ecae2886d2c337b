use Rattle.std.proofs.Common.{◌≡◌, drop}
use Rattle.form_typed.specs.Formula.{expressions_of, formulas_of}
use Rattle.form_encoding.specs.Occurrences.{names_in_all, names_in_terms}
use Rattle.function_encoding.specs.Marks.{marked}
use Rattle.function_encoding.proofs.marks.+marks.Given as goal

abbrev pub invariant-mark_formulas-loop-f : goal.invariant-mark_formulas-loop-f
invariant-mark_formulas-loop-f l = marked l.marks (names_in_all (formulas_of (drop l.f-index l.formulas))) ≡ marked l.fn.marks (names_in_all (formulas_of l.formulas))

abbrev pub invariant-mark_terms-loop-t : goal.invariant-mark_terms-loop-t
invariant-mark_terms-loop-t l = marked l.marks (names_in_terms (expressions_of (drop l.t-index l.terms))) ≡ marked l.fn.marks (names_in_terms (expressions_of l.terms))
