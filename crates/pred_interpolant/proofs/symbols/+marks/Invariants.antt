use Rattle.std.proofs.Common.{◌≡◌, drop}
use Rattle.form_typed.specs.Formula.{expressions_of, formulas_of}
use Rattle.itp_sides.specs.Symbols.{symbols_in_all, symbols_in_terms}
use Rattle.pred_interpolant.specs.Marks.{noted}
use Rattle.pred_interpolant.proofs.symbols.+marks.Given as goal

abbrev pub invariant-mark_formulas-loop-f : goal.invariant-mark_formulas-loop-f
invariant-mark_formulas-loop-f l = noted l.marks (symbols_in_all (formulas_of (drop l.f-index l.formulas))) ≡ noted l.fn.marks (symbols_in_all (formulas_of l.formulas))

abbrev pub invariant-mark_terms-loop-t : goal.invariant-mark_terms-loop-t
invariant-mark_terms-loop-t l = noted l.marks (symbols_in_terms (expressions_of (drop l.t-index l.terms))) ≡ noted l.fn.marks (symbols_in_terms (expressions_of l.terms))
