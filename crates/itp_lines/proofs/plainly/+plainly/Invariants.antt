use Rattle.std.proofs.Common.{◌≡◌, drop}
use Rattle.std.specs.List.{list_any}
use Rattle.form_typed.specs.Formula.{formulas_of}
use Rattle.pri_typing.specs.Problems.{is_plainly_true}
use Rattle.pri_typing.specs.WellFormed.{all_formula_components}
use Rattle.itp_lines.proofs.plainly.+plainly.Given as goal

abbrev pub invariant-have_plain-loop-f : goal.invariant-have_plain-loop-f
invariant-have_plain-loop-f l = list_any is_plainly_true (all_formula_components l.plus (formulas_of l.formulas))
    ≡ list_any is_plainly_true (all_formula_components l.plus (formulas_of (drop l.f-index l.formulas)))
