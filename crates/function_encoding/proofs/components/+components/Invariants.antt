use Rattle.std.proofs.Common.{◌≡◌, ◌++◌, drop}
use Rattle.std.specs.List.{filter}
use Rattle.form_typed.specs.Formula.{formulas_of}
use Rattle.pri_typing.specs.WellFormed.{all_formula_components}
use Rattle.function_encoding.specs.Encoded.{all_signed, is_in}
use Rattle.function_encoding.proofs.components.+components.Given as goal

abbrev pub invariant-collect_all-loop-f : goal.invariant-collect_all-loop-f
invariant-collect_all-loop-f l = all_signed l.out ++ filter (is_in l.set) (all_formula_components l.plus (formulas_of (drop l.f-index l.formulas)))
    ≡ all_signed l.fn.out ++ filter (is_in l.set) (all_formula_components l.plus (formulas_of l.formulas))
