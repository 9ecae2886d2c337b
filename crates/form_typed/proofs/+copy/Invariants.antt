use Rattle.std.proofs.Common.{◌≡◌, take}
use Rattle.form_typed.proofs.+copy.Given as goal

abbrev pub invariant-copy::copy_formulas-loop-f : goal.invariant-copy::copy_formulas-loop-f
invariant-copy::copy_formulas-loop-f l = l.out ≡ take l.f-index l.formulas

abbrev pub invariant-copy::copy_terms-loop-t : goal.invariant-copy::copy_terms-loop-t
invariant-copy::copy_terms-loop-t l = l.out ≡ take l.t-index l.terms
