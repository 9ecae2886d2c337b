use Rattle.std.proofs.Common.{◌≡◌, take}
use Rattle.formula.proofs.+copy.Given as goal

abbrev pub invariant-copying::copy_all-loop-f : goal.invariant-copying::copy_all-loop-f
invariant-copying::copy_all-loop-f l = l.out ≡ take l.f-index l.formulas
