use Rattle.std.proofs.Common.{◌≡◌, ◌+◌, ◌-◌, ◌<◌, ◌^◌, min, drop}
use Rattle.formula.specs.Sizes.{sizes}
use Rattle.formula.specs.Tree.{forms_of}
use Rattle.formula.proofs.measures.+size.Given as goal

abbrev pub invariant-sizes-loop-f : goal.invariant-sizes-loop-f
invariant-sizes-loop-f l = (l.sum < 2 ^ 64) × (min (l.sum + sizes (forms_of (drop l.f-index l.formulas))) (2 ^ 64 - 1) ≡ min (sizes (forms_of l.formulas)) (2 ^ 64 - 1))
