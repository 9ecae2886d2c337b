use Rattle.std.proofs.Common.{◌≡◌, map, take, drop, ◌^◌, ◌-◌}
use Rattle.formula.specs.Shifts.{shifted, AreBelow}
use Rattle.formula.specs.Tree.{form, forms_of}
use Rattle.formula.proofs.shifting.+shift.Given as goal

abbrev pub invariant-shift_all-loop-f : goal.invariant-shift_all-loop-f
invariant-shift_all-loop-f l = (map form l.out ≡ map (λ f. shifted l.from l.by (form f)) (take l.f-index l.formulas)) × AreBelow (2 ^ 32 - l.by) (forms_of (drop l.f-index l.formulas))
