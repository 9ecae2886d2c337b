use Rattle.std.proofs.Common.{◌≡◌, ◌++◌, ◌-◌, ◌^◌, drop}
use Rattle.sequent.specs.Rules.{new_members}
use Rattle.formula.specs.Shifts.{AreBelow}
use Rattle.formula.specs.Tree.{forms_of}
use Rattle.sequent.specs.Views.{members_of}
use Rattle.sequent.proofs.alpha.many.Given as goal

abbrev pub invariant-loop-f : goal.invariant-loop-f
invariant-loop-f l = (members_of l.out ++ new_members l.over l.count (forms_of (drop l.f-index l.formulas)) ≡ new_members l.over l.count (forms_of l.formulas)) × AreBelow (2 ^ 32 - (l.count - l.over)) (forms_of (drop l.f-index l.formulas))
