use Rattle.std.proofs.Common.{◌≡◌, ◌+◌, ◌*◌, ◌≤◌, drop, map}
use Rattle.formula.specs.Sizes.{depth, depths}
use Rattle.formula.specs.Tree.{form, forms_of}
use Rattle.form_miniscope.specs.Miniscope as moving
use Rattle.form_miniscope.proofs.Members.{before}
use Rattle.form_miniscope.proofs.moving.+moving.Given as goal

abbrev pub decreases-miniscoped : goal.decreases-miniscoped
decreases-miniscoped l = 2 * depth (form l.f.now)

abbrev pub decreases-all_miniscoped : goal.decreases-all_miniscoped
decreases-all_miniscoped l = 2 * depths (forms_of l.formulas.now) + 1

abbrev pub invariant-all_miniscoped-loop-f : goal.invariant-all_miniscoped-loop-f
invariant-all_miniscoped-loop-f l = record {
  is : before (map form l.out) (moving.all_miniscoped l.n (forms_of (drop l.f-index l.formulas))) ≡ moving.all_miniscoped l.n (forms_of l.formulas);
  room : depths (forms_of (drop l.f-index l.formulas)) ≤ depths (forms_of l.formulas);
}
