use Rattle.std.proofs.Common.{◌≡◌, false, drop, map}
use Rattle.formula.specs.Tree.{form, forms_of}
use Rattle.form_miniscope.specs.Lowering as lowering
use Rattle.form_miniscope.proofs.Members.{before}
use Rattle.form_miniscope.proofs.freeing.+freeing.Given as goal

abbrev pub invariant-all_freed-loop-f : goal.invariant-all_freed-loop-f
invariant-all_freed-loop-f l = record {
  is : before (map form l.out) (lowering.all_freed l.n (forms_of (drop l.f-index l.formulas))) ≡ lowering.all_freed l.n (forms_of l.formulas);
  free : lowering.occurs_in l.n (forms_of (drop l.f-index l.formulas)) ≡ false;
}
