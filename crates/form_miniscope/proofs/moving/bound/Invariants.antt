use Rattle.std.proofs.Common.{◌≡◌, drop, map}
use Rattle.formula.specs.Tree.{form, forms_of}
use Rattle.form_miniscope.specs.Miniscope as specs
use Rattle.form_miniscope.proofs.Members.{before}
use Rattle.form_miniscope.proofs.moving.bound.Given as goal

abbrev pub invariant-loop-f : goal.invariant-loop-f
invariant-loop-f l = before (map form l.out) (specs.bound l.n (forms_of (drop l.f-index l.formulas))) ≡ specs.bound l.n (forms_of l.formulas)
