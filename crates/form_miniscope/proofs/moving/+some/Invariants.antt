use Rattle.std.proofs.Common.{◌≡◌, drop, map}
use Rattle.formula.specs.Tree.{form, forms_of}
use Rattle.form_miniscope.specs.Miniscope as specs
use Rattle.form_miniscope.proofs.Members.{before}
use Rattle.form_miniscope.proofs.moving.+some.Given as goal

abbrev pub invariant-all_some-loop-f : goal.invariant-all_some-loop-f
invariant-all_some-loop-f l = before (map form l.out) (specs.all_some l.n (forms_of (drop l.f-index l.formulas))) ≡ specs.all_some l.n (forms_of l.formulas)
