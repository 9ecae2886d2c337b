use Rattle.std.proofs.Common.{◌≡◌, drop, map}
use Rattle.formula.specs.Tree.{form, forms_of}
use Rattle.form_miniscope.specs.Miniscope as specs
use Rattle.form_miniscope.proofs.Members.{before}
use Rattle.form_miniscope.proofs.moving.outer.Given as goal

abbrev pub invariant-loop-f : goal.invariant-loop-f
invariant-loop-f l = before (map form l.out) (specs.outer l.n (forms_of (drop l.f-index l.formulas))) ≡ specs.outer l.n (forms_of l.formulas)
