use Rattle.std.proofs.Common.{◌≡◌, drop, map}
use Rattle.formula.specs.Tree.{form, forms_of}
use Rattle.form_miniscope.specs.Miniscope as specs
use Rattle.form_miniscope.proofs.Members.{before}
use Rattle.form_miniscope.proofs.moving.+every.Given as goal

abbrev pub invariant-all_every-loop-f : goal.invariant-all_every-loop-f
invariant-all_every-loop-f l = before (map form l.out) (specs.all_every l.n (forms_of (drop l.f-index l.formulas))) ≡ specs.all_every l.n (forms_of l.formulas)
