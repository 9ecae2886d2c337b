use Rattle.std.proofs.Common.{◌≡◌, drop, map}
use Rattle.form_naming.specs.Naming as naming
use Rattle.formula.specs.Tree.{form, forms_of}
use Rattle.form_naming.proofs.Members.{before}
use Rattle.form_naming.proofs.renaming.+naming.Given as goal

abbrev pub invariant-all_named-loop-g : goal.invariant-all_named-loop-g
invariant-all_named-loop-g l = before (map form l.out) (naming.all_named l.n l.f l.ss (forms_of (drop l.g-index l.formulas))) ≡ naming.all_named l.n l.f l.ss (forms_of l.formulas)
