use Rattle.std.proofs.Common.{◌≡◌, drop}
use Rattle.form_naming.specs.Naming as naming
use Rattle.formula.specs.Tree.{forms_of}
use Rattle.form_naming.proofs.finding.+purity.Given as goal

abbrev pub invariant-are_pure_but-loop-f : goal.invariant-are_pure_but-loop-f
invariant-are_pure_but-loop-f l = naming.are_pure_but l.n (forms_of (drop l.f-index l.formulas)) ≡ naming.are_pure_but l.n (forms_of l.formulas)
