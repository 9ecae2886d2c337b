use Rattle.std.proofs.Common.{◌≡◌, drop}
use Rattle.form_naming.specs.Naming as naming
use Rattle.formula.specs.Tree.{forms_of}
use Rattle.form_naming.proofs.finding.+application.Given as goal

abbrev pub invariant-application_in-loop-f : goal.invariant-application_in-loop-f
invariant-application_in-loop-f l = naming.application_in l.n (forms_of (drop l.f-index l.formulas)) ≡ naming.application_in l.n (forms_of l.formulas)
