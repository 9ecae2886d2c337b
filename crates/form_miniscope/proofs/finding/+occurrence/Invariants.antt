use Rattle.std.proofs.Common.{◌≡◌, drop}
use Rattle.formula.specs.Tree.{forms_of}
use Rattle.form_miniscope.specs.Lowering as lowering
use Rattle.form_miniscope.proofs.finding.+occurrence.Given as goal

abbrev pub invariant-occurs_in-loop-f : goal.invariant-occurs_in-loop-f
invariant-occurs_in-loop-f l = lowering.occurs_in l.n (forms_of (drop l.f-index l.formulas)) ≡ lowering.occurs_in l.n (forms_of l.formulas)
