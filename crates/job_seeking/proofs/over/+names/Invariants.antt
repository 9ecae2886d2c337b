use Rattle.std.proofs.Common.{◌≡◌, true, drop}
use Rattle.formula.specs.Tree.{forms_of}
use Rattle.job_seeking.specs.Over.{are_forms_over}
use Rattle.job_seeking.proofs.over.+names.Given as goal

abbrev pub invariant-forms_over-loop-f : goal.invariant-forms_over-loop-f
invariant-forms_over-loop-f l = are_forms_over l.n (forms_of (drop l.f-index l.formulas)) ≡ true → are_forms_over l.n (forms_of l.formulas) ≡ true
