use Rattle.std.proofs.Common.{◌≡◌, drop}
use Rattle.form_typed.specs.Formula.{expressions_of}
use Rattle.job_least.specs.Plain.{are_plain}
use Rattle.job_least.proofs.plain.+plain.Given as goal

abbrev pub invariant-are_plain-loop-t : goal.invariant-are_plain-loop-t
invariant-are_plain-loop-t l = are_plain (expressions_of l.terms) ≡ are_plain (expressions_of (drop l.t-index l.terms))
