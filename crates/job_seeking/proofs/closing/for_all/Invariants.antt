use Rattle.std.proofs.Common.{◌≡◌}
use Rattle.form_encoding.specs.Root.{all_last}
use Rattle.formula.specs.Tree.{form}
use Rattle.job_seeking.proofs.closing.for_all.Given as goal

abbrev pub invariant-loop : goal.invariant-loop
invariant-loop l = form l.all ≡ all_last l.counter (form l.fn.f)
