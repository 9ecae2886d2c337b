use Rattle.std.proofs.Common.{◌≡◌, false, replicate}
use Rattle.smt_sizes.proofs.forms.terms.Given as goal

abbrev pub invariant-loop : goal.invariant-loop
invariant-loop l = l.out.items ≡ replicate l.counter false
