use Rattle.std.proofs.Common.{◌≡◌, replicate}
use Rattle.smt_sizes.specs.Weight.{nothing}
use Rattle.smt_sizes.proofs.walking.blank.Given as goal

abbrev pub invariant-loop : goal.invariant-loop
invariant-loop l = (l.all.uses.items ≡ replicate l.counter nothing) × (l.all.constant ≡ nothing)
