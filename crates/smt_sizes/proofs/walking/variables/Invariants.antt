use Rattle.std.proofs.Common.{◌≡◌, replicate}
use Rattle.smt_names.specs.declared.body.Body.TheVariants as b
use Rattle.smt_names.specs.declared.body.Leaf.TheVariants as leaf
use Rattle.smt_sizes.proofs.walking.variables.Given as goal

abbrev pub invariant-loop : goal.invariant-loop
invariant-loop l = l.out ≡ replicate l.counter (b.Leaf (leaf.Constant 0))
