use Rattle.std.proofs.Common.{◌≡◌, drop}
use Rattle.smt_models.specs.Values.{value_named}
use Rattle.smt_models.proofs.values.value_named.Given as goal

abbrev pub invariant-loop-value : goal.invariant-loop-value
invariant-loop-value l = value_named (drop l.value-index l.values) l.name ≡ value_named l.values l.name
