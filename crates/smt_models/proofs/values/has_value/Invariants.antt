use Rattle.std.proofs.Common.{◌≡◌, drop}
use Rattle.smt_models.specs.Values.{has_value}
use Rattle.smt_models.proofs.values.has_value.Given as goal

abbrev pub invariant-loop-value : goal.invariant-loop-value
invariant-loop-value l = has_value (drop l.value-index l.values) l.name ≡ has_value l.values l.name
