use Rattle.std.proofs.Common.{◌≡◌, drop}
use Rattle.std.specs.List.{list_all}
use Rattle.smt_models.specs.Values.{has_value}
use Rattle.smt_models.proofs.values.have_values.Given as goal

abbrev pub invariant-loop-name : goal.invariant-loop-name
invariant-loop-name l = list_all (has_value l.values) (drop l.name-index l.names) ≡ list_all (has_value l.values) l.names
