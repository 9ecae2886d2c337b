use Rattle.std.proofs.Common.{◌≡◌, ◌++◌, drop}
use Rattle.std.specs.List.{flat_map}
use Rattle.smt_models.specs.Values.{further_pair}
use Rattle.smt_models.proofs.values.put_further.Given as goal

abbrev pub invariant-loop-name : goal.invariant-loop-name
invariant-loop-name l = l.out.items ++ flat_map (further_pair l.values) (drop l.name-index l.names) ≡ l.fn.out.items ++ flat_map (further_pair l.values) l.names
