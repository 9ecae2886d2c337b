use Rattle.std.proofs.Common.{◌≡◌, ◌++◌, drop}
use Rattle.std.specs.List.{flat_map}
use Rattle.smt_models.specs.Models.{constant_definitions, definition_text}
use Rattle.smt_models.proofs.models.put_constants.Given as goal

abbrev pub invariant-loop-i : goal.invariant-loop-i
invariant-loop-i l = l.out.items ++ flat_map definition_text (constant_definitions (drop l.i l.names) (drop l.i l.values))
    ≡ l.fn.out.items ++ flat_map definition_text (constant_definitions l.names l.values)
