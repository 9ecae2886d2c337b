use Rattle.std.proofs.Common.{◌≡◌, ◌++◌, drop}
use Rattle.std.specs.List.{flat_map}
use Rattle.smt_models.specs.Models.{predicate_definitions, definition_text}
use Rattle.smt_models.proofs.models.put_predicates.Given as goal

abbrev pub invariant-loop-i : goal.invariant-loop-i
invariant-loop-i l = l.out.items ++ flat_map definition_text (predicate_definitions (drop l.i l.symbols) (drop l.i l.tables))
    ≡ l.fn.out.items ++ flat_map definition_text (predicate_definitions l.symbols l.tables)
