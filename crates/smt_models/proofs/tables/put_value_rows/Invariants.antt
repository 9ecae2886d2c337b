use Rattle.std.proofs.Common.{◌≡◌, ◌++◌, drop}
use Rattle.std.specs.List.{flat_map}
use Rattle.smt_models.specs.Rows.{value_row_text}
use Rattle.smt_models.proofs.tables.put_value_rows.Given as goal

abbrev pub invariant-loop-row : goal.invariant-loop-row
invariant-loop-row l = l.out.items ++ flat_map value_row_text (drop l.row-index l.rows) ≡ l.fn.out.items ++ flat_map value_row_text l.rows
