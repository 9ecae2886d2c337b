use Rattle.std.proofs.Common.{◌≡◌, ◌++◌, drop}
use Rattle.smt_shorthand.specs.Table.{kept}
use Rattle.smt_shorthand.proofs.table.kept.Given as goal

abbrev pub invariant-loop-sort : goal.invariant-loop-sort
invariant-loop-sort l = l.out ++ kept l.level (drop l.sort-index l.sorts) ≡ kept l.level l.sorts
