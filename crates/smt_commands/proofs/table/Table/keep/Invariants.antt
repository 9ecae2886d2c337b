use Rattle.std.proofs.Common.{◌≡◌, length, take}
use Rattle.smt_commands.specs.Symbols.{declared_number}
use Rattle.smt_commands.proofs.table.Table.keep.Given as goal

abbrev pub invariant-loop-entries : goal.invariant-loop-entries
invariant-loop-entries l = record {
  first : take l.count l.entries ≡ take l.count l.initial.entries;
  counted : l.declared ≡ declared_number l.entries;
}

abbrev pub decreases-loop-entries : goal.decreases-loop-entries
decreases-loop-entries l = length l.entries
