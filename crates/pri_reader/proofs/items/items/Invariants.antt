use Rattle.std.proofs.Common.{◌≤◌, length}
use Rattle.pri_reader.specs.MachineStates.{an_item}
use Rattle.pri_reader.specs.BlockReading.{PassesStates, with_items}
use Rattle.pri_reader.proofs.items.items.Given as goal

abbrev pub invariant-items : goal.invariant-items
invariant-items l = record {
  leads : PassesStates l.bytes l.tokens (λ i. an_item i) l.inner (λ i. an_item (with_items i l.items));
  shorter : length l.inner ≤ length l.tokens;
}

abbrev pub decreases-items : goal.decreases-items
decreases-items l = length l.inner
