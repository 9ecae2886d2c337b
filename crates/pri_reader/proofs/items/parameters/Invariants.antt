use Rattle.std.proofs.Common.{◌≤◌, ◌+◌, length}
use Rattle.pri_reader.specs.MachineStates.{ItemsFor, a_parameter}
use Rattle.pri_reader.specs.declared.tree.Name.{Name}
use Rattle.pri_reader.specs.BlockReading.{PassesStates}
use Rattle.pri_reader.proofs.items.parameters.Given as goal

abbrev pub invariant-parameters : goal.invariant-parameters
invariant-parameters l = record {
  leads : PassesStates l.bytes l.tokens (λ (p : ItemsFor × Name). a_parameter p.0 p.1 0) l.inner (λ (p : ItemsFor × Name). a_parameter p.0 p.1 l.count);
  counted : l.count + length l.inner ≤ length l.tokens;
}

abbrev pub decreases-parameters : goal.decreases-parameters
decreases-parameters l = length l.inner
