use Rattle.std.proofs.Common.{◌≤◌, [], length}
use Rattle.pri_reader.specs.MachineStates.{a_name}
use Rattle.pri_reader.specs.BlockReading.{PassesStates}
use Rattle.pri_reader.proofs.names.names.Given as goal

abbrev pub invariant-names : goal.invariant-names
invariant-names l = record {
  leads : PassesStates l.bytes l.tokens (λ for. a_name for []) l.inner (λ for. a_name for l.names);
  shorter : length l.inner ≤ length l.tokens;
}

abbrev pub decreases-names : goal.decreases-names
decreases-names l = length l.inner
