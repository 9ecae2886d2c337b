use Rattle.std.proofs.Common.{◌<◌, [], length}
use Rattle.pri_reader.specs.MachineStates.{a_brace, a_name, for_set}
use Rattle.pri_reader.specs.declared.classes.Heading.TheVariants as h
use Rattle.pri_reader.specs.BlockReading.{PassesStates}
use Rattle.pri_reader.proofs.interpolant.interpolant.Given as goal

abbrev pub invariant-sets : goal.invariant-sets
invariant-sets l = record {
  leads : PassesStates l.bytes l.tokens (λ blocks. a_brace h.Interpolant l.at blocks) l.inner (λ blocks. a_name (for_set l.at l.sets l.start blocks) []);
  shorter : length l.inner < length l.tokens;
}

abbrev pub decreases-sets : goal.decreases-sets
decreases-sets l = length l.inner
