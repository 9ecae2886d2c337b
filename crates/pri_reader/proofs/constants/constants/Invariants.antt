use Rattle.std.proofs.Common.{◌<◌, length}
use Rattle.pri_reader.specs.MachineStates.{a_brace, a_line}
use Rattle.pri_reader.specs.declared.classes.Heading.TheVariants as h
use Rattle.pri_reader.specs.BlockReading.{PassesStates}
use Rattle.pri_reader.proofs.constants.constants.Given as goal

abbrev pub invariant-lines : goal.invariant-lines
invariant-lines l = record {
  leads : PassesStates l.bytes l.tokens (λ blocks. a_brace (h.Constants l.universal) l.at blocks) l.inner (λ blocks. a_line l.universal l.at l.all blocks);
  shorter : length l.inner < length l.tokens;
}

abbrev pub decreases-lines : goal.decreases-lines
decreases-lines l = length l.inner
