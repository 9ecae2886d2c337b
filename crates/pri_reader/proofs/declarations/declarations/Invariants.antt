use Rattle.std.proofs.Common.{◌<◌, length}
use Rattle.pri_reader.specs.MachineStates.{a_brace, an_item_line}
use Rattle.pri_reader.specs.Machine.{items_for}
use Rattle.pri_reader.specs.declared.classes.Heading.TheVariants as h
use Rattle.pri_reader.specs.BlockReading.{PassesStates}
use Rattle.pri_reader.proofs.declarations.declarations.Given as goal

abbrev pub invariant-lines : goal.invariant-lines
invariant-lines l = record {
  leads : PassesStates l.bytes l.tokens (λ blocks. a_brace (h.Items l.typed) l.at blocks) l.inner (λ blocks. an_item_line (items_for l.typed l.at l.all blocks));
  shorter : length l.inner < length l.tokens;
}

abbrev pub decreases-lines : goal.decreases-lines
decreases-lines l = length l.inner
