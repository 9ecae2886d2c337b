use Rattle.std.proofs.Common.{◌≤◌, length}
use Rattle.pri_reader.proofs.ConstantLines.{LeadsNames}
use Rattle.pri_reader.proofs.constants.names_of_type.Given as goal

abbrev pub invariant-names : goal.invariant-names
invariant-names l = record {
  leads : LeadsNames l.bytes l.sort l.names l.tokens l.inner;
  shorter : length l.inner ≤ length l.tokens;
}

abbrev pub decreases-names : goal.decreases-names
decreases-names l = length l.inner
