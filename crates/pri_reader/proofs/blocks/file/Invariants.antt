use Rattle.std.proofs.Common.{◌≡◌, ◌≤◌, length}
use Rattle.pri_reader.specs.Grammar.{has_problem}
use Rattle.pri_reader.proofs.FileBlocks.{Blocked}
use Rattle.pri_reader.proofs.blocks.file.Given as goal

abbrev pub invariant-each : goal.invariant-each
invariant-each l = record {
  leads : Blocked l.bytes l.tokens l.inner l.blocks;
  has : has_problem l.blocks ≡ l.problem;
  shorter : length l.inner ≤ length l.tokens;
}

abbrev pub decreases-each : goal.decreases-each
decreases-each l = length l.inner
