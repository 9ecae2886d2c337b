-- Between two pieces the name is begun and unbroken, what is held and what is left make its bytes, and no more is held than may be.
use Rattle.std.proofs.Common.{◌≡◌, ℕ, ◌-◌, ◌≤◌, ◌++◌, List, [], ◌∷◌, Some, false, min, vec_len}
use Rattle.prover_io.specs.Outside.{GrowsAtMost}
use Rattle.prover_io.proofs.Reading.{ReadSoFar}
use Rattle.prover_io.proofs.whole.read_all.Given as goal

abbrev pub invariant-loop-bytes : goal.invariant-loop-bytes
invariant-loop-bytes g l = record {
  so_far : ReadSoFar (g.S.Source.bytes_of l.fn.source l.name) (g.S.Source.left l.source) l.bytes.items;
  named : g.S.Source.at l.source ≡ Some l.name;
  unbroken : g.S.Source.broken l.source ≡ false;
  later : g.S.Source.faults l.fn.source ≤ g.S.Source.faults l.source;
  same : (n : List ℕ) → g.S.Source.bytes_of l.source n ≡ g.S.Source.bytes_of l.fn.source n;
  listed : g.S.Source.names l.source ≡ g.S.Source.names l.fn.source ++ l.name ∷ [];
  moved : GrowsAtMost (g.S.Source.moved l.fn.source) (g.S.Source.moved l.source) (vec_len l.bytes);
  within : vec_len l.bytes ≤ l.limit;
  buffer : vec_len l.buffer ≡ min l.limit 65536;
}

abbrev pub decreases-loop-bytes : goal.decreases-loop-bytes
decreases-loop-bytes g l = l.limit - vec_len l.bytes
