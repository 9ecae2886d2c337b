use Rattle.std.proofs.Common.{◌≡◌, [], drop, length}
use Rattle.smt_lists.specs.Machine.{run, run_in}
use Rattle.smt_lists.proofs.reading.read.Given as goal

abbrev pub invariant-loop-token : goal.invariant-loop-token
invariant-loop-token l = run_in l.bytes (length l.bytes) (drop l.token-index l.tokens) l.state ≡ run l.bytes 200 (length l.bytes) l.tokens [] []
