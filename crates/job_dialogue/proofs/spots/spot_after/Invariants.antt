use Rattle.std.proofs.Common.{◌≡◌, take}
use Rattle.job_dialogue.specs.Spots.{spot_after}
use Rattle.job_dialogue.proofs.spots.spot_after.Given as goal

abbrev pub invariant-loop-byte : goal.invariant-loop-byte
invariant-loop-byte l = l.spot ≡ spot_after l.fn.from (take l.byte-index l.bytes)
