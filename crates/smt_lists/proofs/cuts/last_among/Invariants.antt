use Rattle.std.proofs.Common.{◌≡◌, ◌<◌, ◌⊎◌, length}
use Rattle.smt_lists.specs.Cuts.{cut_from, is_within}
use Rattle.smt_lists.proofs.cuts.last_among.Given as goal

abbrev pub invariant-loop-token : goal.invariant-loop-token
invariant-loop-token l = (cut_from (is_within l.bytes l.place) l.depth l.found l.rest ≡ cut_from (is_within l.bytes l.place) 0 0 l.tokens) × ((l.found < length l.bytes) ⊎ (l.found ≡ 0))

abbrev pub decreases-loop-token : goal.decreases-loop-token
decreases-loop-token l = length l.rest
