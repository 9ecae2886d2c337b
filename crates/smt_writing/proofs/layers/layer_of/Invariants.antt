use Rattle.std.proofs.Common.{◌≡◌, ◌≤◌, length, get_or}
use Rattle.smt_names.specs.Saying.{nothing}
use Rattle.smt_writing.specs.Layers.{heights_at, names_at}
use Rattle.smt_writing.proofs.layers.layer_of.Given as goal

abbrev pub invariant-loop-at : goal.invariant-loop-at
invariant-loop-at l = (l.at ≤ length l.layers)
    × (get_or (names_at l.layers l.at) l.k nothing ≡ get_or (names_at l.layers l.place) l.k nothing)
    × (get_or (heights_at l.layers l.at) l.k 0 ≡ get_or (heights_at l.layers l.place) l.k 0)

abbrev pub decreases-loop-at : goal.decreases-loop-at
decreases-loop-at l = l.at
