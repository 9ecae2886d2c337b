use Rattle.std.proofs.Common.{◌≡◌, ℕ, ◌≤◌, length}
use Rattle.smt_writing.specs.Layers.{AreLayered, Extends}
use Rattle.smt_writing.specs.Places.{place_height, place_said}
use Rattle.smt_writing.proofs.places.follow.Given as goal

abbrev pub invariant-loop-next : goal.invariant-loop-next
invariant-loop-next l = AreLayered l.layers.items × Extends l.fn.layers.items l.layers.items × (l.place.layer ≤ length l.layers.items)
    × ((m : ℕ) → place_said l.layers.items l.place m ≡ place_said l.fn.layers.items l.fn.start m)
    × (place_height l.layers.items l.place ≤ place_height l.fn.layers.items l.fn.start)

abbrev pub decreases-loop-next : goal.decreases-loop-next
decreases-loop-next l = place_height l.layers.items l.place
