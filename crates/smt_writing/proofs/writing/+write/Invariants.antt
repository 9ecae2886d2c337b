use Rattle.std.proofs.Common.{◌≡◌, ◌+◌, ◌*◌, map, take}
use Rattle.smt_names.specs.Body.{shape}
use Rattle.smt_names.specs.Saying.{calls_of, shape_said}
use Rattle.smt_writing.specs.Heights.{costs_of, height, with_zeros}
use Rattle.smt_writing.specs.Layers.{heights_at, names_at}
use Rattle.smt_writing.specs.Places.{head_height, place_height, places_height}
use Rattle.smt_writing.specs.Written.{written}
use Rattle.smt_writing.proofs.writing.+write.Given as goal

abbrev pub decreases-write : goal.decreases-write
decreases-write l = 3 * place_height l.layers.now.items l.place

abbrev pub decreases-write_all : goal.decreases-write_all
decreases-write_all l = 3 * places_height l.layers.now.items l.places

abbrev pub decreases-write_head : goal.decreases-write_head
decreases-write_head l = 3 * head_height l.layers.now.items l.head + 2

abbrev pub decreases-write_inside : goal.decreases-write_inside
decreases-write_inside l = 3 * height (costs_of l.place.definitions.now) (with_zeros l.count (heights_at l.layers.now.items l.place.layer)) (shape l.place.body.now) + 1

abbrev pub invariant-write_all-loop-body : goal.invariant-write_all-loop-body
invariant-write_all-loop-body l = (l.layers.items ≡ l.fn.layers.items)
    × (map written l.out.items ≡ map (λ b. shape_said (calls_of l.places.definitions.now) (names_at l.fn.layers.items l.places.layer) (shape b) l.depth) (take l.body-index l.places.bodies.now))
