-- What it means that something was written too.
use Rattle.std.specs.Prelude.{◌≡◌, Bool, List, length}
use Rattle.smt_sizes.specs.declared.weight.Weight.{Weight}
use Rattle.smt_sizes.specs.declared.linear.Linear.{Linear}
use Rattle.smt_sizes.specs.Weight.{plus}
use Rattle.smt_sizes.specs.Weights.{Weighed}
use Rattle.smt_sizes.specs.Linear.{sum, value, kinds, weights}

-- What is written is more by W, whatever replaces the bound names of these kinds.
unfoldable pub AddsWeight : List Bool → Linear → Linear → (List Weighed → Weight) → Type 0
AddsWeight bs f g W = (length g.uses.items ≡ length f.uses.items)
    × ((ws : List Weighed) → bs ≡ kinds ws → length f.uses.items ≡ length ws → value (sum g) (weights ws) ≡ plus (value (sum f) (weights ws)) (W ws))
