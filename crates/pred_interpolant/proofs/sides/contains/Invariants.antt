use Rattle.std.proofs.Common.{◌≡◌, nat_eq, drop}
use Rattle.std.specs.List.{list_any}
use Rattle.pred_interpolant.proofs.sides.contains.Given as goal

abbrev pub invariant-loop-x : goal.invariant-loop-x
invariant-loop-x l = list_any (nat_eq l.k) l.set ≡ list_any (nat_eq l.k) (drop l.x-index l.set)
