use Rattle.std.proofs.Common.{◌≡◌, drop}
use Rattle.search.specs.Trues.{are_top}
use Rattle.search.proofs.constraints.all_true.Given as goal

abbrev pub invariant-loop-d : goal.invariant-loop-d
invariant-loop-d l = are_top (drop l.d-index l.ds) ≡ are_top l.ds
