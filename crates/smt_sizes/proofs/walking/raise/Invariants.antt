use Rattle.std.proofs.Common.{◌≡◌, ◌-◌, List}
use Rattle.smt_sizes.specs.declared.weight.Weight.{Weight}
use Rattle.smt_sizes.specs.Weight.{plus, times}
use Rattle.smt_sizes.specs.Linear.{sum, value}
use Rattle.smt_sizes.specs.Shapes.{raised}
use Rattle.smt_sizes.proofs.walking.raise.Given as goal

abbrev pub invariant-loop-i : goal.invariant-loop-i
invariant-loop-i l = (l.out.uses.items ≡ l.fn.all.uses.items)
    × ((a : Weight) (xs : List Weight) → plus (value (sum l.out) xs) (times l.here (raised (l.count - l.i) a)) ≡ plus (value (sum l.fn.all) xs) (times l.fn.weight (raised l.count a)))
