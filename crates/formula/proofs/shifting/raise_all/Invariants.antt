use Rattle.std.proofs.Common.{◌≡◌, map, take}
use Rattle.formula.specs.Shifts.{raised}
use Rattle.formula.proofs.shifting.raise_all.Given as goal

abbrev pub invariant-loop-t : goal.invariant-loop-t
invariant-loop-t l = l.out ≡ map (raised l.from l.by) (take l.t-index l.terms)
