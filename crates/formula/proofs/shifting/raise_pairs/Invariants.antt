use Rattle.std.proofs.Common.{◌≡◌, ℕ, ℤ, map, take}
use Rattle.formula.specs.Shifts.{raised_name}
use Rattle.formula.proofs.shifting.raise_pairs.Given as goal

abbrev pub invariant-loop-pair : goal.invariant-loop-pair
invariant-loop-pair l = l.pairs.items ≡ map (λ (p : ℕ × ℤ). (raised_name l.from l.by p.0, p.1)) (take l.pair-index l.t.pairs)
