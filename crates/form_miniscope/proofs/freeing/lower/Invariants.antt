use Rattle.std.proofs.Common.{◌≡◌, ℕ, ℤ, map, take}
use Rattle.form_miniscope.specs.Lowering.{lowered_name}
use Rattle.form_miniscope.proofs.freeing.lower.Given as goal

abbrev pub invariant-loop-pair : goal.invariant-loop-pair
invariant-loop-pair l = l.pairs.items ≡ map (λ (p : ℕ × ℤ). (lowered_name l.n p.0, p.1)) (take l.pair-index l.t.pairs)
