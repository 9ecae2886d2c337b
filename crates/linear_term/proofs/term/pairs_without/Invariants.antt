use Rattle.std.proofs.Common.{◌≡◌, ℕ, not, nat_eq, take}
use Rattle.std.specs.List.{filter}
use lib.IntN.{ℤ}
use Rattle.linear_term.proofs.term.pairs_without.Given as goal

abbrev pub invariant-loop-pair : goal.invariant-loop-pair
invariant-loop-pair l = l.kept.items ≡ filter (λ (p : ℕ × ℤ). not (nat_eq p.0 l.x)) (take l.pair-index l.pairs)
