-- The order of linear terms.
use Rattle.std.specs.Prelude.{ℕ, ℤ}
use Rattle.std.specs.Ordering.{nat_cmp, int_cmp, on, then_cmp}
use Rattle.std.specs.Cmp.Lexicographic.{slice_cmp}
use Rattle.std.specs.declared.cmp.Ordering.{Ordering}
use Rattle.linear_term.specs.Linear.{Linear}

-- pairs compare by name, then by coefficient
abbrev pub pair_cmp : (ℕ × ℤ) → (ℕ × ℤ) → Ordering
pair_cmp = then_cmp (on (λ p. p.0) nat_cmp) (on (λ p. p.1) int_cmp)

-- terms compare by their lists of pairs, of which a proper prefix is less, then by constant
abbrev pub linear_cmp : Linear → Linear → Ordering
linear_cmp = then_cmp (on (λ t. t.pairs) (slice_cmp pair_cmp)) (on (λ t. t.constant) int_cmp)
