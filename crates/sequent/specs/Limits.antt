-- Limits that the premises of a sequent inherit.
use Rattle.std.specs.Prelude.{ℕ, ◌≤◌}
use Rattle.std.specs.List.{AllByRecursion}
use Rattle.formula.specs.Sizes.{depth}
use Rattle.sequent.specs.Sequent.{Sequent}

-- no member was used more than u times, and none has a depth above k
abbrev pub IsLimited : ℕ → ℕ → Sequent → Type 0
IsLimited u k s = AllByRecursion (λ m. (m.used ≤ u) × (depth m.formula ≤ k)) s.members
