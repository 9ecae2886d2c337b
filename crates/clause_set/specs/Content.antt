-- When coefficients have a greatest common divisor other than 0.
use Rattle.std.specs.Prelude.{◌≡◌, ℕ, ℤ, pos, ◌<ℤ◌, List, []}

-- g is positive, or there are coefficients
abbrev pub HasContent : ℤ → List (ℕ × ℤ) → Type 0
HasContent g ps = ps ≡ [] → pos 0 <ℤ g
