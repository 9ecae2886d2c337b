-- The least of several things in an order.
use Rattle.std.specs.Prelude.{◌≡◌, Bool, true, false, List, [], ◌∷◌, Option, Some, None, if◌then◌else◌}

-- the test says of two things that the first comes before the second: a strict weak order
pub record IsStrictWeakOrder {A : Type 0} (before : A → A → Bool) : Type 0 where
  pub asymmetric : (a b : A) → before a b ≡ true → before b a ≡ false
  pub negative : (a b c : A) → before b a ≡ false → before c b ≡ false → before c a ≡ false

-- of two things, where there are two, the second where it comes before the first, else the first
abbrev pub earlier_by : {A : Type 0} → (A → A → Bool) → Option A → Option A → Option A
earlier_by before None b = b
earlier_by before (Some a) None = Some a
earlier_by before (Some a) (Some b) = Some (if before b a then b else a)

-- of all things of a list, the first one before which no other comes
abbrev pub least_by : {A : Type 0} → (A → A → Bool) → List A → Option A
least_by before [] = None
least_by before (x ∷ xs) = earlier_by before (Some x) (least_by before xs)
