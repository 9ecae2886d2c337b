-- What the least value of a plain term x is, over the lists of n integers at which H holds.
use Rattle.std.specs.Prelude.{ℕ, ◌≡◌, ℤ, pos, neg_ℤ, ◌*ℤ◌, ◌≤ℤ◌, ◌<ℤ◌, List, [], ◌∷◌, length}
use Rattle.base_integers.specs.Entry.{entry}
use Rattle.form_typed.specs.Formula.{Expression, Expressions, number, name, minus, total, product, no_expression, and_expression}
use Rattle.form_typed.specs.Truth.{Meaning, HasValue}
use Rattle.form_typed.specs.Lists.{sum_of}
use Rattle.optimiser.specs.Least.{Minimum, nothing, no_least, least_at}

abbrev mutual
  -- the value of a plain term
  pub plain_value : Expression → List ℤ → ℤ
  plain_value (number v) e = v
  plain_value (name x) e = entry e x
  plain_value (minus t) e = neg_ℤ (plain_value t e)
  plain_value (total ts) e = sum_of (plain_values ts e)
  plain_value (product s t) e = plain_value s e *ℤ plain_value t e
  plain_value _ e = pos 0

  pub plain_values : Expressions → List ℤ → List ℤ
  plain_values no_expression e = []
  plain_values (and_expression t ts) e = plain_value t e ∷ plain_values ts e

-- x has the value k at v, where H holds, and no smaller value at another list where H holds
pub record IsLeastOf (w : Meaning) (H : List ℤ → Type 0) (n : ℕ) (x : Expression) (k : ℤ) (v : List ℤ) : Type 0 where
  pub as_many : length v ≡ n
  pub holds : H v
  pub value : HasValue w x v (λ y. y ≡ k)
  pub least : (e : List ℤ) → length e ≡ n → H e → HasValue w x e (λ y. k ≤ℤ y)

-- H holds at e, and x has a value below k there
pub record IsBelowAt (w : Meaning) (H : List ℤ → Type 0) (n : ℕ) (x : Expression) (k : ℤ) (e : List ℤ) : Type 0 where
  pub as_many : length e ≡ n
  pub holds : H e
  pub below : HasValue w x e (λ y. y <ℤ k)

abbrev pub LeastMeans : Meaning → (List ℤ → Type 0) → ℕ → Expression → Minimum → Type 0
LeastMeans w H n x nothing = (e : List ℤ) → length e ≡ n → ¬ (H e)
LeastMeans w H n x no_least = (k : ℤ) → (e : List ℤ) × IsBelowAt w H n x k e
LeastMeans w H n x (least_at k v) = IsLeastOf w H n x k v
