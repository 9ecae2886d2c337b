-- The integers as a commutative ring, and what `simp ring` makes of a sum of products.
use Rattle.std.proofs.Common.{◌≡◌, ◌*◌, ℕ, ℤ, ◌+ℤ◌, ◌-ℤ◌, ◌*ℤ◌, neg_ℤ, sym, ◌∙◌, ap, arith}
use Rattle.std.proofs.lemmas.Int.{ints}
use borrow.Author.Differences.{up, down, sum_is_lem, product_is, neg_is}
use lib.IntN.{*ℤ_comm}

pub mul-add : (m a b : ℤ) → m *ℤ (a +ℤ b) ≡ (m *ℤ a) +ℤ (m *ℤ b)
mul-add m a b = omega (arith, ints, ap (λ (k : ℕ). up m * k) (sum_is_lem a b), ap (λ (k : ℕ). down m * k) (sum_is_lem a b))

pub add-mul : (a b m : ℤ) → (a +ℤ b) *ℤ m ≡ (a *ℤ m) +ℤ (b *ℤ m)
add-mul a b m = *ℤ_comm (a +ℤ b) m ∙ mul-add m a b ∙ ap (λ (z : ℤ). z +ℤ (m *ℤ b)) (*ℤ_comm m a) ∙ ap (λ (z : ℤ). (a *ℤ m) +ℤ z) (*ℤ_comm m b)

pub mul_assoc : (a b c : ℤ) → (a *ℤ b) *ℤ c ≡ a *ℤ (b *ℤ c)
mul_assoc a b c =
    omega (
      arith,
      ints,
      ap (λ (k : ℕ). k * up c) ((product_is a b).0),
      ap (λ (k : ℕ). k * down c) ((product_is a b).0),
      ap (λ (k : ℕ). k * up c) ((product_is a b).1),
      ap (λ (k : ℕ). k * down c) ((product_is a b).1),
      ap (λ (k : ℕ). up a * k) ((product_is b c).0),
      ap (λ (k : ℕ). down a * k) ((product_is b c).0),
      ap (λ (k : ℕ). up a * k) ((product_is b c).1),
      ap (λ (k : ℕ). down a * k) ((product_is b c).1),
    )

pub left_comm : (a b c : ℤ) → a *ℤ (b *ℤ c) ≡ b *ℤ (a *ℤ c)
left_comm a b c = sym (mul_assoc a b c) ∙ ap (λ (z : ℤ). z *ℤ c) (*ℤ_comm a b) ∙ mul_assoc b a c

pub mul-neg : (a b : ℤ) → a *ℤ neg_ℤ b ≡ neg_ℤ (a *ℤ b)
mul-neg a b = omega (arith, ints, ap (λ (k : ℕ). up a * k) ((neg_is b).0), ap (λ (k : ℕ). down a * k) ((neg_is b).0), ap (λ (k : ℕ). up a * k) ((neg_is b).1), ap (λ (k : ℕ). down a * k) ((neg_is b).1))

pub neg-mul : (a b : ℤ) → neg_ℤ a *ℤ b ≡ neg_ℤ (a *ℤ b)
neg-mul a b = *ℤ_comm (neg_ℤ a) b ∙ mul-neg b a ∙ ap neg_ℤ (*ℤ_comm b a)

pub mul-sub : (m a b : ℤ) → m *ℤ (a -ℤ b) ≡ (m *ℤ a) -ℤ (m *ℤ b)
mul-sub m a b = mul-add m a (neg_ℤ b) ∙ ap (λ (z : ℤ). (m *ℤ a) +ℤ z) (mul-neg m b)

pub sub-mul : (a b m : ℤ) → (a -ℤ b) *ℤ m ≡ (a *ℤ m) -ℤ (b *ℤ m)
sub-mul a b m = add-mul a (neg_ℤ b) m ∙ ap (λ (z : ℤ). (a *ℤ m) +ℤ z) (neg-mul b m)

-- for `simp`: products of sums are multiplied out, and products go to the right
pub ruleset ring = (add-mul, mul-add, mul_assoc)
