-- Division rounded down: it is the floor, and the only one.
use Rattle.std.proofs.Common.{◌≡◌, ◌*◌, ◌+◌, ◌<◌, ◌/◌, ◌%◌, ℤ, pos, negsuc, ◌+ℤ◌, ◌*ℤ◌, neg_ℤ, ◌≤ℤ◌, ◌<ℤ◌, arith}
use Rattle.std.specs.Int.{int_div_euclid}
use Rattle.std.proofs.lemmas.Int.{ints}
use Rattle.std.proofs.lemmas.Nat.{div-add-mod'}
use Rattle.base_integers.specs.Floor.{IsFloor}
use Rattle.base_integers.proofs.Ring.{add-mul, neg-mul}
use Rattle.base_integers.proofs.Order.{mul_le_right, between_multiples}

pub floor-is : (a b : ℤ) → pos 0 <ℤ b → IsFloor a b (int_div_euclid a b)
floor-is (pos a) (pos b) h =
    let some : 0 < b = omega (arith, ints) in
    let parts : a / b * b + a % b ≡ a = div-add-mod' a b in
    let rest : a % b < b = omega arith in
    record { below = omega (arith, ints); greatest = omega (arith, ints) }
floor-is (negsuc a) (pos b) h =
    let some : 0 < b = omega (arith, ints) in
    let parts : a / b * b + a % b ≡ a = div-add-mod' a b in
    let rest : a % b < b = omega arith in
    record { below = omega (arith, ints); greatest = omega (arith, ints) }
floor-is a (negsuc b) h = absurd (omega (arith, ints))

pub floor-only : (a b q r : ℤ) → pos 0 <ℤ b → IsFloor a b q → IsFloor a b r → q ≡ r
floor-only a b q r h f g =
    let first : (q *ℤ b) <ℤ ((r *ℤ b) +ℤ b) = omega (arith, ints, f.below, g.greatest) in
    let second : (r *ℤ b) <ℤ ((q *ℤ b) +ℤ b) = omega (arith, ints, g.below, f.greatest) in
    omega (arith, ints, between_multiples q r b h first, between_multiples r q b h second)

-- the multiples of b up to a are those of the numbers up to the floor
pub floor-below : (a b x : ℤ) → pos 0 <ℤ b → (x *ℤ b) ≤ℤ a → x ≤ℤ int_div_euclid a b
floor-below a b x h le =
    let first : (x *ℤ b) <ℤ ((int_div_euclid a b *ℤ b) +ℤ b) = omega (arith, ints, (floor-is a b h).greatest) in
    between_multiples x (int_div_euclid a b) b h first

pub floor-above : (a b x : ℤ) → pos 0 <ℤ b → x ≤ℤ int_div_euclid a b → (x *ℤ b) ≤ℤ a
floor-above a b x h le =
    let not_negative : pos 0 ≤ℤ b = omega (arith, ints) in
    omega (arith, ints, (floor-is a b h).below, mul_le_right x (int_div_euclid a b) b not_negative le)

-- ---- what the floor is at multiples and sums
pub floor-exact : (q b : ℤ) → pos 0 <ℤ b → int_div_euclid (q *ℤ b) b ≡ q
floor-exact q b h =
    floor-only (q *ℤ b) b (int_div_euclid (q *ℤ b) b) q h (floor-is (q *ℤ b) b h)
    (record { below = omega (arith, ints); greatest = omega (arith, ints) })

pub floor-sum : (x a b : ℤ) → pos 0 <ℤ b → int_div_euclid ((x *ℤ b) +ℤ a) b ≡ x +ℤ int_div_euclid a b
floor-sum x a b h =
    let is = floor-is a b h in
    floor-only ((x *ℤ b) +ℤ a) b _ (x +ℤ int_div_euclid a b) h (floor-is ((x *ℤ b) +ℤ a) b h)
    (record {
      below = omega (arith, ints, add-mul x (int_div_euclid a b) b, is.below);
      greatest = omega (arith, ints, add-mul x (int_div_euclid a b) b, is.greatest);
    })

-- x·b + a is at least 0 exactly where x + floor(a / b) is
pub floor-shifted : (x a b : ℤ) → pos 0 <ℤ b → pos 0 ≤ℤ ((x *ℤ b) +ℤ a) → pos 0 ≤ℤ (x +ℤ int_div_euclid a b)
floor-shifted x a b h le =
    let first : (neg_ℤ x *ℤ b) ≤ℤ a = omega (arith, ints, neg-mul x b) in
    omega (arith, ints, floor-below a b (neg_ℤ x) h first)

pub floor-shifted_back : (x a b : ℤ) → pos 0 <ℤ b → pos 0 ≤ℤ (x +ℤ int_div_euclid a b) → pos 0 ≤ℤ ((x *ℤ b) +ℤ a)
floor-shifted_back x a b h le =
    let first : neg_ℤ x ≤ℤ int_div_euclid a b = omega (arith, ints) in
    omega (arith, ints, floor-above a b (neg_ℤ x) h first, neg-mul x b)
