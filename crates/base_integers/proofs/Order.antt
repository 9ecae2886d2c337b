-- The order of the integers and its products.
use Rattle.std.proofs.Common.{◌≡◌, ◌+◌, ◌<◌, ◌≤◌, ℤ, pos, negsuc, ◌+ℤ◌, ◌*ℤ◌, ◌≤ℤ◌, ◌<ℤ◌, arith}
use Rattle.std.proofs.lemmas.Int.{ints, by_lt_z}
use Rattle.std.proofs.Math.Nat.{mul-le-mul_right}
use borrow.Author.Differences.{up, down, le_out}
use Rattle.base_integers.proofs.Ring.{add-mul}

pub mul_le_right : (x y k : ℤ) → pos 0 ≤ℤ k → x ≤ℤ y → (x *ℤ k) ≤ℤ (y *ℤ k)
mul_le_right x y (pos n) h le = omega (arith, ints, mul-le-mul_right n (le_out x y le))
mul_le_right x y (negsuc n) h le = absurd (omega (arith, ints))

pub mul_lt_right : (x y k : ℤ) → pos 0 <ℤ k → x <ℤ y → (x *ℤ k) <ℤ (y *ℤ k)
mul_lt_right x y (pos n) h lt =
    let more : up x + down y + 1 ≤ up y + down x = omega (arith, ints) in
    let some : 0 < n = omega (arith, ints) in
    omega (arith, ints, mul-le-mul_right n more)
mul_lt_right x y (negsuc n) h lt = absurd (omega (arith, ints))

pub lt_of_mul_lt : (x y k : ℤ) → pos 0 ≤ℤ k → (x *ℤ k) <ℤ (y *ℤ k) → x <ℤ y
lt_of_mul_lt x y k h lt = by_lt_z x y (λ less. less) (λ le. absurd (omega (arith, ints, mul_le_right y x k h le)))

pub le_of_mul_le : (x y k : ℤ) → pos 0 <ℤ k → (x *ℤ k) ≤ℤ (y *ℤ k) → x ≤ℤ y
le_of_mul_le x y k h le = by_lt_z y x (λ less. absurd (omega (arith, ints, mul_lt_right y x k h less))) (λ less. less)

pub mul_cancel : (x y k : ℤ) → pos 0 <ℤ k → x *ℤ k ≡ y *ℤ k → x ≡ y
mul_cancel x y k h e =
    let at_most : x ≤ℤ y = le_of_mul_le x y k h (omega (arith, ints)) in
    let at_least : y ≤ℤ x = le_of_mul_le y x k h (omega (arith, ints)) in
    omega (arith, ints)

-- between a multiple of k and the next one lies no other
pub between_multiples : (x y k : ℤ) → pos 0 <ℤ k → (x *ℤ k) <ℤ ((y *ℤ k) +ℤ k) → x ≤ℤ y
between_multiples x y k h lt =
    by_lt_z y x
    (λ less.
    let more : (y +ℤ pos 1) ≤ℤ x = omega (arith, ints) in
    let not_negative : pos 0 ≤ℤ k = omega (arith, ints) in
    absurd (omega (arith, ints, add-mul y (pos 1) k, mul_le_right (y +ℤ pos 1) x k not_negative more)))
    (λ at_most. at_most)
