-- The value of a numeral while its digits are read.
use Rattle.std.proofs.Common.{ℕ, suc, ◌≡◌, ◌≤◌, ◌<◌, ◌+◌, ◌-◌, ◌*◌, List, [], ◌∷◌, length, get_or, drop, drop-cons, refl, arith}
use Rattle.base_numerals.specs.Numerals.{with_digits}

-- more digits make no number less
pub with_digits_grows : (n : ℕ) (ds : List ℕ) → n ≤ with_digits n ds
with_digits_grows n [] = omega arith
with_digits_grows n (d ∷ ds) = omega (arith, with_digits_grows (10 * n + (d - 48)) ds)

-- a digit that makes the value too great makes that of the numeral too great
pub too_great : (bound value i : ℕ) (digits : List ℕ) → i < length digits → with_digits value (drop i digits) ≡ with_digits 0 digits
    → bound ≤ 10 * value + (get_or digits i 0 - 48) → bound ≤ with_digits 0 digits
too_great bound value i digits h e g =
    let q : with_digits value (drop i digits) ≡ with_digits (10 * value + (get_or digits i 0 - 48)) (drop (suc i) digits) = rw (drop-cons digits i 0 h) refl in
    omega (arith, with_digits_grows (10 * value + (get_or digits i 0 - 48)) (drop (suc i) digits))
