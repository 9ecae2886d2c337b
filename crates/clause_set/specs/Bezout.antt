-- The coefficients of Bézout.
use Rattle.std.specs.Prelude.{ℕ, zero, suc, ◌/◌, ◌%◌, ℤ, pos, ◌-ℤ◌, ◌*ℤ◌, unsigned_abs, cond, nat_eq}
use Rattle.std.specs.Int.{int_div_euclid, int_rem_euclid}
use Rattle.base_integers.specs.Gcd.{gcd}

-- (p, q) with gcd(a, b) = p·a + q·b, by Euclid's algorithm in at most n steps
abbrev pub cofactors_within : ℕ → ℕ → ℕ → ℤ × ℤ
cofactors_within zero a b = (pos 1, pos 0)
cofactors_within (suc n) a b =
    cond (nat_eq b 0) (pos 1, pos 0)
    (let r = cofactors_within n b (a % b) in (r.1, r.0 -ℤ (r.1 *ℤ pos (a / b))))

-- g = p·a + q·b with the least p that is not negative, for positive a and b
pub record Bezout : Type 0 where
  pub g : ℤ
  pub p : ℤ
  pub q : ℤ

-- p, brought below b/g, and the q that goes with it
abbrev pub with_least : ℤ → ℤ → ℤ → ℤ → Bezout
with_least a b g p =
    let least = int_rem_euclid p (int_div_euclid b g) in
    record { g = g; p = least; q = int_div_euclid (g -ℤ (least *ℤ a)) b }

unfoldable pub bezout : ℤ → ℤ → Bezout
bezout a b = with_least a b (gcd a b) (cofactors_within (unsigned_abs b) (unsigned_abs a) (unsigned_abs b)).0
