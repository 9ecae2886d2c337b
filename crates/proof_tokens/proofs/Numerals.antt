-- A numeral without leading zeros is what its value is written as.
use Rattle.std.proofs.Common.{ℕ, ◌≡◌, ◌≤◌, ◌<◌, ◌+◌, ◌-◌, ◌*◌, ◌/◌, ◌%◌, ◌^◌, ◌==◌, ◌&&◌, ◌||◌, not, Bool, true, false, List, [], ◌∷◌, ◌++◌, Some, None, if◌then◌else◌, refl, sym, ap, subst, ◌∙◌, append_assoc, append-nil, arith}
use Rattle.std.specs.Prelude.{nat_lt}
use Rattle.std.specs.Fmt.{decimal}
use Rattle.std.specs.List.{AllByRecursion, list_all}
use Rattle.std.specs.Char.{is_ascii_digit}
use Rattle.std.proofs.lemmas.Fmt.{decimal_digit, decimal_step_wide}
use Rattle.std.proofs.lemmas.Bool.{eqb-true, ltb-true}
use Rattle.std.proofs.lemmas.Bool.Decides.{nat_tests}
use Rattle.base_numerals.specs.Numerals.{with_digits, decimal_value}
use Rattle.base_numerals.proofs.Digits.{with_digits_grows}
use Rattle.base_numerals.proofs.Tests.{left_true, right_true}
use Rattle.proof_tokens.specs.Words.{is_empty, is_numeral, numeral_of}

abbrev IsDigit : ℕ → Type 0
IsDigit d = (48 ≤ d) × (d ≤ 57)

last_digit : (n d : ℕ) → IsDigit d → ((10 * n + (d - 48)) / 10 ≡ n) × (48 + (10 * n + (d - 48)) % 10 ≡ d)
last_digit n d h = (omega arith, omega arith)

digits_behind : (n : ℕ) (ds : List ℕ) → 1 ≤ n → AllByRecursion IsDigit ds → with_digits n ds < 10 ^ 64 → decimal (with_digits n ds) ≡ decimal n ++ ds
digits_behind n [] some all small = sym (append-nil (decimal n))
digits_behind n (d ∷ ds) some all small =
    let m = 10 * n + (d - 48) in
    let up = with_digits_grows m ds in let q = last_digit n d all.0 in
    digits_behind m ds (omega arith) all.1 small
    ∙ ap (λ w. w ++ ds) (decimal_step_wide m (omega arith) (omega arith) ∙ ap (λ k. decimal k ++ ((48 + m % 10) ∷ [])) q.0 ∙ ap (λ k. decimal n ++ (k ∷ [])) q.1)
    ∙ append_assoc (decimal n) (d ∷ []) ds

-- the first digit is not 0
numeral_is : (d : ℕ) (ds : List ℕ) → 49 ≤ d → d ≤ 57 → AllByRecursion IsDigit ds → with_digits 0 (d ∷ ds) < 10 ^ 64 → decimal (with_digits 0 (d ∷ ds)) ≡ d ∷ ds
numeral_is d ds low high all small =
    let first : 0 + (d - 48) ≡ d - 48 = omega arith in
    let fits : with_digits (d - 48) ds < 10 ^ 64 = subst (λ k. with_digits k ds < 10 ^ 64) first small in
    let glyph : 48 + (d - 48) ≡ d = omega arith in
    ap (λ k. decimal (with_digits k ds)) first
    ∙ digits_behind (d - 48) ds (omega arith) all fits
    ∙ ap (λ w. w ++ ds) (decimal_digit (d - 48) (omega arith) ∙ ap (λ k. k ∷ []) glyph)

digit_range : (d : ℕ) → is_ascii_digit d ≡ true → IsDigit d
digit_range d e = (grind (arith, nat_tests), grind (arith, nat_tests))

digits_range : (ds : List ℕ) → list_all is_ascii_digit ds ≡ true → AllByRecursion IsDigit ds
digits_range [] e = tt
digits_range (d ∷ ds) e = (digit_range d (left_true (is_ascii_digit d) (list_all is_ascii_digit ds) e), digits_range ds (right_true (is_ascii_digit d) (list_all is_ascii_digit ds) e))

pub three_true : (a b c : Bool) → (a && b && c) ≡ true → (a ≡ true) × (b ≡ true) × (c ≡ true)
three_true true true true e = (refl, refl, refl)
three_true true true false e = absurd (cc)
three_true true false c e = absurd (cc)
three_true false b c e = absurd (cc)

pub nothing_else : (ds : List ℕ) → is_empty ds ≡ true → ds ≡ []
nothing_else [] e = refl
nothing_else (d ∷ ds) e = absurd (cc)

zero_alone : (d : ℕ) (ds : List ℕ) → (d == 48) ≡ true → is_empty ds ≡ true → d ∷ ds ≡ decimal (with_digits 0 (d ∷ ds))
zero_alone d ds e f =
    let zero_is : 48 ∷ [] ≡ decimal (with_digits 0 (48 ∷ [])) = sym (decimal_digit 0 (omega arith)) in
    subst (λ z. z ∷ ds ≡ decimal (with_digits 0 (z ∷ ds))) (sym (eqb-true d 48 e)) (subst (λ z. 48 ∷ z ≡ decimal (with_digits 0 (48 ∷ z))) (sym (nothing_else ds f)) zero_is)

not_zero : (d : ℕ) → IsDigit d → (d == 48) ≡ false → 49 ≤ d
not_zero d h e = grind (arith, nat_tests)

canonical_by : (d : ℕ) (ds : List ℕ) (v : Bool) → (d == 48) ≡ v → is_ascii_digit d ≡ true → list_all is_ascii_digit ds ≡ true → (not v || is_empty ds) ≡ true
    → with_digits 0 (d ∷ ds) < 10 ^ 64 → d ∷ ds ≡ decimal (with_digits 0 (d ∷ ds))
canonical_by d ds true e p q r small = zero_alone d ds e r
canonical_by d ds false e p q r small = let h = digit_range d p in sym (numeral_is d ds (not_zero d h e) h.1 (digits_range ds q) small)

canonical : (ds : List ℕ) → is_numeral ds ≡ true → decimal_value ds < 10 ^ 64 → ds ≡ decimal (decimal_value ds)
canonical [] e small = absurd (cc)
canonical (d ∷ ds) e small =
    let h = three_true (is_ascii_digit d) (list_all is_ascii_digit ds) (not (d == 48) || is_empty ds) e in
    canonical_by d ds (d == 48) refl h.0 h.1 h.2 small

chosen : (c : Bool) (v n : ℕ) → (if c then Some v else None) ≡ Some n → (c ≡ true) × (v ≡ n)
chosen true v n e = (refl, cc)
chosen false v n e = absurd (cc)

-- a numeral below the bound is spelled as its value
pub numeral_spelled : (bound : ℕ) (ds : List ℕ) (n : ℕ) → bound ≤ 2 ^ 127 → numeral_of bound ds ≡ Some n → (ds ≡ decimal n) × (n < bound)
numeral_spelled bound ds n h e =
    let c = chosen (is_numeral ds && nat_lt (decimal_value ds) bound) (decimal_value ds) n e in
    let below = ltb-true (decimal_value ds) bound (right_true (is_numeral ds) (nat_lt (decimal_value ds) bound) c.0) in
    (canonical ds (left_true (is_numeral ds) (nat_lt (decimal_value ds) bound) c.0) (omega arith) ∙ ap decimal c.1, subst (λ k. k < bound) c.1 below)
