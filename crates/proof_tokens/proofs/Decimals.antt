-- What a number is written as is a numeral of its value.
use Rattle.std.proofs.Common.{ℕ, ◌≡◌, ◌≤◌, ◌<◌, ◌+◌, ◌%◌, ◌^◌, ◌==◌, ◌&&◌, ◌||◌, not, Bool, true, false, List, [], ◌∷◌, ◌++◌, Some, None, if◌then◌else◌, refl, ap, ◌∙◌, arith}
use Rattle.std.specs.Prelude.{nat_lt}
use Rattle.std.specs.List.{list_all}
use Rattle.std.specs.Char.{is_ascii_digit}
use Rattle.std.specs.Fmt.{decimal}
use Rattle.std.proofs.Math.Nat.{mod-lt, div-add-mod}
use Rattle.std.proofs.lemmas.Fmt.{decimal_by_steps_wide}
use Rattle.std.proofs.lemmas.Bool.{eqb-true, lt-ltb}
use Rattle.base_numerals.specs.Numerals.{decimal_value, with_digits}
use Rattle.base_numerals.proofs.Decimals.{all_behind, digit_passes, digits_behind}
use Rattle.proof_tokens.specs.Words.{is_empty, is_numeral, numeral_of}
use Rattle.proof_tokens.proofs.Numerals.{nothing_else, three_true}

-- the digits of a number
pub record IsDecimal (n : ℕ) (text : List ℕ) : Type 0 where
  pub numeral : is_numeral text ≡ true
  pub value : decimal_value text ≡ n

three : (a b c : Bool) → a ≡ true → b ≡ true → c ≡ true → (a && b && c) ≡ true
three a b c p q r = rw (p, q, r) refl

one_digit : (n : ℕ) → n < 10 → is_numeral ((48 + n) ∷ []) ≡ true
one_digit n h = three (is_ascii_digit (48 + n)) true (not (48 + n == 48) || true) (digit_passes n h) refl (or_true (not (48 + n == 48)))
  where
    or_true : (a : Bool) → (a || true) ≡ true
    or_true true = refl
    or_true false = refl

zero_by : (d : ℕ) (ds : List ℕ) (v : Bool) → (d == 48) ≡ v → (not v || is_empty ds) ≡ true → 1 ≤ with_digits 0 (d ∷ ds) → v ≡ false
zero_by d ds false e h some = refl
zero_by d ds true e h some =
    let nothing = nothing_else ds h in
    let is : with_digits 0 (d ∷ ds) ≡ 0 = ap (λ z. with_digits 0 (d ∷ z)) nothing ∙ ap (λ z. with_digits 0 (z ∷ [])) (eqb-true d 48 e) in
    absurd (omega arith)

-- a numeral that is not 0, with one more digit
longer : (ds : List ℕ) (y : ℕ) → is_numeral ds ≡ true → 1 ≤ decimal_value ds → is_ascii_digit y ≡ true → is_numeral (ds ++ y ∷ []) ≡ true
longer [] y h some d = absurd (cc)
longer (x ∷ xs) y h some d =
    let q = three_true (is_ascii_digit x) (list_all is_ascii_digit xs) (not (x == 48) || is_empty xs) h in
    let z = zero_by x xs (x == 48) refl q.2 some in
    three (is_ascii_digit x) (list_all is_ascii_digit (xs ++ y ∷ [])) (not (x == 48) || is_empty (xs ++ y ∷ [])) q.0 (all_behind is_ascii_digit xs y q.1 d) (ap (λ v. not v || is_empty (xs ++ y ∷ [])) z)

pub decimal_is : (n : ℕ) → n < 10 ^ 64 → IsDecimal n (decimal n)
decimal_is = decimal_by_steps_wide IsDecimal
    (λ n h. record { numeral = one_digit n h; value = omega arith })
    (λ n ds h i. record {
      numeral = longer ds (48 + n % 10) i.numeral (let v = i.value in omega (arith, v)) (digit_passes (n % 10) (mod-lt n {m = 10} (omega arith)));
      value = digits_behind 0 ds (48 + n % 10) ∙ omega (arith, i.value, div-add-mod n 10);
    })

-- the value of what a number is written as
pub numeral_back : (bound n : ℕ) → n < bound → n < 10 ^ 64 → numeral_of bound (decimal n) ≡ Some n
numeral_back bound n h small =
    let i = decimal_is n small in
    let test : (is_numeral (decimal n) && nat_lt (decimal_value (decimal n)) bound) ≡ true = ap (λ v. v && nat_lt (decimal_value (decimal n)) bound) i.numeral ∙ ap (λ k. nat_lt k bound) i.value ∙ lt-ltb n bound h in
    ap (λ v. if v then Some (decimal_value (decimal n)) else None) test ∙ ap Some i.value
