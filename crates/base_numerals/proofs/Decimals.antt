-- What a number is written as is digits of its value.
use Rattle.std.proofs.Common.{ℕ, ◌≡◌, ◌≤◌, ◌<◌, ◌+◌, ◌*◌, ◌-◌, ◌%◌, ◌^◌, Bool, true, List, [], ◌∷◌, ◌++◌, length, length-append, refl, ◌∙◌, arith}
use Rattle.std.specs.List.{list_all}
use Rattle.std.specs.Char.{is_ascii_digit}
use Rattle.std.specs.Fmt.{decimal}
use Rattle.std.proofs.Math.Nat.{mod-lt, div-add-mod}
use Rattle.std.proofs.lemmas.Fmt.{decimal_by_steps_wide}
use Rattle.std.proofs.lemmas.Bool.Decides.{nat_tests}
use Rattle.base_numerals.specs.Numerals.{decimal_value, with_digits}
use Rattle.base_numerals.proofs.Tests.{left_true, right_true}

-- digits of a number
pub record IsDecimal (n : ℕ) (text : List ℕ) : Type 0 where
  pub digits : list_all is_ascii_digit text ≡ true
  pub value : decimal_value text ≡ n
  pub some : 1 ≤ length text

pub digit_passes : (k : ℕ) → k < 10 → is_ascii_digit (48 + k) ≡ true
digit_passes k h = grind (arith, nat_tests)

pub all_behind : (f : ℕ → Bool) (xs : List ℕ) (y : ℕ) → list_all f xs ≡ true → f y ≡ true → list_all f (xs ++ y ∷ []) ≡ true
all_behind f [] y a b = rw b refl
all_behind f (x ∷ xs) y a b = rw (left_true (f x) (list_all f xs) a) (all_behind f xs y (right_true (f x) (list_all f xs) a) b)

pub digits_behind : (n : ℕ) (ds : List ℕ) (d : ℕ) → with_digits n (ds ++ d ∷ []) ≡ 10 * with_digits n ds + (d - 48)
digits_behind n [] d = refl
digits_behind n (x ∷ ds) d = digits_behind (10 * n + (x - 48)) ds d

pub decimal_is : (n : ℕ) → n < 10 ^ 64 → IsDecimal n (decimal n)
decimal_is = decimal_by_steps_wide IsDecimal
    (λ n h. record { digits = rw (digit_passes n h) refl; value = omega arith; some = omega arith })
    (λ n ds h i. record {
      digits = all_behind is_ascii_digit ds (48 + n % 10) i.digits (digit_passes (n % 10) (mod-lt n {m = 10} (omega arith)));
      value = digits_behind 0 ds (48 + n % 10) ∙ omega (arith, i.value, div-add-mod n 10);
      some = let l = length-append ds ((48 + n % 10) ∷ []) in omega (arith, l);
    })

pub digits_back : (n : ℕ) → n < 10 ^ 64 → list_all is_ascii_digit (decimal n) ≡ true
digits_back n small = (decimal_is n small).digits

pub value_back : (n : ℕ) → n < 10 ^ 64 → decimal_value (decimal n) ≡ n
value_back n small = (decimal_is n small).value
