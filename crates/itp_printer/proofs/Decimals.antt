-- The digits of a number are a numeral.
use Rattle.std.proofs.Common.{ℕ, ◌≡◌, ◌≤◌, true, not, ◌==◌, List, [], ◌∷◌, length, arith}
use Rattle.std.specs.List.{list_all}
use Rattle.std.specs.Char.{is_ascii_digit}
use Rattle.std.proofs.lemmas.Bool.Decides.{nat_tests}
use Rattle.pri_tokens.specs.Kinds.{is_number}
use Rattle.base_numerals.proofs.Tests.{left_true}
use Rattle.pri_printer.proofs.Spelling.{heads}

pub number_by : (text : List ℕ) → list_all is_ascii_digit text ≡ true → 1 ≤ length text → is_number text ≡ true
number_by [] a h = absurd (omega arith)
number_by (b ∷ text) a h = a

no_digit : (b : ℕ) → is_ascii_digit b ≡ true → not (b == 62) ≡ true
no_digit b h = grind (arith, nat_tests)

pub number_heads : (text : List ℕ) → list_all is_ascii_digit text ≡ true → 1 ≤ length text → heads (λ b. not (b == 62)) text ≡ true
number_heads [] a h = absurd (omega arith)
number_heads (b ∷ text) a h = no_digit b (left_true (is_ascii_digit b) (list_all is_ascii_digit text) a)
