-- Which longer texts are no tokens, by the byte that they begin with.
use Rattle.std.proofs.Common.{ℕ, zero, suc, ◌≡◌, ◌≤◌, ◌<◌, ◌==◌, not, Bool, true, false, List, [], ◌∷◌, length, take, get_or, refl, sym, ap, ◌∙◌, inl, inr, arith, nat_le}
use Rattle.std.specs.List.{prefix_len, list_all}
use Rattle.std.specs.Char.{is_ascii_digit, is_ascii_alphabetic}
use Rattle.std.proofs.lemmas.Bool.{eqb-true, leb-true}
use Rattle.std.proofs.lemmas.Bool.Decides.{nat_tests}
use Rattle.pri_tokens.specs.declared.terminals.TokenKind.{TokenKind}
use Rattle.pri_tokens.specs.declared.terminals.TokenKind.TheVariants as k
use Rattle.pri_tokens.specs.Spellings.{sign_of}
use Rattle.pri_tokens.specs.Lexemes.{starts_name, is_name_byte}
use Rattle.pri_tokens.specs.Kinds.{is_name, has_command_form, words, commands, signs, is_one_of, is_bad_byte, is_spelled}
use Rattle.base_numerals.proofs.Tests.{left_true, right_true, either_true, front_passes, clash, heads, at_byte}
use Rattle.pri_tokens.proofs.Tables.{of_table}

too_many : (p : ℕ → Bool) (n : ℕ) (bs : List ℕ) → prefix_len p bs < n → n ≤ length bs → list_all p (take n bs) ≡ true → ⊥
too_many p n bs h l a = omega (arith, front_passes p n bs l a)

not_single : (b n : ℕ) (bs : List ℕ) → 1 ≤ n → n ≤ length bs → is_bad_byte (b ∷ take n bs) ≡ true → ⊥
not_single b zero bs h l e = omega arith
not_single b (suc n) [] h l e = omega arith
not_single b (suc n) (c ∷ bs) h l e = clash e

digit_is_no_name : (b : ℕ) → is_ascii_digit b ≡ true → starts_name b ≡ true → ⊥
digit_is_no_name b d n = grind (arith, nat_tests)

-- a longer text that begins with a letter or `_` is no token
pub name_longest : (b n : ℕ) (bs : List ℕ) (other : TokenKind) → starts_name b ≡ true → prefix_len is_name_byte bs < n → n ≤ length bs
    → is_spelled other (b ∷ take n bs) ≡ true → ⊥
name_longest b n bs k.Identifier s h l e =
    too_many is_name_byte n bs h l (right_true (starts_name b) _ (left_true (is_name (b ∷ take n bs)) _ e))
name_longest b n bs k.Number s h l e = digit_is_no_name b (left_true (is_ascii_digit b) _ e) s
name_longest b n bs k.Word s h l e =
    too_many is_name_byte n bs h l (right_true (is_name_byte b) _ (of_table (list_all is_name_byte) words (b ∷ take n bs) refl e))
name_longest b n bs k.Command s h l e =
    clash (at_byte starts_name b 92 (eqb-true b 92 (of_table (heads (λ x. x == 92)) commands (b ∷ take n bs) refl e)) s)
name_longest b n bs k.Sign s h l e =
    clash (sym (ap not s) ∙ of_table (heads (λ x. not (starts_name x))) signs (b ∷ take n bs) refl e)
name_longest b n bs k.Bad s h l e =
    elim (either_true (is_bad_byte (b ∷ take n bs)) _ e) [
      | inl x ↦ not_single b n bs (omega arith) l x
      | inr x ↦ clash (at_byte starts_name b 92 (eqb-true b 92 (left_true (b == 92) _ (left_true (has_command_form (b ∷ take n bs)) _ x))) s)
    ]

-- a longer text that begins with a digit is no token
pub number_longest : (b n : ℕ) (bs : List ℕ) (other : TokenKind) → is_ascii_digit b ≡ true → prefix_len is_ascii_digit bs < n → n ≤ length bs
    → is_spelled other (b ∷ take n bs) ≡ true → ⊥
number_longest b n bs k.Identifier s h l e =
    digit_is_no_name b s (left_true (starts_name b) _ (left_true (is_name (b ∷ take n bs)) _ e))
number_longest b n bs k.Number s h l e = too_many is_ascii_digit n bs h l (right_true (is_ascii_digit b) _ e)
number_longest b n bs k.Word s h l e = digit_is_no_name b s (of_table (heads starts_name) words (b ∷ take n bs) refl e)
number_longest b n bs k.Command s h l e =
    clash (at_byte is_ascii_digit b 92 (eqb-true b 92 (of_table (heads (λ x. x == 92)) commands (b ∷ take n bs) refl e)) s)
number_longest b n bs k.Sign s h l e =
    clash (sym (ap not s) ∙ of_table (heads (λ x. not (is_ascii_digit x))) signs (b ∷ take n bs) refl e)
number_longest b n bs k.Bad s h l e =
    elim (either_true (is_bad_byte (b ∷ take n bs)) _ e) [
      | inl x ↦ not_single b n bs (omega arith) l x
      | inr x ↦ clash (at_byte is_ascii_digit b 92 (eqb-true b 92 (left_true (b == 92) _ (left_true (has_command_form (b ∷ take n bs)) _ x))) s)
    ]

abbrev tail_passes : (ℕ → Bool) → List ℕ → Bool
tail_passes p [] = false
tail_passes p (b ∷ bs) = list_all p bs

-- a longer text that begins with a `\` is no token
pub command_longest : (n : ℕ) (bs : List ℕ) (other : TokenKind) → prefix_len is_ascii_alphabetic bs < n → n ≤ length bs
    → is_spelled other (92 ∷ take n bs) ≡ true → ⊥
command_longest n bs k.Identifier h l e = clash e
command_longest n bs k.Number h l e = clash e
command_longest n bs k.Word h l e = clash (of_table (heads starts_name) words (92 ∷ take n bs) refl e)
command_longest n bs k.Command h l e =
    too_many is_ascii_alphabetic n bs h l (of_table (tail_passes is_ascii_alphabetic) commands (92 ∷ take n bs) refl e)
command_longest n bs k.Sign h l e = clash (of_table (heads (λ x. not (x == 92))) signs (92 ∷ take n bs) refl e)
command_longest n bs k.Bad h l e =
    elim (either_true (is_bad_byte (92 ∷ take n bs)) _ e) [
      | inl x ↦ not_single 92 n bs (omega arith) l x
      | inr x ↦ too_many is_ascii_alphabetic n bs h l (left_true (list_all is_ascii_alphabetic (take n bs)) _ x)
    ]

-- a longer text that begins with a `/` is no token that is spelled
pub slash_longest : (n : ℕ) (bs : List ℕ) (other : TokenKind) → 1 ≤ n → n ≤ length bs → is_spelled other (47 ∷ take n bs) ≡ true → ⊥
slash_longest n bs k.Identifier h l e = clash e
slash_longest n bs k.Number h l e = clash e
slash_longest n bs k.Word h l e = clash (of_table (heads starts_name) words (47 ∷ take n bs) refl e)
slash_longest n bs k.Command h l e = clash (of_table (heads (λ x. x == 92)) commands (47 ∷ take n bs) refl e)
slash_longest n bs k.Sign h l e = clash (of_table (heads (λ x. not (x == 47))) signs (47 ∷ take n bs) refl e)
slash_longest n bs k.Bad h l e =
    elim (either_true (is_bad_byte (47 ∷ take n bs)) _ e) [ inl x ↦ not_single 47 n bs h l x | inr x ↦ clash x ]

-- no more bytes than the sign has are a sign
abbrev sign_reaches : ℕ → List ℕ → Bool
sign_reaches d [] = false
sign_reaches d (x ∷ []) = true
sign_reaches d (x ∷ y ∷ []) = nat_le 2 (sign_of x y d).len
sign_reaches d (x ∷ y ∷ z ∷ []) = nat_le 3 (sign_of x y z).len
sign_reaches d (x ∷ y ∷ z ∷ v ∷ s) = false

sign_no_longer : (b n : ℕ) (bs : List ℕ) → (sign_of b (get_or bs 0 0) (get_or bs 1 0)).len ≤ n → 1 ≤ n → n ≤ length bs
    → is_one_of signs (b ∷ take n bs) ≡ true → ⊥
sign_no_longer b n [] h o l e = omega arith
sign_no_longer b zero (c ∷ bs) h o l e = omega arith
sign_no_longer b (suc zero) (c ∷ bs) h o l e =
    let r : nat_le 2 (sign_of b c (get_or bs 0 0)).len ≡ true = of_table (sign_reaches (get_or bs 0 0)) signs (b ∷ c ∷ []) refl e in
    omega (arith, leb-true 2 (sign_of b c (get_or bs 0 0)).len r)
sign_no_longer b (suc (suc n)) (c ∷ []) h o l e = omega arith
sign_no_longer b (suc (suc zero)) (c ∷ d ∷ bs) h o l e =
    let r : nat_le 3 (sign_of b c d).len ≡ true = of_table (sign_reaches 0) signs (b ∷ c ∷ d ∷ []) refl e in
    omega (arith, leb-true 3 (sign_of b c d).len r)
sign_no_longer b (suc (suc (suc n))) (c ∷ d ∷ []) h o l e = omega arith
sign_no_longer b (suc (suc (suc n))) (c ∷ d ∷ v ∷ bs) h o l e =
    clash (of_table (sign_reaches 0) signs (b ∷ c ∷ d ∷ v ∷ take n bs) refl e)

-- a longer text that begins with another byte is no token
pub sign_longest : (b n : ℕ) (bs : List ℕ) (other : TokenKind) → starts_name b ≡ false → is_ascii_digit b ≡ false → (b == 92) ≡ false
    → (sign_of b (get_or bs 0 0) (get_or bs 1 0)).len ≤ n → 1 ≤ n → n ≤ length bs → is_spelled other (b ∷ take n bs) ≡ true → ⊥
sign_longest b n bs k.Identifier s d c h o l e =
    clash (sym s ∙ left_true (starts_name b) _ (left_true (is_name (b ∷ take n bs)) _ e))
sign_longest b n bs k.Number s d c h o l e = clash (sym d ∙ left_true (is_ascii_digit b) _ e)
sign_longest b n bs k.Word s d c h o l e = clash (sym s ∙ of_table (heads starts_name) words (b ∷ take n bs) refl e)
sign_longest b n bs k.Command s d c h o l e = clash (sym c ∙ of_table (heads (λ x. x == 92)) commands (b ∷ take n bs) refl e)
sign_longest b n bs k.Sign s d c h o l e = sign_no_longer b n bs h o l e
sign_longest b n bs k.Bad s d c h o l e =
    elim (either_true (is_bad_byte (b ∷ take n bs)) _ e) [
      | inl x ↦ not_single b n bs o l x
      | inr x ↦ clash (sym c ∙ left_true (b == 92) _ (left_true (has_command_form (b ∷ take n bs)) _ x))
    ]
