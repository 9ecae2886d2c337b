-- Words that spell numbers and integers.
use Rattle.std.proofs.Common.{ℕ, zero, suc, ◌≡◌, ◌≤◌, ◌<◌, ◌^◌, ◌==◌, ◌||◌, not, ℤ, pos, negsuc, Bool, true, false, cond, List, [], ◌∷◌, ◌++◌, Option, Some, None, refl, sym, ap, subst, ◌∙◌, arith}
use Rattle.std.specs.Prelude.{int_lt, neg_ℤ, unsigned_abs, nat_eq}
use Rattle.std.specs.Option.{option_map}
use Rattle.std.specs.List.{list_all}
use Rattle.std.specs.Char.{is_ascii_digit}
use Rattle.std.specs.Fmt.{decimal}
use Rattle.std.proofs.lemmas.Int.{ints}
use Rattle.std.proofs.lemmas.Bool.Decides.{nat_tests}
use Rattle.base_numerals.proofs.Tests.{left_true, right_true}
use Rattle.linear_term.specs.Range.{InRange}
use Rattle.proof_tokens.specs.Words.{is_empty, is_numeral}
use Rattle.proof_tokens.proofs.Numerals.{numeral_spelled, three_true}
use Rattle.proof_tokens.proofs.Decimals.{decimal_is, numeral_back}
use Rattle.clause_words.specs.Tokens.{in_word}
use Rattle.clause_words.specs.Numbers.{index_of, integer_of, signed, size_of, some_size}
use Rattle.clause_words.specs.Spelling.{integer_text, is_plain, IsSpelling}

-- ---- digits

digit_in_word : (b : ℕ) → is_ascii_digit b ≡ true → in_word b ≡ true
digit_in_word b h = grind (arith, nat_tests)

pub digits_in_word : (w : List ℕ) → list_all is_ascii_digit w ≡ true → list_all in_word w ≡ true
digits_in_word [] h = refl
digits_in_word (b ∷ bs) h = rw (digit_in_word b (left_true (is_ascii_digit b) (list_all is_ascii_digit bs) h)) (digits_in_word bs (right_true (is_ascii_digit b) (list_all is_ascii_digit bs) h))

-- what a numeral is: a digit, and digits
pub numeral_parts : (d : ℕ) (ds : List ℕ) → is_numeral (d ∷ ds) ≡ true → (is_ascii_digit d ≡ true) × (list_all is_ascii_digit ds ≡ true)
numeral_parts d ds h = let t = three_true (is_ascii_digit d) (list_all is_ascii_digit ds) (not (d == 48) || is_empty ds) h in (t.0, t.1)

pub numeral_plain : (w : List ℕ) → is_numeral w ≡ true → is_plain w ≡ true
numeral_plain [] h = absurd cc
numeral_plain (d ∷ ds) h = let t = numeral_parts d ds h in rw (digit_in_word d t.0) (digits_in_word ds t.1)

pub decimal_plain : (n : ℕ) → n < 10 ^ 64 → is_plain (decimal n) ≡ true
decimal_plain n h = numeral_plain (decimal n) (decimal_is n h).numeral

-- ---- numbers below 2^32

pub index_spelling : IsSpelling (λ n. n < 2 ^ 32) decimal index_of
index_spelling = record {
  found = λ x v e. let q = numeral_spelled (2 ^ 32) x v (omega arith) e in (q.1, q.0);
  again = λ v i. numeral_back (2 ^ 32) v i (omega arith);
  plain = λ v i. decimal_plain v (omega arith);
  some = 0;
  some_is = omega arith;
}

-- ---- integers

not_below : (n : ℕ) → int_lt (pos n) (pos 0) ≡ false
not_below n = grind (arith, ints)

pub below : (n : ℕ) → 1 ≤ n → int_lt (neg_ℤ (pos n)) (pos 0) ≡ true
below zero h = absurd (omega arith)
below (suc n) h = refl

pub size_below : (n : ℕ) → unsigned_abs (neg_ℤ (pos n)) ≡ n
size_below zero = refl
size_below (suc n) = refl

pub negative_text : (n : ℕ) → 1 ≤ n → integer_text (neg_ℤ (pos n)) ≡ 45 ∷ decimal n
negative_text n h = ap (λ b. cond b (45 ∷ []) [] ++ decimal (unsigned_abs (neg_ℤ (pos n)))) (below n h) ∙ ap (λ k. 45 ∷ decimal k) (size_below n)

positive_text : (n : ℕ) → integer_text (pos n) ≡ decimal n
positive_text n = ap (λ b. cond b (45 ∷ []) [] ++ decimal n) (not_below n)

not_none : (n : ℕ) → nat_eq (suc n) 0 ≡ false
not_none n = grind (arith, nat_tests)

some_suc : (n : ℕ) → some_size (Some (suc n)) ≡ Some (suc n)
some_suc n = ap (λ b. cond b None (Some (suc n))) (not_none n)

negative_found : (bs : List ℕ) (v : ℤ) (o : Option ℕ) → size_of bs ≡ o → option_map (signed true) (some_size o) ≡ Some v → InRange v × (45 ∷ bs ≡ integer_text v)
negative_found bs v None p e = absurd cc
negative_found bs v (Some zero) p e = absurd cc
negative_found bs v (Some (suc n)) p e =
    let q = numeral_spelled (2 ^ 127) bs (suc n) (omega arith) p in
    let f : Some (neg_ℤ (pos (suc n))) ≡ Some v = ap (option_map (signed true)) (sym (some_suc n)) ∙ e in
    let is : neg_ℤ (pos (suc n)) ≡ v = cc in
    subst (λ z. InRange z × (45 ∷ bs ≡ integer_text z)) is (q.1, ap (λ z. 45 ∷ z) q.0 ∙ sym (negative_text (suc n) (omega arith)))

positive_found : (w : List ℕ) (v : ℤ) (o : Option ℕ) → size_of w ≡ o → option_map pos o ≡ Some v → InRange v × (w ≡ integer_text v)
positive_found w v None p e = absurd cc
positive_found w v (Some n) p e =
    let q = numeral_spelled (2 ^ 127) w n (omega arith) p in
    let is : pos n ≡ v = cc in
    subst (λ z. InRange z × (w ≡ integer_text z)) is (q.1, q.0 ∙ sym (positive_text n))

integer_found : (x : List ℕ) (v : ℤ) → integer_of x ≡ Some v → InRange v × (x ≡ integer_text v)
integer_found [] v e = absurd cc
integer_found (b ∷ bs) v e = by (b == 45) refl e
  where
    at : (c : ℕ) → (c == 45) ≡ true → c ≡ 45
    at c h = grind (arith, nat_tests)

    by : (u : Bool) → (b == 45) ≡ u → cond u (option_map (signed true) (some_size (size_of bs))) (option_map pos (size_of (b ∷ bs))) ≡ Some v → InRange v × (b ∷ bs ≡ integer_text v)
    by true p e = let q = negative_found bs v (size_of bs) refl e in (q.0, ap (λ z. z ∷ bs) (at b p) ∙ q.1)
    by false p e = positive_found (b ∷ bs) v (size_of (b ∷ bs)) refl e

not_minus : (d : ℕ) → is_ascii_digit d ≡ true → (d == 45) ≡ false
not_minus d h = grind (arith, nat_tests)

unsigned_by : (w : List ℕ) → is_numeral w ≡ true → integer_of w ≡ option_map pos (size_of w)
unsigned_by [] h = absurd cc
unsigned_by (d ∷ ds) h =
    ap (λ u. cond u (option_map (signed true) (some_size (size_of ds))) (option_map pos (size_of (d ∷ ds)))) (not_minus d (numeral_parts d ds h).0)

integer_again : (v : ℤ) → InRange v → integer_of (integer_text v) ≡ Some v
integer_again (pos n) i =
    ap integer_of (positive_text n) ∙ unsigned_by (decimal n) (decimal_is n (let h : n < 2 ^ 127 = i in omega arith)).numeral
    ∙ ap (option_map pos) (numeral_back (2 ^ 127) n i (let h : n < 2 ^ 127 = i in omega arith))
integer_again (negsuc n) i =
    ap (λ o. option_map (signed true) (some_size o)) (numeral_back (2 ^ 127) (suc n) i (let h : suc n < 2 ^ 127 = i in omega arith)) ∙ ap (option_map (signed true)) (some_suc n)

integer_plain : (v : ℤ) → InRange v → is_plain (integer_text v) ≡ true
integer_plain (pos n) i = ap is_plain (positive_text n) ∙ decimal_plain n (let h : n < 2 ^ 127 = i in omega arith)
integer_plain (negsuc n) i = plain_behind (decimal (suc n)) (decimal_plain (suc n) (let h : suc n < 2 ^ 127 = i in omega arith))
  where
    plain_behind : (w : List ℕ) → is_plain w ≡ true → is_plain (45 ∷ w) ≡ true
    plain_behind [] h = refl
    plain_behind (b ∷ bs) h = h

pub integer_spelling : IsSpelling InRange integer_text integer_of
integer_spelling = record {
  found = integer_found;
  again = integer_again;
  plain = integer_plain;
  some = pos 0;
  some_is = let z : 0 < 2 ^ 127 = omega arith in z;
}
