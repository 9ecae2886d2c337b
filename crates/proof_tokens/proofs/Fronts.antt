-- Names, numbers and entries at the front of bytes, read digit by digit.
use Rattle.std.proofs.Common.{ℕ, suc, ◌≡◌, ◌≤◌, ◌<◌, ◌+◌, ◌-◌, ◌*◌, ◌^◌, ◌==◌, ◌&&◌, ◌||◌, not, Bool, true, false, List, [], ◌∷◌, ◌++◌, length, take, drop, Some, None, if◌then◌else◌, refl, sym, ap, subst, ◌∙◌, append_assoc, arith}
use Rattle.std.specs.Prelude.{nat_lt, slice_index}
use Rattle.std.specs.List.{prefix_len, list_all}
use Rattle.std.specs.Char.{is_ascii_digit}
use Rattle.std.specs.Fmt.{decimal}
use Rattle.std.proofs.lemmas.Bool.{lt-ltb}
use Rattle.std.proofs.lemmas.List.{take-append-drop, length-append}
use Rattle.base_numerals.specs.Numerals.{decimal_value, with_digits}
use Rattle.base_numerals.proofs.Digits.{with_digits_grows}
use Rattle.base_numerals.proofs.Tests.{left_true, right_true}
use Rattle.base_budget.specs.declared.log.Entry.{Entry}
use Rattle.base_budget.specs.declared.log.Entry.TheVariants as e
use Rattle.proof_tokens.specs.declared.tokens.Token.{Token}
use Rattle.proof_tokens.specs.declared.tokens.Token.TheVariants as t
use Rattle.proof_tokens.specs.Reading.{Cuts}
use Rattle.proof_tokens.specs.Scanning.{ends_word}
use Rattle.proof_tokens.specs.declared.tokens.Word.{Word}
use Rattle.proof_tokens.specs.declared.tokens.Word.TheVariants as w
use Rattle.proof_tokens.specs.Spellings.{IsEntry, IsProofToken, entry_spelling, spelling, token_of}
use Rattle.proof_tokens.proofs.Respelled.{ends, one_back}
use Rattle.proof_tokens.specs.Words.{is_empty, is_numeral, numeral_of}
use Rattle.proof_tokens.proofs.Numerals.{numeral_spelled}

abbrev pub digits_of : List ℕ → List ℕ
digits_of text = take (prefix_len is_ascii_digit text) text

abbrev pub behind_digits : List ℕ → List ℕ
behind_digits text = drop (prefix_len is_ascii_digit text) text

-- the digits of a text up to `rest` have this value, and others may follow
pub record Counts (text : List ℕ) (value : ℕ) (rest : List ℕ) : Type 0 where
  pub value_is : with_digits value (digits_of rest) ≡ decimal_value (digits_of text)
  pub behind : behind_digits rest ≡ behind_digits text

-- the first of a front of bytes
one_more : (n : ℕ) → 1 + n ≡ suc n
one_more n = omega arith

take_first : (n d : ℕ) (bs : List ℕ) → take (1 + n) (d ∷ bs) ≡ d ∷ take n bs
take_first n d bs = ap (λ k. take k (d ∷ bs)) (one_more n)

drop_first : (n d : ℕ) (bs : List ℕ) → drop (1 + n) (d ∷ bs) ≡ drop n bs
drop_first n d bs = ap (λ k. drop k (d ∷ bs)) (one_more n)

-- how many digits come where one does, and where none does
len_more : (d : ℕ) (more : List ℕ) → is_ascii_digit d ≡ true → prefix_len is_ascii_digit (d ∷ more) ≡ 1 + prefix_len is_ascii_digit more
len_more d more h = ap (λ q. if q then 1 + prefix_len is_ascii_digit more else 0) h

len_none : (d : ℕ) (more : List ℕ) → is_ascii_digit d ≡ false → prefix_len is_ascii_digit (d ∷ more) ≡ 0
len_none d more h = ap (λ q. if q then 1 + prefix_len is_ascii_digit more else 0) h

digits_more : (d : ℕ) (more : List ℕ) → is_ascii_digit d ≡ true → digits_of (d ∷ more) ≡ d ∷ digits_of more
digits_more d more h = ap (λ n. take n (d ∷ more)) (len_more d more h) ∙ take_first (prefix_len is_ascii_digit more) d more

behind_more : (d : ℕ) (more : List ℕ) → is_ascii_digit d ≡ true → behind_digits (d ∷ more) ≡ behind_digits more
behind_more d more h = ap (λ n. drop n (d ∷ more)) (len_more d more h) ∙ drop_first (prefix_len is_ascii_digit more) d more

-- one more digit
pub more_count : (text rest more : List ℕ) (value next d : ℕ) → rest ≡ d ∷ more → is_ascii_digit d ≡ true → next ≡ 10 * value + (d - 48) → Counts text value rest → Counts text next more
more_count text rest more value next d e h n c =
    let digits : digits_of rest ≡ d ∷ digits_of more = ap digits_of e ∙ digits_more d more h in
    let back : behind_digits rest ≡ behind_digits more = ap behind_digits e ∙ behind_more d more h in
    record {
      value_is = ap (λ v. with_digits v (digits_of more)) n ∙ sym (ap (with_digits value) digits) ∙ c.value_is;
      behind = sym back ∙ c.behind;
    }

-- one more digit makes the number too great
pub too_many : (text rest more : List ℕ) (value d : ℕ) → rest ≡ d ∷ more → is_ascii_digit d ≡ true → 2 ^ 32 ≤ 10 * value + (d - 48) → Counts text value rest → 2 ^ 32 ≤ decimal_value (digits_of text)
too_many text rest more value d e h great c =
    let is : with_digits (10 * value + (d - 48)) (digits_of more) ≡ decimal_value (digits_of text) = sym (ap (with_digits value) (ap digits_of e ∙ digits_more d more h)) ∙ c.value_is in
    let up = with_digits_grows (10 * value + (d - 48)) (digits_of more) in omega (arith, great, up, is)

-- they are digits
digits_pass_by : (b : ℕ) (bs : List ℕ) (v : Bool) → is_ascii_digit b ≡ v → list_all is_ascii_digit (digits_of bs) ≡ true → list_all is_ascii_digit (digits_of (b ∷ bs)) ≡ true
digits_pass_by b bs true e h = ap (list_all is_ascii_digit) (digits_more b bs e) ∙ ap (λ q. q && list_all is_ascii_digit (digits_of bs)) e ∙ h
digits_pass_by b bs false e h = ap (λ n. list_all is_ascii_digit (take n (b ∷ bs))) (len_none b bs e)

digits_pass : (bs : List ℕ) → list_all is_ascii_digit (digits_of bs) ≡ true
digits_pass [] = refl
digits_pass (b ∷ bs) = digits_pass_by b bs (is_ascii_digit b) refl (digits_pass bs)

-- whether the digits at the front are a numeral: one comes, and no 0 before others
numeral_by : (first : ℕ) (behind : List ℕ) → is_ascii_digit first ≡ true → (not (first == 48) || is_empty (digits_of behind)) ≡ true → is_numeral (digits_of (first ∷ behind)) ≡ true
numeral_by first behind h z = ap is_numeral (digits_more first behind h) ∙ three (is_ascii_digit first) (list_all is_ascii_digit (digits_of behind)) (not (first == 48) || is_empty (digits_of behind)) h (digits_pass behind) z
  where
    three : (a b c : Bool) → a ≡ true → b ≡ true → c ≡ true → (a && b && c) ≡ true
    three a b c p q r = rw (p, q, r) refl

-- the digits at the front, and what is after them, are the text
parted : (text : List ℕ) → text ≡ digits_of text ++ behind_digits text
parted text = sym (take-append-drop (prefix_len is_ascii_digit text) text)

-- a numeral below 2^32 at the front of a text
pub numeral_front : (first : ℕ) (behind text rest : List ℕ) (value : ℕ) → text ≡ first ∷ behind → is_ascii_digit first ≡ true → value < 2 ^ 32 → (not (first == 48) || is_empty (digits_of behind)) ≡ true
    → value ≡ decimal_value (digits_of text) → rest ≡ behind_digits text → text ≡ decimal value ++ rest
numeral_front first behind text rest value e h small z v r =
    let numeral = ap (λ w. is_numeral (digits_of w)) e ∙ numeral_by first behind h z in
    let found : numeral_of (2 ^ 32) (digits_of text) ≡ Some value =
    ap (λ q. if q && nat_lt (decimal_value (digits_of text)) (2 ^ 32) then Some (decimal_value (digits_of text)) else None) numeral
    ∙ ap (λ n. if nat_lt n (2 ^ 32) then Some n else None) (sym v)
    ∙ ap (λ q. if q then Some value else None) (lt-ltb value (2 ^ 32) small) in
    let spelled = numeral_spelled (2 ^ 32) (digits_of text) value (omega arith) found in
    parted text ∙ ap (λ w. w ++ behind_digits text) spelled.0 ∙ ap (λ w. decimal value ++ w) (sym r)

-- where a 0 comes first, no digit may follow
canonical_front : (first : ℕ) (behind : List ℕ) → (not (first == 48) || not (is_ascii_digit (slice_index behind 0))) ≡ true → (not (first == 48) || is_empty (digits_of behind)) ≡ true
canonical_front first behind h = either (not (first == 48)) (not (is_ascii_digit (slice_index behind 0))) (is_empty (digits_of behind)) h (λ n. nothing_of behind n)
  where
    either : (a b c : Bool) → (a || b) ≡ true → (b ≡ true → c ≡ true) → (a || c) ≡ true
    either true b c h go = refl
    either false b c h go = go h

    nothing_by : (b : ℕ) (bs : List ℕ) (v : Bool) → is_ascii_digit b ≡ v → not v ≡ true → is_empty (digits_of (b ∷ bs)) ≡ true
    nothing_by b bs true e h = absurd (cc)
    nothing_by b bs false e h = ap (λ n. is_empty (take n (b ∷ bs))) (len_none b bs e)

    nothing_of : (bs : List ℕ) → not (is_ascii_digit (slice_index bs 0)) ≡ true → is_empty (digits_of bs) ≡ true
    nothing_of [] h = refl
    nothing_of (b ∷ bs) h = nothing_by b bs (is_ascii_digit b) refl h

-- a numeral begins
pub begins : (first : ℕ) (behind : List ℕ) → (is_ascii_digit first && (not (first == 48) || not (is_ascii_digit (slice_index behind 0)))) ≡ true
    → (is_ascii_digit first ≡ true) × ((not (first == 48) || is_empty (digits_of behind)) ≡ true)
begins first behind h =
    let next = not (first == 48) || not (is_ascii_digit (slice_index behind 0)) in
    (left_true (is_ascii_digit first) next h, canonical_front first behind (right_true (is_ascii_digit first) next h))

-- a word at the front of a text
pub word_front : (x : Token) (text rest : List ℕ) → IsProofToken x → text ≡ spelling x ++ rest → ends_word rest ≡ true → Cuts (x ∷ []) text rest
word_front x text rest is e h = subst (λ z. Cuts (x ∷ []) z rest) (sym e) (one_back x rest is (λ _. ends rest h))

pub word_is_token : (x : Word) → IsProofToken (token_of x)
word_is_token w.PrincessProof = tt
word_is_token w.Parts = tt
word_is_token w.Part = tt
word_is_token w.Charges = tt
word_is_token w.Log = tt
word_is_token w.Gives = tt

pub word_longer : (word text rest : List ℕ) → 0 < length word → text ≡ word ++ rest → length rest < length text
word_longer word text rest some e = let p = ap length e ∙ length-append word rest in omega (arith, some, p)

-- a name, or a number, at the front of a text
pub name_front : (x : ℕ) (text behind rest : List ℕ) → x < 2 ^ 32 → text ≡ 99 ∷ behind → behind ≡ decimal x ++ rest → ends_word rest ≡ true → Cuts (t.Name x ∷ []) text rest
name_front x text behind rest small e d h = word_front (t.Name x) text rest small (e ∙ ap (λ z. 99 ∷ z) d) h

pub number_front : (n : ℕ) (text rest : List ℕ) → n < 2 ^ 32 → text ≡ decimal n ++ rest → ends_word rest ≡ true → Cuts (t.Number n ∷ []) text rest
number_front n text rest small e h = word_front (t.Number n) text rest (omega arith) e h

-- an entry at the front of a text
pub lettered_front : (b : ℕ) (x : Entry) (i : ℕ) (text behind rest : List ℕ) → IsEntry x → entry_spelling x ≡ b ∷ decimal i → text ≡ b ∷ behind → behind ≡ decimal i ++ rest → ends_word rest ≡ true → Cuts (t.Step x ∷ []) text rest
lettered_front b x i text behind rest small is e d h =
    word_front (t.Step x) text rest small (e ∙ ap (λ z. b ∷ z) d ∙ sym (ap (λ z. z ++ rest) is)) h

pub merge_front : (i j : ℕ) (text behind rest : List ℕ) → i < 2 ^ 32 → j < 2 ^ 32 → text ≡ 109 ∷ behind → behind ≡ decimal i ++ 44 ∷ (decimal j ++ rest) → ends_word rest ≡ true → Cuts (t.Step (e.Merge i j) ∷ []) text rest
merge_front i j text behind rest small less is d h =
    word_front (t.Step (e.Merge i j)) text rest (small, less) (is ∙ ap (λ z. 109 ∷ z) (d ∙ sym (append_assoc (decimal i) (44 ∷ decimal j) rest))) h

-- what is after a numeral is shorter than the text
behind_less : (bs : List ℕ) → length (behind_digits bs) ≤ length bs
behind_less bs = let p = ap length (parted bs) ∙ length-append (digits_of bs) (behind_digits bs) in omega (arith, p)

pub numeral_longer : (first : ℕ) (behind text rest : List ℕ) → text ≡ first ∷ behind → is_ascii_digit first ≡ true → rest ≡ behind_digits text → length rest < length text
numeral_longer first behind text rest e h r = let p = ap length (r ∙ ap behind_digits e ∙ behind_more first behind h) in let q = behind_less behind in let l = ap length e in omega (arith, p, q, l)
