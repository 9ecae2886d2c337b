-- Spellings of tokens one after another are cut into these tokens.
use Rattle.std.proofs.Common.{ℕ, ◌≡◌, ◌<◌, ◌+◌, ◌^◌, ◌==◌, ◌&&◌, ◌||◌, not, Bool, true, false, List, [], ◌∷◌, ◌++◌, length, take, drop, Some, if◌then◌else◌, refl, sym, ap, subst, ◌∙◌, append_assoc, arith}
use Rattle.std.specs.Prelude.{slice_index, codes, cond}
use Rattle.std.specs.List.{prefix_len, list_all, list_any}
use Rattle.std.specs.Str.{bytes_eq}
use Rattle.std.specs.Fmt.{decimal}
use Rattle.std.specs.Char.{is_ascii_digit, is_ascii_alphabetic}
use Rattle.std.proofs.lemmas.Bool.{false≢true}
use Rattle.base_numerals.proofs.Tests.{if_begins, left_true, right_true}
use Rattle.base_budget.specs.declared.log.Entry.{Entry}
use Rattle.base_budget.specs.declared.log.Entry.TheVariants as e
use Rattle.proof_tokens.specs.declared.tokens.Token.{Token}
use Rattle.proof_tokens.specs.declared.tokens.Token.TheVariants as t
use Rattle.proof_tokens.specs.Words.{is_empty, is_numeral, numeral_of, index_of, merge_with, merge_behind, merge_of, token_or_bad, figure_of, word_of}
use Rattle.proof_tokens.specs.Scanning.{ends_word, is_word_byte, joins, word_len, piece, piece_of, first_piece_of}
use Rattle.proof_tokens.specs.Spellings.{IsEntry, IsProofToken, is_sign, NextIsSign, AreSpaced, entry_spelling, spelling, spelled}
use Rattle.proof_tokens.specs.Reading.{Cuts}
use Rattle.proof_tokens.proofs.Figures.{has_digit, not_same, figure_is}
use Rattle.proof_tokens.proofs.Numerals.{three_true}
use Rattle.proof_tokens.proofs.Decimals.{decimal_is, numeral_back}

-- the bytes pass the test up to here
abbrev pub Stops : (ℕ → Bool) → List ℕ → Type 0
Stops f [] = Unit {0}
Stops f (b ∷ bs) = f b ≡ false

pub run_is : (f : ℕ → Bool) (w rest : List ℕ) → list_all f w ≡ true → Stops f rest → prefix_len f (w ++ rest) ≡ length w
run_is f [] [] h e = refl
run_is f [] (b ∷ rest) h e = ap (λ q. cond q (1 + prefix_len f rest) 0) e
run_is f (b ∷ w) rest h e = ap (λ q. cond q (1 + prefix_len f (w ++ rest)) 0) (left_true (f b) (list_all f w) h) ∙ ap (λ k. 1 + k) (run_is f w rest (right_true (f b) (list_all f w) h) e) ∙ (omega arith)

pub take_all : (bs rest : List ℕ) → take (length bs) (bs ++ rest) ≡ bs
take_all [] rest = refl
take_all (b ∷ bs) rest = ap (λ w. b ∷ w) (take_all bs rest)

pub drop_all : (bs rest : List ℕ) → drop (length bs) (bs ++ rest) ≡ rest
drop_all [] rest = refl
drop_all (b ∷ bs) rest = drop_all bs rest

-- what may stand directly after a word
abbrev pub EndsWord : List ℕ → Type 0
EndsWord [] = Unit {0}
EndsWord (b ∷ bs) = (is_word_byte b ≡ false) × ((b == 44) ≡ false)

neither : (a b : Bool) → (not a && not b) ≡ true → (a ≡ false) × (b ≡ false)
neither true b h = absurd (cc)
neither false true h = absurd (cc)
neither false false h = (refl, refl)

pub ends : (rest : List ℕ) → ends_word rest ≡ true → EndsWord rest
ends [] h = tt
ends (b ∷ bs) h = neither (is_word_byte b) (b == 44) h

stops_word : (rest : List ℕ) → EndsWord rest → Stops is_word_byte rest
stops_word [] h = tt
stops_word (b ∷ bs) h = h.0

joins_none : (w rest : List ℕ) → bytes_eq w (codes "princess") ≡ false → EndsWord rest → joins w rest ≡ false
joins_none w [] n h = refl
joins_none w (b ∷ bs) n h = if_begins (λ v. v ≡ false) (b == 45) (bytes_eq w (codes "princess")) _ (λ _. n) (λ _. ap (λ v. v && (is_ascii_digit (slice_index bs 0) && Rattle.proof_tokens.specs.Scanning.is_merge w)) h.1)

len_is : (w rest : List ℕ) → list_all is_word_byte w ≡ true → bytes_eq w (codes "princess") ≡ false → EndsWord rest → word_len (w ++ rest) ≡ length w
len_is w rest all n h =
    let text = w ++ rest in let k = length w in
    ap (λ m. if joins (take m text) (drop m text) then m + 1 + prefix_len is_word_byte (drop 1 (drop m text)) else m) (run_is is_word_byte w rest all (stops_word rest h))
    ∙ ap (λ z. if joins z (drop k text) then k + 1 + prefix_len is_word_byte (drop 1 (drop k text)) else k) (take_all w rest)
    ∙ ap (λ z. if joins w z then k + 1 + prefix_len is_word_byte (drop 1 z) else k) (drop_all w rest)
    ∙ ap (λ v. if v then k + 1 + prefix_len is_word_byte (drop 1 rest) else k) (joins_none w rest n h)

joined_len : (w : List ℕ) (c : ℕ) (v rest : List ℕ) → list_all is_word_byte w ≡ true → is_word_byte c ≡ false → list_all is_word_byte v ≡ true → joins w (c ∷ (v ++ rest)) ≡ true → EndsWord rest
    → word_len (w ++ (c ∷ (v ++ rest))) ≡ length w + (1 + length v)
joined_len w c v rest all stop more j h =
    let behind = c ∷ (v ++ rest) in let text = w ++ behind in let k = length w in
    ap (λ m. if joins (take m text) (drop m text) then m + 1 + prefix_len is_word_byte (drop 1 (drop m text)) else m) (run_is is_word_byte w behind all stop)
    ∙ ap (λ z. if joins z (drop k text) then k + 1 + prefix_len is_word_byte (drop 1 (drop k text)) else k) (take_all w behind)
    ∙ ap (λ z. if joins w z then k + 1 + prefix_len is_word_byte (drop 1 z) else k) (drop_all w behind)
    ∙ ap (λ q. if q then k + 1 + prefix_len is_word_byte (v ++ rest) else k) j
    ∙ ap (λ m. k + 1 + m) (run_is is_word_byte v rest more (stops_word rest h))
    ∙ (omega arith)

-- the token of a word of this length
piece_by : (b : ℕ) (text : List ℕ) (n : ℕ) → is_word_byte b ≡ true → word_len (b ∷ text) ≡ n → first_piece_of (b ∷ text) ≡ Some (piece n (b ∷ text))
piece_by b text n h e = ap (λ v. Some (if v then piece (word_len (b ∷ text)) (b ∷ text) else (if b == 62 && slice_index text 0 == 61 then record { token = t.AtLeast; len = 2 } else record { token = Rattle.proof_tokens.specs.Words.sign_of b; len = 1 }))) h
    ∙ ap (λ k. Some (piece k (b ∷ text))) e

-- the bytes are those of the token, before any bytes that may stand after it
abbrev Back : List ℕ → Token → List ℕ → Type 0
Back w x rest = first_piece_of (w ++ rest) ≡ Some (record { token = x; len = length w })

word_back : (w rest : List ℕ) (x : Token) → 0 < length w → list_all is_word_byte w ≡ true → bytes_eq w (codes "princess") ≡ false → word_of w ≡ x → EndsWord rest → Back w x rest
word_back [] rest x some all n is h = absurd (omega arith)
word_back (b ∷ bs) rest x some all n is h =
    piece_by b (bs ++ rest) (length (b ∷ bs)) (left_true (is_word_byte b) (list_all is_word_byte bs) all) (len_is (b ∷ bs) rest all n h)
    ∙ ap (λ z. Some (record { token = word_of z; len = length (b ∷ bs) })) (take_all (b ∷ bs) rest)
    ∙ ap (λ z. Some (record { token = z; len = length (b ∷ bs) })) is

length_joined : (w : List ℕ) (c : ℕ) (v : List ℕ) → length (w ++ (c ∷ v)) ≡ length w + (1 + length v)
length_joined [] c v = omega arith
length_joined (b ∷ w) c v = let h = length_joined w c v in omega (arith, h)

joined_back : (b : ℕ) (bs : List ℕ) (c : ℕ) (v rest : List ℕ) (x : Token) → list_all is_word_byte (b ∷ bs) ≡ true → is_word_byte c ≡ false → list_all is_word_byte v ≡ true → joins (b ∷ bs) (c ∷ (v ++ rest)) ≡ true
    → word_of (b ∷ (bs ++ (c ∷ v))) ≡ x → EndsWord rest → Back (b ∷ (bs ++ (c ∷ v))) x rest
joined_back b bs c v rest x all stop more j is h =
    let w = b ∷ (bs ++ (c ∷ v)) in
    let apart : w ++ rest ≡ b ∷ (bs ++ (c ∷ (v ++ rest))) = append_assoc (b ∷ bs) (c ∷ v) rest in
    let n : word_len (w ++ rest) ≡ length w = ap word_len apart ∙ joined_len (b ∷ bs) c v rest all stop more j h ∙ sym (length_joined (b ∷ bs) c v) in
    piece_by b ((bs ++ (c ∷ v)) ++ rest) (length w) (left_true (is_word_byte b) (list_all is_word_byte bs) all) n
    ∙ ap (λ z. Some (record { token = word_of z; len = length w })) (take_all w rest)
    ∙ ap (λ z. Some (record { token = z; len = length w })) is

-- Numerals.

pub record Numeral (w : List ℕ) : Type 0 where
  pub digits : list_all is_ascii_digit w ≡ true
  pub some : 0 < length w

numeral_digits : (w : List ℕ) → is_numeral w ≡ true → Numeral w
numeral_digits [] h = absurd (cc)
numeral_digits (d ∷ ds) h =
    let q = three_true (is_ascii_digit d) (list_all is_ascii_digit ds) (not (d == 48) || is_empty ds) h in
    record { digits = ap (λ v. v && list_all is_ascii_digit ds) q.0 ∙ q.1; some = omega arith }

pub decimal_digits : (n : ℕ) → n < 2 ^ 127 → Numeral (decimal n)
decimal_digits n h = numeral_digits (decimal n) (decimal_is n (omega arith)).numeral

digit_is_word : (b : ℕ) → is_ascii_digit b ≡ true → is_word_byte b ≡ true
digit_is_word b h = ap (λ v. is_ascii_alphabetic b || v) h ∙ or_true (is_ascii_alphabetic b)
  where
    or_true : (a : Bool) → (a || true) ≡ true
    or_true true = refl
    or_true false = refl

digits_are_word : (ds : List ℕ) → list_all is_ascii_digit ds ≡ true → list_all is_word_byte ds ≡ true
digits_are_word [] h = refl
digits_are_word (d ∷ ds) h =
    ap (λ v. v && list_all is_word_byte ds) (digit_is_word d (left_true (is_ascii_digit d) (list_all is_ascii_digit ds) h)) ∙ digits_are_word ds (right_true (is_ascii_digit d) (list_all is_ascii_digit ds) h)

some_digit : (ds : List ℕ) → Numeral ds → has_digit ds ≡ true
some_digit [] h = let s = h.some in absurd (omega arith)
some_digit (d ∷ ds) h = ap (λ v. v || has_digit ds) (left_true (is_ascii_digit d) (list_all is_ascii_digit ds) h.digits)

figure_number : (w : List ℕ) (n : ℕ) → Numeral w → numeral_of (2 ^ 127) w ≡ Some n → figure_of w ≡ t.Number n
figure_number [] n h e = let s = h.some in absurd (omega arith)
figure_number (d ∷ ds) n h e =
    ap (λ v. if v then token_or_bad t.Number (numeral_of (2 ^ 127) (d ∷ ds)) else (if d == 99 then token_or_bad t.Name (index_of ds) else (if d == 117 then token_or_bad t.Use (index_of ds) else token_or_bad t.Step (Rattle.proof_tokens.specs.Words.entry_of d ds))))
    (left_true (is_ascii_digit d) (list_all is_ascii_digit ds) h.digits) ∙ ap (token_or_bad t.Number) e

number_back : (n : ℕ) (rest : List ℕ) → n < 2 ^ 127 → EndsWord rest → Back (decimal n) (t.Number n) rest
number_back n rest fits h =
    let i = decimal_digits n fits in
    word_back (decimal n) rest (t.Number n) i.some (digits_are_word (decimal n) i.digits) (not_same (decimal n) (codes "princess") (some_digit (decimal n) i) refl)
    (figure_is (decimal n) (some_digit (decimal n) i) ∙ figure_number (decimal n) n i (numeral_back (2 ^ 127) n fits (omega arith))) h

-- a letter and the digits of a position
lettered_back : (c n : ℕ) (rest : List ℕ) (x : Token) → n < 2 ^ 32 → is_word_byte c ≡ true → is_ascii_digit c ≡ false → (index_of (decimal n) ≡ Some n → figure_of (c ∷ decimal n) ≡ x) → EndsWord rest → Back (c ∷ decimal n) x rest
lettered_back c n rest x fits letter sure is h =
    let i = decimal_digits n (omega arith) in let w = c ∷ decimal n in
    let digit : has_digit w ≡ true = ap (λ v. v || has_digit (decimal n)) sure ∙ some_digit (decimal n) i in
    word_back w rest x (omega arith) (ap (λ v. v && list_all is_word_byte (decimal n)) letter ∙ digits_are_word (decimal n) i.digits) (not_same w (codes "princess") digit refl)
    (figure_is w digit ∙ is (numeral_back (2 ^ 32) n fits (omega arith))) h

merge_is : (i j : ℕ) → i < 2 ^ 32 → j < 2 ^ 32 → merge_of (decimal i ++ 44 ∷ decimal j) ≡ Some (e.Merge i j)
merge_is i j h k =
    let text = decimal i ++ 44 ∷ decimal j in let d = decimal_digits i (omega arith) in
    ap (λ n. merge_behind (take n text) (drop n text)) (run_is is_ascii_digit (decimal i) (44 ∷ decimal j) d.digits refl)
    ∙ ap (λ z. merge_behind z (drop (length (decimal i)) text)) (take_all (decimal i) (44 ∷ decimal j))
    ∙ ap (λ z. merge_behind (decimal i) z) (drop_all (decimal i) (44 ∷ decimal j))
    ∙ ap (λ o. merge_with o (index_of (decimal j))) (numeral_back (2 ^ 32) i h (omega arith))
    ∙ ap (λ o. merge_with (Some i) o) (numeral_back (2 ^ 32) j k (omega arith))

some_digit_behind : (w v : List ℕ) → has_digit w ≡ true → has_digit (w ++ v) ≡ true
some_digit_behind [] v h = absurd (false≢true h)
some_digit_behind (b ∷ w) v h = some_by (is_ascii_digit b) w v h (λ g. some_digit_behind w v g)
  where
    some_by : (q : Bool) (w v : List ℕ) → (q || has_digit w) ≡ true → (has_digit w ≡ true → has_digit (w ++ v) ≡ true) → (q || has_digit (w ++ v)) ≡ true
    some_by true w v h go = refl
    some_by false w v h go = go h

merge_joins : (i : List ℕ) (j rest : List ℕ) → Numeral i → Numeral j → joins (109 ∷ i) (44 ∷ (j ++ rest)) ≡ true
merge_joins i [] rest h k = let s = k.some in absurd (omega arith)
merge_joins [] (d ∷ ds) rest h k = let s = h.some in absurd (omega arith)
merge_joins (c ∷ cs) (d ∷ ds) rest h k =
    ap (λ v. v && (true && list_all is_ascii_digit (c ∷ cs))) (left_true (is_ascii_digit d) (list_all is_ascii_digit ds) k.digits) ∙ h.digits

merge_back : (i j : ℕ) (rest : List ℕ) → i < 2 ^ 32 → j < 2 ^ 32 → EndsWord rest → Back (109 ∷ (decimal i ++ 44 ∷ decimal j)) (t.Step (e.Merge i j)) rest
merge_back i j rest h k ends =
    let d = decimal_digits i (omega arith) in let u = decimal_digits j (omega arith) in
    joined_back 109 (decimal i) 44 (decimal j) rest (t.Step (e.Merge i j)) (digits_are_word (decimal i) d.digits) refl (digits_are_word (decimal j) u.digits) (merge_joins (decimal i) (decimal j) rest d u)
    (figure_is (109 ∷ (decimal i ++ 44 ∷ decimal j)) (some_digit_behind (decimal i) (44 ∷ decimal j) (some_digit (decimal i) d)) ∙ ap (token_or_bad t.Step) (merge_is i j h k)) ends

entry_back : (s : Entry) (rest : List ℕ) → IsEntry s → EndsWord rest → Back (entry_spelling s) (t.Step s) rest
entry_back (e.Equation i) rest f h = lettered_back 101 i rest (t.Step (e.Equation i)) f refl refl (λ q. ap (λ o. token_or_bad t.Step (Rattle.std.specs.Option.option_map e.Equation o)) q) h
entry_back (e.Apart i) rest f h = lettered_back 110 i rest (t.Step (e.Apart i)) f refl refl (λ q. ap (λ o. token_or_bad t.Step (Rattle.std.specs.Option.option_map e.Apart o)) q) h
entry_back (e.Merge i j) rest f h = merge_back i j rest f.0 f.1 h
entry_back (e.Shift i) rest f h = lettered_back 115 i rest (t.Step (e.Shift i)) f refl refl (λ q. ap (λ o. token_or_bad t.Step (Rattle.std.specs.Option.option_map e.Shift o)) q) h
entry_back e.OneSided rest f h = word_back (codes "o") rest (t.Step e.OneSided) (omega arith) refl refl refl h
entry_back e.Exact rest f h = word_back (codes "x") rest (t.Step e.Exact) (omega arith) refl refl refl h
entry_back e.Dark rest f h = word_back (codes "d") rest (t.Step e.Dark) (omega arith) refl refl refl h

-- what has to stand after a token
abbrev pub Follows : Token → List ℕ → Type 0
Follows x rest = is_sign x ≡ false → EndsWord rest

keyword_back : (w rest : List ℕ) (x : Token) → 0 < length w → list_all is_word_byte w ≡ true → bytes_eq w (codes "princess") ≡ false → word_of w ≡ x → is_sign x ≡ false → Follows x rest → Back w x rest
keyword_back w rest x some all n is word h = word_back w rest x some all n is (h word)

token_back : (x : Token) (rest : List ℕ) → IsProofToken x → Follows x rest → Back (spelling x) x rest
token_back t.PrincessProof rest f h = joined_back 112 (codes "rincess") 45 (codes "proof") rest t.PrincessProof refl refl refl refl refl (h refl)
token_back t.Parts rest f h = keyword_back (codes "parts") rest t.Parts (omega arith) refl refl refl refl h
token_back t.Part rest f h = keyword_back (codes "part") rest t.Part (omega arith) refl refl refl refl h
token_back t.Charges rest f h = keyword_back (codes "charges") rest t.Charges (omega arith) refl refl refl refl h
token_back t.Trivial rest f h = keyword_back (codes "trivial") rest t.Trivial (omega arith) refl refl refl refl h
token_back t.Alpha rest f h = keyword_back (codes "alpha") rest t.Alpha (omega arith) refl refl refl refl h
token_back t.Beta rest f h = keyword_back (codes "beta") rest t.Beta (omega arith) refl refl refl refl h
token_back t.Delta rest f h = keyword_back (codes "delta") rest t.Delta (omega arith) refl refl refl refl h
token_back t.Gamma rest f h = keyword_back (codes "gamma") rest t.Gamma (omega arith) refl refl refl refl h
token_back t.Close rest f h = keyword_back (codes "close") rest t.Close (omega arith) refl refl refl refl h
token_back t.Log rest f h = keyword_back (codes "log") rest t.Log (omega arith) refl refl refl refl h
token_back t.Gives rest f h = keyword_back (codes "gives") rest t.Gives (omega arith) refl refl refl refl h
token_back t.Solution rest f h = keyword_back (codes "solution") rest t.Solution (omega arith) refl refl refl refl h
token_back t.Nothing rest f h = keyword_back (codes "none") rest t.Nothing (omega arith) refl refl refl refl h
token_back t.True rest f h = keyword_back (codes "true") rest t.True (omega arith) refl refl refl refl h
token_back t.False rest f h = keyword_back (codes "false") rest t.False (omega arith) refl refl refl refl h
token_back t.Divides rest f h = keyword_back (codes "divides") rest t.Divides (omega arith) refl refl refl refl h
token_back t.NotDivides rest f h = keyword_back (codes "notdivides") rest t.NotDivides (omega arith) refl refl refl refl h
token_back (t.Number n) rest f h = number_back n rest f (h refl)
token_back (t.Name x) rest f h = lettered_back 99 x rest (t.Name x) f refl refl (λ q. ap (token_or_bad t.Name) q) (h refl)
token_back (t.Use i) rest f h = lettered_back 117 i rest (t.Use i) f refl refl (λ q. ap (token_or_bad t.Use) q) (h refl)
token_back (t.Step s) rest f h = entry_back s rest f (h refl)
token_back t.Equal rest f h = refl
token_back t.AtLeast rest f h = refl
token_back t.Plus rest f h = refl
token_back t.Minus rest f h = refl
token_back t.Times rest f h = refl
token_back t.And rest f h = refl
token_back t.Or rest f h = refl
token_back t.Blank rest f h = refl
token_back t.LineFeed rest f h = refl
token_back t.Bad rest f h = absurd f

-- a token that may stand before a text is read from the two
pub one_back : (x : Token) (rest : List ℕ) → IsProofToken x → Follows x rest → Cuts (x ∷ []) (spelling x ++ rest) rest
one_back x rest f h = (length (spelling x), token_back x rest f h, drop_all (spelling x) rest)

sign_ends : (y : Token) (rest : List ℕ) → is_sign y ≡ true → EndsWord (spelling y ++ rest)
sign_ends t.Equal rest h = (refl, refl)
sign_ends t.AtLeast rest h = (refl, refl)
sign_ends t.Plus rest h = (refl, refl)
sign_ends t.Minus rest h = (refl, refl)
sign_ends t.Times rest h = (refl, refl)
sign_ends t.And rest h = (refl, refl)
sign_ends t.Or rest h = (refl, refl)
sign_ends t.Blank rest h = (refl, refl)
sign_ends t.LineFeed rest h = (refl, refl)
sign_ends _ rest h = absurd (false≢true h)

next_ends : (xs : List Token) (rest : List ℕ) → NextIsSign xs → EndsWord (spelled xs ++ rest)
next_ends [] rest h = absurd h
next_ends (y ∷ ys) rest h = subst EndsWord (sym (append_assoc (spelling y) (spelled ys) rest)) (sign_ends y (spelled ys ++ rest) h)

-- what is written of tokens is read as them
pub cut_back : (xs : List Token) (rest : List ℕ) → AreSpaced xs → Cuts xs (spelled xs ++ rest) rest
cut_back [] rest a = refl
cut_back (x ∷ xs) rest a =
    let tail = spelled xs ++ rest in
    subst (λ z. Cuts (x ∷ xs) z rest) (sym (append_assoc (spelling x) (spelled xs) rest))
    (length (spelling x), token_back x tail a.0 (λ h. next_ends xs rest (a.1 h)), subst (λ z. Cuts xs z rest) (sym (drop_all (spelling x) tail)) (cut_back xs rest a.2))
