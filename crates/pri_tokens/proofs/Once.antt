-- A text is divided into tokens in one way.
use Rattle.std.proofs.Common.{ℕ, zero, suc, ◌≡◌, ◌≤◌, ◌<◌, ◌+◌, ◌==◌, ◌&&◌, ◌||◌, not, Bool, true, false, List, [], ◌∷◌, length, take, drop, get_or, refl, sym, ap, subst, ◌∙◌, inl, inr, ◌⊎◌, arith}
use Rattle.std.specs.List.{prefix_len, list_all}
use Rattle.std.specs.Char.{is_ascii_digit}
use Rattle.std.proofs.lemmas.Bool.{eqb-true}
use Rattle.std.proofs.lemmas.Bool.Decides.{nat_tests}
use Rattle.pri_tokens.specs.declared.terminals.TokenKind.{TokenKind}
use Rattle.pri_tokens.specs.declared.terminals.TokenKind.TheVariants as k
use Rattle.pri_tokens.specs.declared.terminals.Token.{Token}
use Rattle.pri_tokens.specs.Lexemes.{is_white, starts_name, is_name_byte, is_not_line_feed, tokens_of}
use Rattle.pri_tokens.specs.Kinds.{is_name, is_number, has_command_form, words, commands, signs, is_one_of, is_bad_byte, is_spelled}
use Rattle.pri_tokens.specs.Tokenization.{Closes, IsOpenComment, IsComment, IsToken, IsLongest, IsBlank, IsTokenized, ends, blank, token}
use Rattle.base_numerals.proofs.Tests.{left_true, right_true, either_true, clash, heads, at_byte}
use Rattle.pri_tokens.proofs.Tables.{of_table}
use Rattle.pri_tokens.proofs.Longest.{slash_longest}
use Rattle.pri_tokens.proofs.Pieces.{tokenized}

-- The kind of what is spelled.

-- the kind by five tests: a name, a word, a digit first, a command, a sign
abbrev chosen : Bool → Bool → Bool → Bool → Bool → TokenKind
chosen true true d c s = k.Word
chosen true false d c s = k.Identifier
chosen false w true c s = k.Number
chosen false w false true s = k.Command
chosen false w false false true = k.Sign
chosen false w false false false = k.Bad

abbrev kind_by : List ℕ → TokenKind
kind_by text = chosen (is_name text) (is_one_of words text) (heads is_ascii_digit text) (is_one_of commands text) (is_one_of signs text)

as_identifier : (n w d c s : Bool) → (n && not w) ≡ true → chosen n w d c s ≡ k.Identifier
as_identifier true true d c s e = cc
as_identifier true false d c s e = refl
as_identifier false w d c s e = cc

as_word : (n w d c s : Bool) → n ≡ true → w ≡ true → chosen n w d c s ≡ k.Word
as_word true true d c s e f = refl
as_word true false d c s e f = cc
as_word false w d c s e f = cc

as_number : (n w d c s : Bool) → n ≡ false → d ≡ true → chosen n w d c s ≡ k.Number
as_number true w d c s e f = cc
as_number false w true c s e f = refl
as_number false w false c s e f = cc

as_command : (n w d c s : Bool) → n ≡ false → d ≡ false → c ≡ true → chosen n w d c s ≡ k.Command
as_command true w d c s e f g = cc
as_command false w true c s e f g = cc
as_command false w false true s e f g = refl
as_command false w false false s e f g = cc

as_sign : (n w d c s : Bool) → n ≡ false → d ≡ false → c ≡ false → s ≡ true → chosen n w d c s ≡ k.Sign
as_sign true w d c s e f g h = cc
as_sign false w true c s e f g h = cc
as_sign false w false true s e f g h = cc
as_sign false w false false true e f g h = refl
as_sign false w false false false e f g h = cc

as_bad : (n w d c s : Bool) → n ≡ false → d ≡ false → c ≡ false → s ≡ false → chosen n w d c s ≡ k.Bad
as_bad true w d c s e f g h = cc
as_bad false w true c s e f g h = cc
as_bad false w false true s e f g h = cc
as_bad false w false false true e f g h = cc
as_bad false w false false false e f g h = refl

fails : (b : Bool) → not b ≡ true → b ≡ false
fails true e = cc
fails false e = refl

-- a text that passes a test is not in a table of texts that fail it
misses : (q : List ℕ → Bool) (table : List (List ℕ)) (text : List ℕ) → list_all (λ s. not (q s)) table ≡ true → q text ≡ true → is_one_of table text ≡ false
misses q table text a e = by (is_one_of table text) refl
  where
    by : (b : Bool) → is_one_of table text ≡ b → is_one_of table text ≡ false
    by true h = absurd (clash (sym (ap not e) ∙ of_table (λ s. not (q s)) table text a h))
    by false h = h

-- a test that each text of a table fails
fails_in : (q : List ℕ → Bool) (table : List (List ℕ)) (text : List ℕ) → list_all (λ s. not (q s)) table ≡ true → is_one_of table text ≡ true → q text ≡ false
fails_in q table text a e = fails (q text) (of_table (λ s. not (q s)) table text a e)

digit_no_name : (text : List ℕ) → heads is_ascii_digit text ≡ true → is_name text ≡ false
digit_no_name [] e = cc
digit_no_name (b ∷ bs) e = let h : starts_name b ≡ false = grind (arith, nat_tests) in ap (λ v. v && list_all is_name_byte bs) h

number_heads : (text : List ℕ) → is_number text ≡ true → heads is_ascii_digit text ≡ true
number_heads [] e = cc
number_heads (b ∷ bs) e = left_true (is_ascii_digit b) _ e

-- what is said of a bad byte by its four tests
four : (a b c d : Bool) → not (a || b || c || d) ≡ true → (a ≡ false) × (b ≡ false) × (c ≡ false) × (d ≡ false)
four true b c d e = cc
four false true c d e = cc
four false false true d e = cc
four false false false true e = cc
four false false false false e = (refl, refl, refl, refl)

bad_kind : (text : List ℕ) → is_bad_byte text ≡ true → kind_by text ≡ k.Bad
bad_kind [] e = cc
bad_kind (b ∷ []) e =
    let h = four (is_white b) (starts_name b) (is_ascii_digit b) (is_one_of signs (b ∷ [])) e in
    as_bad (is_name (b ∷ [])) (is_one_of words (b ∷ [])) (is_ascii_digit b) (is_one_of commands (b ∷ [])) (is_one_of signs (b ∷ []))
    (ap (λ v. v && true) h.1) h.2 (misses is_bad_byte commands (b ∷ []) refl e) h.3
bad_kind (b ∷ c ∷ bs) e = cc

backslash_kind : (text : List ℕ) → has_command_form text ≡ true → is_one_of commands text ≡ false → kind_by text ≡ k.Bad
backslash_kind [] e f = cc
backslash_kind (b ∷ bs) e f =
    let h : b ≡ 92 = eqb-true b 92 (left_true (b == 92) _ e) in
    let no_name : starts_name b ≡ false = ap starts_name h in
    as_bad (is_name (b ∷ bs)) (is_one_of words (b ∷ bs)) (is_ascii_digit b) (is_one_of commands (b ∷ bs)) (is_one_of signs (b ∷ bs))
    (ap (λ v. v && list_all is_name_byte bs) no_name) (ap is_ascii_digit h) f
    (misses (heads (λ x. x == 92)) signs (b ∷ bs) refl (left_true (b == 92) _ e))

-- a text is spelled as a token of one kind
kind_is : (kind : TokenKind) (text : List ℕ) → is_spelled kind text ≡ true → kind_by text ≡ kind
kind_is k.Identifier text e = as_identifier (is_name text) (is_one_of words text) _ _ _ e
kind_is k.Number text e =
    as_number (is_name text) _ (heads is_ascii_digit text) _ _ (digit_no_name text (number_heads text e)) (number_heads text e)
kind_is k.Word text e = as_word (is_name text) (is_one_of words text) _ _ _ (of_table is_name words text refl e) e
kind_is k.Command text e =
    as_command (is_name text) _ (heads is_ascii_digit text) (is_one_of commands text) _
    (fails_in is_name commands text refl e) (fails_in (heads is_ascii_digit) commands text refl e) e
kind_is k.Sign text e =
    as_sign (is_name text) _ (heads is_ascii_digit text) (is_one_of commands text) (is_one_of signs text)
    (fails_in is_name signs text refl e) (fails_in (heads is_ascii_digit) signs text refl e) (fails_in (is_one_of commands) signs text refl e) e
kind_is k.Bad text e = elim (either_true (is_bad_byte text) _ e) [
  | inl h ↦ bad_kind text h
  | inr h ↦ backslash_kind text (left_true (has_command_form text) _ h) (fails _ (right_true (has_command_form text) _ h))
]

-- What begins a text.

-- white space begins no token
white_no_token : (b : ℕ) (bs : List ℕ) (kind : TokenKind) → is_white b ≡ true → is_spelled kind (b ∷ bs) ≡ true → ⊥
white_no_token b bs k.Identifier w e = let s = left_true (starts_name b) _ (left_true (is_name (b ∷ bs)) _ e) in apart b w s
  where
    apart : (b : ℕ) → is_white b ≡ true → starts_name b ≡ true → ⊥
    apart b w s = grind (arith, nat_tests)
white_no_token b bs k.Number w e = apart b w (left_true (is_ascii_digit b) _ e)
  where
    apart : (b : ℕ) → is_white b ≡ true → is_ascii_digit b ≡ true → ⊥
    apart b w s = grind (arith, nat_tests)
white_no_token b bs k.Word w e = clash (sym (ap not w) ∙ of_table (heads (λ x. not (is_white x))) words (b ∷ bs) refl e)
white_no_token b bs k.Command w e = clash (sym (ap not w) ∙ of_table (heads (λ x. not (is_white x))) commands (b ∷ bs) refl e)
white_no_token b bs k.Sign w e = clash (sym (ap not w) ∙ of_table (heads (λ x. not (is_white x))) signs (b ∷ bs) refl e)
white_no_token b bs k.Bad w e = elim (either_true (is_bad_byte (b ∷ bs)) _ e) [
  | inl h ↦ bad b bs w h
  | inr h ↦ clash (at_byte is_white b 92 (eqb-true b 92 (left_true (b == 92) _ (left_true (has_command_form (b ∷ bs)) _ h))) w)
]
  where
    bad : (b : ℕ) (bs : List ℕ) → is_white b ≡ true → is_bad_byte (b ∷ bs) ≡ true → ⊥
    bad b [] w h = clash (sym (four (is_white b) (starts_name b) (is_ascii_digit b) (is_one_of signs (b ∷ [])) h).0 ∙ w)
    bad b (c ∷ bs) w h = cc

-- the first byte of a text that begins so is no white space
white_apart : (text rest : List ℕ) → text ≡ 47 ∷ rest → is_white (get_or text 0 0) ≡ true → ⊥
white_apart text rest e w = clash (sym (ap (λ z. is_white (get_or z 0 0)) e) ∙ w)

-- a text begins with one comment
one_comment : (text : List ℕ) (m n : ℕ) → IsComment text m → IsComment text n → m ≡ n
one_comment text m n (inl x) (inl y) =
    let e = x.parts in let f = y.parts in
    let same : x.inner ≡ y.inner = cc in
    x.end ∙ ap (λ z. 2 + prefix_len is_not_line_feed z) same ∙ sym y.end
one_comment text m n (inl x) (inr y) = let e = ap (λ z. get_or z 1 0) x.parts in let f = ap (λ z. get_or z 1 0) y.parts in absurd (omega (arith, e, f))
one_comment text m n (inr x) (inl y) = let e = ap (λ z. get_or z 1 0) x.parts in let f = ap (λ z. get_or z 1 0) y.parts in absurd (omega (arith, e, f))
one_comment text m n (inr x) (inr y) =
    let e = x.parts in let f = y.parts in
    let same : x.inner ≡ y.inner = cc in
    let before : x.place < y.place → ⊥ = λ h. y.first x.place h (subst (λ z. Closes z x.place) same x.closes) in
    let behind : y.place < x.place → ⊥ = λ h. x.first y.place h (subst (λ z. Closes z y.place) (sym same) y.closes) in
    let i = x.end in let j = y.end in
    omega (arith, before, behind, i, j)

comment_head : (text : List ℕ) (n : ℕ) → IsComment text n → (rest : List ℕ) × (text ≡ 47 ∷ rest)
comment_head text n (inl x) = (47 ∷ x.inner, x.parts)
comment_head text n (inr x) = (42 ∷ x.inner, x.parts)

-- white space or one comment
one_blank : (text : List ℕ) (m n : ℕ) → IsBlank text m → IsBlank text n → m ≡ n
one_blank text m n x y = by x.blank y.blank
  where
    by : ((m ≡ 1) × (is_white (get_or text 0 0) ≡ true)) ⊎ IsComment text m → ((n ≡ 1) × (is_white (get_or text 0 0) ≡ true)) ⊎ IsComment text n → m ≡ n
    by (inl a) (inl b) = a.0 ∙ sym b.0
    by (inl a) (inr c) = let h = comment_head text n c in absurd (white_apart text h.0 h.1 a.1)
    by (inr c) (inl a) = let h = comment_head text m c in absurd (white_apart text h.0 h.1 a.1)
    by (inr c) (inr d) = one_comment text m n c d

token_or_white : (text : List ℕ) (kind : TokenKind) (n : ℕ) → is_white (get_or text 0 0) ≡ true → 1 ≤ n → n ≤ length text → IsToken kind text n → ⊥
token_or_white [] kind n w h l t = omega arith
token_or_white (b ∷ bs) kind zero w h l t = omega arith
token_or_white (b ∷ bs) kind (suc n) w h l (inl e) = white_no_token b (take n bs) kind w e
token_or_white (b ∷ bs) kind (suc n) w h l (inr x) = white_apart (b ∷ bs) (42 ∷ x.1.inner) x.1.parts w

-- what is blank begins no token
token_or_blank : (text : List ℕ) (kind : TokenKind) (m n : ℕ) → IsBlank text m → IsLongest kind text n → ⊥
token_or_blank text kind m n x y = elim x.blank [
  | inl a ↦ token_or_white text kind n a.1 y.some y.within y.token
  | inr c ↦ y.no_comment m c
]

-- of two longest tokens none is longer
same_length : (text : List ℕ) (a b : TokenKind) (m n : ℕ) → IsLongest a text m → IsLongest b text n → m ≡ n
same_length text a b m n x y =
    let before : m < n → ⊥ = λ h. x.longest n b h y.within y.token in
    let behind : n < m → ⊥ = λ h. y.longest m a h x.within x.token in
    omega (arith, before, behind)

-- a comment without end is spelled as no token
open_spelled : (text : List ℕ) (kind : TokenKind) (n : ℕ) → IsOpenComment text → n ≡ length text → is_spelled kind (take n text) ≡ true → ⊥
open_spelled text kind n x e h =
    let q : n ≡ suc (suc (length x.inner)) = e ∙ ap length x.parts in
    let whole : take n text ≡ 47 ∷ take (suc (length x.inner)) (42 ∷ x.inner) = ap (λ m. take m text) q ∙ ap (take (suc (suc (length x.inner)))) x.parts in
    slash_longest (suc (length x.inner)) (42 ∷ x.inner) kind (omega arith) (omega arith) (subst (λ z. is_spelled kind z ≡ true) whole h)

same_kind : (text : List ℕ) (a b : TokenKind) (n : ℕ) → IsToken a text n → IsToken b text n → a ≡ b
same_kind text a b n (inl e) (inl f) = sym (kind_is a (take n text) e) ∙ kind_is b (take n text) f
same_kind text a b n (inl e) (inr y) = absurd (open_spelled text a n y.1 y.2 e)
same_kind text a b n (inr x) (inl f) = absurd (open_spelled text b n x.1 x.2 f)
same_kind text a b n (inr x) (inr y) = x.0 ∙ sym y.0

no_bytes : {text : List ℕ} {n : ℕ} → text ≡ [] → 1 ≤ n → n ≤ length text → ⊥
no_bytes e h l = let q = ap length e in omega (arith, q)

-- Tokens.

one_way : {at : ℕ} {text : List ℕ} {xs ys : List Token} → IsTokenized at text xs → IsTokenized at text ys → xs ≡ ys
one_way (ends e) (ends f) = refl
one_way (ends e) (blank n b more) = absurd (no_bytes e b.some b.within)
one_way (ends e) (token n kind t more) = absurd (no_bytes e t.some t.within)
one_way (blank n b more) (ends f) = absurd (no_bytes f b.some b.within)
one_way {at} {text} (blank m b more) (blank {found = ys} n c others) =
    one_way more (subst (λ z. IsTokenized (at + z) (drop z text) ys) (one_blank text n m c b) others)
one_way {at} {text} (blank m b more) (token n kind t others) = absurd (token_or_blank text kind m n b t)
one_way (token n kind t more) (ends f) = absurd (no_bytes f t.some t.within)
one_way {at} {text} (token n kind t more) (blank m b others) = absurd (token_or_blank text kind m n b t)
one_way {at} {text} (token {found = xs} m a x more) (token {found = ys} n b y others) =
    let length_is = same_length text a b m n x y in
    let kind_same = same_kind text a b n (subst (IsToken a text) length_is x.token) y.token in
    let rest = one_way more (subst (λ z. IsTokenized (at + z) (drop z text) ys) (sym length_is) others) in
    ap (λ z. (record { at = at; len = z; kind = a }) ∷ xs) length_is
    ∙ ap (λ z. (record { at = at; len = n; kind = z }) ∷ xs) kind_same
    ∙ ap (λ z. (record { at = at; len = n; kind = b }) ∷ z) rest

-- the tokens of a text are the only ones into which it is divided
pub only : (bytes : List ℕ) (found : List Token) → IsTokenized 0 bytes found → found ≡ tokens_of bytes
only bytes found h = one_way h (tokenized bytes)
