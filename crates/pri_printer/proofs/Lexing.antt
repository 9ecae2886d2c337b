-- The tokens with which bytes go on.
use Rattle.std.proofs.Common.{ℕ, suc, ◌≡◌, ◌≤◌, ◌+◌, ◌-◌, not, Bool, true, false, List, [], ◌∷◌, ◌++◌, length, take, drop, refl, sym, ap, ◌∙◌, arith, append_assoc, length-append, Some, one-add, if◌then◌else◌}
use Rattle.std.specs.List.{prefix_len, list_all}
use Rattle.std.specs.Char.{is_ascii_digit, is_ascii_alphabetic}
use Rattle.std.proofs.lemmas.Bool.Decides.{nat_tests}
use Rattle.std.proofs.lemmas.Bool.{false≢true}
use Rattle.pri_tokens.specs.Kinds.{is_name, is_number}
use Rattle.pri_tokens.specs.declared.terminals.Terminal.{Terminal}
use Rattle.pri_tokens.specs.declared.terminals.Terminal.TheVariants as t
use Rattle.pri_tokens.specs.Lexemes.{lexemes_from, first_piece_of, piece_of, named, is_name_byte, starts_name, is_white}
use Rattle.pri_tokens.specs.Bytes.{text_of}
use Rattle.pri_tokens.specs.Spellings.{word_of, command_of}
use Rattle.pri_tokens.proofs.Scan.{lexemes_piece}
use Rattle.base_numerals.proofs.Tests.{left_true, right_true}
use Rattle.pri_printer.proofs.Writing.{Ends, tokens_at, is_parted, lexeme_at}

-- what the bytes end with after a text with which they go on
pub ends_behind : (bytes word more : List ℕ) → Ends bytes (word ++ more) → Ends bytes more
ends_behind bytes word more e = record { front = e.front ++ word; parts = e.parts ∙ sym (append_assoc e.front word more) }

-- the number of bytes before a text with which the bytes end
length_front : (bytes text : List ℕ) (e : Ends bytes text) → length bytes - length text ≡ length e.front
length_front bytes text e = let l = ap length e.parts ∙ length-append e.front text in omega (arith, l)

-- a blank is no token
pub blank_lexed : (bytes more : List ℕ) → Ends bytes (32 ∷ more) → tokens_at bytes (32 ∷ more) ≡ tokens_at bytes more
unfolding lexemes_from
blank_lexed bytes more e =
    let l = ap length e.parts ∙ length-append e.front (32 ∷ more) in
    let q : suc (length bytes - length (32 ∷ more)) ≡ length bytes - length more = omega (arith, l) in
    ap (λ k. lexemes_from k 0 more) q

drop_front : (n : ℕ) (xs ys : List ℕ) → n ≡ length xs → drop n (xs ++ ys) ≡ ys
drop_front n [] ys e = rw e refl
drop_front n (x ∷ xs) ys e = rw e (drop_front (length xs) xs ys refl)

take_front : (n : ℕ) (xs ys : List ℕ) → n ≡ length xs → take n (xs ++ ys) ≡ xs
take_front n [] ys e = rw e refl
take_front n (x ∷ xs) ys e = rw e (ap (λ z. x ∷ z) (take_front (length xs) xs ys refl))

-- a piece that is a token, at a text with which the bytes end
pub token_lexed : (bytes word more : List ℕ) (terminal : Terminal) → Ends bytes (word ++ more) → 1 ≤ length word
    → first_piece_of (word ++ more) ≡ Some (named (length word) terminal)
    → tokens_at bytes (word ++ more) ≡ lexeme_at bytes (word ++ more) (length word) terminal ∷ tokens_at bytes more
token_lexed bytes word more terminal e h p =
    let l = ap length e.parts ∙ length-append e.front (word ++ more) in
    let m = length-append word more in
    let q : (length bytes - length (word ++ more)) + length word ≡ length bytes - length more = omega (arith, l, m) in
    lexemes_piece (length bytes - length (word ++ more)) (word ++ more) (named (length word) terminal) p h
    ∙ ap (λ z. lexeme_at bytes (word ++ more) (length word) terminal ∷ z)
    (ap (λ k. lexemes_from k 0 (drop (length word) (word ++ more))) q
    ∙ ap (lexemes_from (length bytes - length more) 0) (drop_front (length word) word more refl))

-- the bytes of that token
pub text-lexed : (bytes word more : List ℕ) (terminal : Terminal) → Ends bytes (word ++ more)
    → text_of bytes (lexeme_at bytes (word ++ more) (length word) terminal) ≡ word
text-lexed bytes word more terminal e =
    ap (λ z. take (length word) (drop (length bytes - length (word ++ more)) z)) e.parts
    ∙ ap (take (length word)) (drop_front _ e.front (word ++ more) (length_front bytes (word ++ more) e))
    ∙ take_front (length word) word more refl

-- as many bytes pass as a word has whose bytes pass, where the byte after it does not
prefix_len_word : (p : ℕ → Bool) (word more : List ℕ) → list_all p word ≡ true → prefix_len p more ≡ 0 → prefix_len p (word ++ more) ≡ length word
prefix_len_word p [] more a e = e
prefix_len_word p (b ∷ word) more a e =
    rw (left_true (p b) (list_all p word) a) (one-add _ ∙ ap suc (prefix_len_word p word more (right_true (p b) (list_all p word) a) e))

cond_zero : (c d : Bool) (n : ℕ) → (c ≡ true → d ≡ true) → not d ≡ true → if◌then◌else◌ c n 0 ≡ 0
cond_zero true true n h e = absurd (false≢true e)
cond_zero true false n h e = absurd (false≢true (h refl))
cond_zero false d n h e = refl

parted_prefix : (p : ℕ → Bool) (more : List ℕ) → ((b : ℕ) → p b ≡ true → is_name_byte b ≡ true) → is_parted more ≡ true → prefix_len p more ≡ 0
parted_prefix p [] h e = refl
parted_prefix p (b ∷ more) h e = cond_zero (p b) (is_name_byte b) (1 + prefix_len p more) (h b) e

-- a sign of one byte
pub sign_lexed : (bytes more : List ℕ) (b : ℕ) (terminal : Terminal) → Ends bytes (b ∷ more)
    → piece_of b more ≡ named 1 terminal
    → tokens_at bytes (b ∷ more) ≡ lexeme_at bytes (b ∷ more) 1 terminal ∷ tokens_at bytes more
sign_lexed bytes more b terminal e p = token_lexed bytes (b ∷ []) more terminal e (omega arith) (ap Some p)

digit_no_white : (b : ℕ) → is_ascii_digit b ≡ true → is_white b ≡ false
digit_no_white b d = grind (arith, nat_tests)

digit_no_name : (b : ℕ) → is_ascii_digit b ≡ true → starts_name b ≡ false
digit_no_name b d = grind (arith, nat_tests)

name_no_white : (b : ℕ) → starts_name b ≡ true → is_white b ≡ false
name_no_white b d = grind (arith, nat_tests)

pub digit_is_name_byte : (b : ℕ) → is_ascii_digit b ≡ true → is_name_byte b ≡ true
digit_is_name_byte b d = rw (digit_no_name b d) d

letter_is_name_byte : (b : ℕ) → is_ascii_alphabetic b ≡ true → is_name_byte b ≡ true
letter_is_name_byte b d = rw d refl

-- a number
number_piece : (b : ℕ) (word more : List ℕ) → list_all is_ascii_digit (b ∷ word) ≡ true → is_parted more ≡ true
    → first_piece_of ((b ∷ word) ++ more) ≡ Some (named (length (b ∷ word)) t.Number)
number_piece b word more a p =
    let d = left_true (is_ascii_digit b) (list_all is_ascii_digit word) a in
    let n = prefix_len_word is_ascii_digit word more (right_true (is_ascii_digit b) (list_all is_ascii_digit word) a) (parted_prefix is_ascii_digit more digit_is_name_byte p) in
    rw (digit_no_white b d, digit_no_name b d, d, n, one-add) refl

-- an identifier or a word
name_piece : (b : ℕ) (word more : List ℕ) → starts_name b ≡ true → list_all is_name_byte word ≡ true → is_parted more ≡ true
    → first_piece_of ((b ∷ word) ++ more) ≡ Some (named (length (b ∷ word)) (word_of (b ∷ word)))
name_piece b word more s a p =
    let n = prefix_len_word is_name_byte word more a (parted_prefix is_name_byte more (λ c e. e) p) in
    let same = ap (λ z. b ∷ z) (take_front (length word) word more refl) in
    rw (name_no_white b s, s, n, one-add) (ap (λ z. Some (named (length (b ∷ word)) (word_of z))) same)

-- a command
command_piece : (word more : List ℕ) → list_all is_ascii_alphabetic word ≡ true → is_parted more ≡ true
    → first_piece_of ((92 ∷ word) ++ more) ≡ Some (named (length (92 ∷ word)) (command_of (92 ∷ word)))
command_piece word more a p =
    let n = prefix_len_word is_ascii_alphabetic word more a (parted_prefix is_ascii_alphabetic more letter_is_name_byte p) in
    let same = ap (λ z. 92 ∷ z) (take_front (length word) word more refl) in
    rw (n, one-add) (ap (λ z. Some (named (length (92 ∷ word)) (command_of z))) same)

pub number_lexed : (bytes word more : List ℕ) → Ends bytes (word ++ more) → is_number word ≡ true → is_parted more ≡ true
    → tokens_at bytes (word ++ more) ≡ lexeme_at bytes (word ++ more) (length word) t.Number ∷ tokens_at bytes more
number_lexed bytes [] more e w p = absurd (false≢true w)
number_lexed bytes (b ∷ word) more e w p = token_lexed bytes (b ∷ word) more t.Number e (omega arith) (number_piece b word more w p)

pub name_lexed : (bytes word more : List ℕ) → Ends bytes (word ++ more) → is_name word ≡ true → is_parted more ≡ true
    → tokens_at bytes (word ++ more) ≡ lexeme_at bytes (word ++ more) (length word) (word_of word) ∷ tokens_at bytes more
name_lexed bytes [] more e w p = absurd (false≢true w)
name_lexed bytes (b ∷ word) more e w p =
    token_lexed bytes (b ∷ word) more (word_of (b ∷ word)) e (omega arith)
    (name_piece b word more (left_true (starts_name b) (list_all is_name_byte word) w) (right_true (starts_name b) (list_all is_name_byte word) w) p)

pub command_lexed : (bytes word more : List ℕ) → Ends bytes ((92 ∷ word) ++ more) → list_all is_ascii_alphabetic word ≡ true → is_parted more ≡ true
    → tokens_at bytes ((92 ∷ word) ++ more) ≡ lexeme_at bytes ((92 ∷ word) ++ more) (length (92 ∷ word)) (command_of (92 ∷ word)) ∷ tokens_at bytes more
command_lexed bytes word more e w p =
    token_lexed bytes (92 ∷ word) more (command_of (92 ∷ word)) e (omega arith) (command_piece word more w p)
