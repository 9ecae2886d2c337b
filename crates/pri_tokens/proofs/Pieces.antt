-- What the scanner takes at a byte is the longest token there, or white space or a comment.
use Rattle.std.proofs.Common.{ℕ, zero, suc, ◌≡◌, ◌≤◌, ◌<◌, ◌+◌, ◌-◌, ◌==◌, true, false, List, [], ◌∷◌, length, take, drop, get_or, refl, sym, subst, ◌∙◌, inl, inr, arith, Option, Some, None, one-add, map, length-drop}
use Rattle.std.specs.List.{prefix_len}
use Rattle.std.specs.Cmp.Derive.{both_true}
use Rattle.std.specs.Char.{is_ascii_digit, is_ascii_alphabetic}
use Rattle.std.proofs.lemmas.Bool.{eqb-true, eq-eqb}
use Rattle.std.proofs.lemmas.List.Sums.{prefix_len-le-length}
use Rattle.pri_tokens.specs.declared.terminals.TokenKind.{TokenKind}
use Rattle.pri_tokens.specs.declared.terminals.TokenKind.TheVariants as k
use Rattle.pri_tokens.specs.declared.terminals.Lexeme.{Lexeme}
use Rattle.pri_tokens.specs.declared.terminals.Terminal.{Terminal}
use Rattle.pri_tokens.specs.declared.scanner.Piece.{Piece}
use Rattle.pri_tokens.specs.Terminals.{kind_of}
use Rattle.pri_tokens.specs.Spellings.{word_of, command_of, sign_of}
use Rattle.pri_tokens.specs.Lexemes.{is_white, starts_name, is_name_byte, is_not_line_feed, behind_close, comment_piece, slash_piece, piece_of, named, blank as blank_piece, put, token_of, tokens_of, lexemes_from}
use Rattle.pri_tokens.proofs.Scan.{lexemes_piece}
use Rattle.pri_tokens.specs.Kinds.{is_spelled}
use Rattle.pri_tokens.specs.Tokenization.{Closes, IsOpenComment, IsComment, IsToken, IsLongest, IsBlank, IsTokenized, ends, blank, token}
use Rattle.base_numerals.proofs.Tests.{front_all, if_begins, clash, at_byte}
use Rattle.pri_tokens.proofs.Longest.{name_longest, number_longest, command_longest, slash_longest, sign_longest}
use Rattle.pri_tokens.proofs.Spelled.{name_spelled, command_spelled, sign_begins}
use Rattle.pri_tokens.proofs.Comments.{close_found, no_close, block_by}

abbrev pub Begins : List ℕ → ℕ → Option Terminal → Type 0
Begins text n None = IsBlank text n
Begins text n (Some terminal) = IsLongest (kind_of terminal) text n

abbrev PieceBegins : List ℕ → Piece → Type 0
PieceBegins text piece = Begins text piece.len piece.terminal

no_comment_at : (b : ℕ) (bs : List ℕ) → (b ≡ 47 → ⊥) → (m : ℕ) → IsComment (b ∷ bs) m → ⊥
no_comment_at b bs h m (inl x) = let e = x.parts in h cc
no_comment_at b bs h m (inr x) = let e = x.parts in h cc

no_open_at : (b : ℕ) (bs : List ℕ) → (b ≡ 47 → ⊥) → IsOpenComment (b ∷ bs) → ⊥
no_open_at b bs h x = let e = x.parts in h cc

longest_by : (b n : ℕ) (bs : List ℕ) → ((m : ℕ) (other : TokenKind) → n < m → m ≤ length bs → is_spelled other (b ∷ take m bs) ≡ true → ⊥)
    → (IsOpenComment (b ∷ bs) → ⊥) → (m : ℕ) (other : TokenKind) → 1 + n < m → m ≤ length (b ∷ bs) → IsToken other (b ∷ bs) m → ⊥
longest_by b n bs f o zero other h l x = omega arith
longest_by b n bs f o (suc m) other h l (inl e) = f m other (omega arith) (omega arith) e
longest_by b n bs f o (suc m) other h l (inr x) = o x.1

name_begins : (b : ℕ) (bs : List ℕ) → starts_name b ≡ true
    → IsLongest (kind_of (word_of (take (1 + prefix_len is_name_byte bs) (b ∷ bs)))) (b ∷ bs) (1 + prefix_len is_name_byte bs)
name_begins b bs s =
    let apart : b ≡ 47 → ⊥ = λ e. clash (at_byte starts_name b 47 e s) in
    record {
      some = omega arith;
      within = omega (arith, prefix_len-le-length is_name_byte bs);
      token = inl (name_spelled (take (1 + prefix_len is_name_byte bs) (b ∷ bs)) (rw one-add (both_true s (front_all is_name_byte bs))));
      longest = longest_by b (prefix_len is_name_byte bs) bs (λ m other h l e. name_longest b m bs other s h l e) (no_open_at b bs apart);
      no_comment = no_comment_at b bs apart;
    }

number_begins : (b : ℕ) (bs : List ℕ) → is_ascii_digit b ≡ true → IsLongest k.Number (b ∷ bs) (1 + prefix_len is_ascii_digit bs)
number_begins b bs s =
    let apart : b ≡ 47 → ⊥ = λ e. clash (at_byte is_ascii_digit b 47 e s) in
    record {
      some = omega arith;
      within = omega (arith, prefix_len-le-length is_ascii_digit bs);
      token = inl (rw one-add (both_true s (front_all is_ascii_digit bs)));
      longest = longest_by b (prefix_len is_ascii_digit bs) bs (λ m other h l e. number_longest b m bs other s h l e) (no_open_at b bs apart);
      no_comment = no_comment_at b bs apart;
    }

command_begins : (bs : List ℕ)
    → IsLongest (kind_of (command_of (take (1 + prefix_len is_ascii_alphabetic bs) (92 ∷ bs)))) (92 ∷ bs) (1 + prefix_len is_ascii_alphabetic bs)
command_begins bs =
    let apart : ◌≡◌ {A = ℕ} 92 47 → ⊥ = λ e. clash (eq-eqb 92 47 e) in
    record {
      some = omega arith;
      within = omega (arith, prefix_len-le-length is_ascii_alphabetic bs);
      token = inl (command_spelled (take (1 + prefix_len is_ascii_alphabetic bs) (92 ∷ bs)) (rw one-add (front_all is_ascii_alphabetic bs)));
      longest = longest_by 92 (prefix_len is_ascii_alphabetic bs) bs (λ m other h l e. command_longest m bs other h l e) (no_open_at 92 bs apart);
      no_comment = no_comment_at 92 bs apart;
    }

sign_first : (b : ℕ) (bs : List ℕ) → is_white b ≡ false → starts_name b ≡ false → is_ascii_digit b ≡ false → (b == 92) ≡ false → (b == 47) ≡ false
    → IsLongest (kind_of (sign_of b (get_or bs 0 0) (get_or bs 1 0)).terminal) (b ∷ bs) (sign_of b (get_or bs 0 0) (get_or bs 1 0)).len
sign_first b bs w n d c s =
    let apart : b ≡ 47 → ⊥ = λ e. clash (sym s ∙ eq-eqb b 47 e) in
    let x = sign_begins b bs w n d in
    let len = (sign_of b (get_or bs 0 0) (get_or bs 1 0)).len in
    let positive = x.some in
    let same : 1 + (len - 1) ≡ len = omega arith in
    record {
      some = x.some;
      within = x.within;
      token = inl x.spelled;
      longest = λ m other h l e. longest_by b (len - 1) bs
          (λ m other h l e. sign_longest b m bs other n d c (omega arith) (omega arith) l e) (no_open_at b bs apart) m other (omega arith) l e;
      no_comment = no_comment_at b bs apart;
    }

slash_bad : (bs : List ℕ) → ((inner : List ℕ) → bs ≡ 47 ∷ inner → ⊥) → ((inner : List ℕ) → bs ≡ 42 ∷ inner → ⊥) → IsLongest k.Bad (47 ∷ bs) 1
slash_bad bs f g = record {
  some = omega arith;
  within = omega arith;
  token = inl refl;
  longest = longest_by 47 0 bs (λ m other h l e. slash_longest m bs other (omega arith) l e)
      (λ x. let e = x.parts in g x.inner cc);
  no_comment = λ m x. elim x [ inl y ↦ (let e = y.parts in f y.inner cc) | inr y ↦ (let e = y.parts in g y.inner cc) ];
}

line_begins : (inner : List ℕ) → IsBlank (47 ∷ 47 ∷ inner) (1 + prefix_len is_not_line_feed (47 ∷ inner))
line_begins inner = record {
  some = omega arith;
  within = omega (arith, prefix_len-le-length is_not_line_feed (47 ∷ inner));
  blank = inr (inl (record { inner = inner; parts = refl; end = omega arith }));
}

star_is_no_slash : ◌≡◌ {A = ℕ} 42 47 → ⊥
star_is_no_slash e = clash (eq-eqb 42 47 e)

open_by : (inner : List ℕ) → behind_close false inner ≡ None → IsLongest k.Bad (47 ∷ 42 ∷ inner) (2 + length inner)
open_by inner e = record {
  some = omega arith;
  within = omega arith;
  token = inr (refl, (record { inner = inner; parts = refl; open_ended = λ i c. no_close 0 inner e (suc i) c }), omega arith);
  longest = λ m other h l x. omega arith;
  no_comment = λ m x. elim x [
    | inl y ↦ (let e = y.parts in star_is_no_slash cc)
    | inr y ↦ (let q : inner ≡ y.inner = (let f = y.parts in cc) in
        no_close 0 inner e (suc y.place) (subst (λ z. Closes z y.place) (sym q) y.closes))
  ];
}

block_begins : (inner : List ℕ) (o : Option ℕ) → behind_close false inner ≡ o → PieceBegins (47 ∷ 42 ∷ inner) (comment_piece inner o)
block_begins inner None e = open_by inner e
block_begins inner (Some n) e =
    let x = close_found 0 inner n e in
    record {
      some = omega arith;
      within = let w = x.within in omega arith;
      blank = inr (inr (block_by inner n x.place x.closes x.first x.end));
    }

slash_begins : (bs : List ℕ) → PieceBegins (47 ∷ bs) (slash_piece bs)
slash_begins [] = slash_bad [] (λ inner e. cc) (λ inner e. cc)
slash_begins (c ∷ inner) =
    if_begins (PieceBegins (47 ∷ c ∷ inner)) (c == 47) _ _
    (λ e. subst (λ z. PieceBegins (47 ∷ z ∷ inner) (blank_piece (1 + prefix_len is_not_line_feed (z ∷ inner)))) (sym (eqb-true c 47 e)) (line_begins inner))
    (λ n. if_begins (PieceBegins (47 ∷ c ∷ inner)) (c == 42) _ _
    (λ e. subst (λ z. PieceBegins (47 ∷ z ∷ inner) (comment_piece inner (behind_close false inner))) (sym (eqb-true c 42 e)) (block_begins inner (behind_close false inner) refl))
    (λ m. slash_bad (c ∷ inner)
    (λ rest e. let q : c ≡ 47 = cc in clash (sym n ∙ eq-eqb c 47 q))
    (λ rest e. let q : c ≡ 42 = cc in clash (sym m ∙ eq-eqb c 42 q))))

white_begins : (b : ℕ) (bs : List ℕ) → is_white b ≡ true → IsBlank (b ∷ bs) 1
white_begins b bs w = record { some = omega arith; within = omega arith; blank = inl (refl, w) }

-- what the scanner takes at a byte is the longest token there, or white space or a comment
pub piece_begins : (b : ℕ) (bs : List ℕ) → PieceBegins (b ∷ bs) (piece_of b bs)
piece_begins b bs =
    if_begins (PieceBegins (b ∷ bs)) (is_white b) _ _ (white_begins b bs)
    (λ w. if_begins (PieceBegins (b ∷ bs)) (starts_name b) _ _ (name_begins b bs)
    (λ n. if_begins (PieceBegins (b ∷ bs)) (is_ascii_digit b) _ _ (number_begins b bs)
    (λ d. if_begins (PieceBegins (b ∷ bs)) (b == 92) _ _
    (λ e. subst (λ z. PieceBegins (z ∷ bs) (named (1 + prefix_len is_ascii_alphabetic bs) (command_of (take (1 + prefix_len is_ascii_alphabetic bs) (z ∷ bs)))))
    (sym (eqb-true b 92 e)) (command_begins bs))
    (λ c. if_begins (PieceBegins (b ∷ bs)) (b == 47) _ _
    (λ e. subst (λ z. PieceBegins (z ∷ bs) (slash_piece bs)) (sym (eqb-true b 47 e)) (slash_begins bs))
    (λ s. sign_first b bs w n d c s)))))

token_first : (at n : ℕ) (text : List ℕ) (o : Option Terminal) (more : List Lexeme) → Begins text n o
    → IsTokenized (at + n) (drop n text) (map token_of more) → IsTokenized at text (map token_of (put at n o more))
token_first at n text None more b c = blank n b c
token_first at n text (Some terminal) more b c = token n (kind_of terminal) b c

pub some_bytes : (text : List ℕ) (n : ℕ) (o : Option Terminal) → Begins text n o → 1 ≤ n
some_bytes text n None b = b.some
some_bytes text n (Some terminal) b = b.some

tokenized_from : (most at : ℕ) (text : List ℕ) → length text ≤ most → IsTokenized at text (map token_of (lexemes_from at 0 text))
unfolding lexemes_from
tokenized_from most at [] h = ends refl
tokenized_from zero at (b ∷ bs) h = absurd (omega arith)
tokenized_from (suc most) at (b ∷ bs) h =
    let piece = piece_of b bs in
    let begins = piece_begins b bs in
    let positive : 1 ≤ piece.len = some_bytes (b ∷ bs) piece.len piece.terminal begins in
    let shorter : length (drop piece.len (b ∷ bs)) ≤ most = omega (arith, length-drop piece.len (b ∷ bs)) in
    subst (λ z. IsTokenized at (b ∷ bs) (map token_of z)) (sym (lexemes_piece at (b ∷ bs) piece refl positive))
    (token_first at piece.len (b ∷ bs) piece.terminal _ begins (tokenized_from most (at + piece.len) (drop piece.len (b ∷ bs)) shorter))

-- the tokens of a text are its longest tokens
pub tokenized : (text : List ℕ) → IsTokenized 0 text (tokens_of text)
tokenized text = tokenized_from (length text) 0 text (omega arith)
