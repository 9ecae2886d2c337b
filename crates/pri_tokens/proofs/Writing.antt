-- What the bytes of a token are.
use Rattle.std.proofs.Common.{ℕ, zero, suc, ◌≡◌, ◌≤◌, ◌<◌, ◌+◌, ◌==◌, ◌&&◌, ◌||◌, not, Bool, true, false, List, [], ◌∷◌, ◌++◌, length, take, drop, get_or, refl, sym, ap, subst, ◌∙◌, arith, Option, Some, None, if◌then◌else◌, All, codes, append_assoc, length-append, length-drop, one-add}
use Rattle.std.specs.List.{prefix_len}
use Rattle.std.specs.Cmp.Derive.{both_true}
use Rattle.std.proofs.Math.Seq.{drop-append_seam}
use Rattle.std.proofs.lemmas.List.{take-append-drop, length-take-le}
use Rattle.std.specs.Str.{bytes_eq}
use Rattle.std.specs.Char.{is_ascii_digit, is_ascii_alphabetic}
use Rattle.std.proofs.lemmas.Slice.Eq.{bytes_eq-Decides}
use Rattle.std.proofs.lemmas.Bool.{eqb-true}
use Rattle.std.proofs.lemmas.List.Elements.{All-nil, All-cons}
use Rattle.pri_tokens.specs.declared.terminals.Terminal.{Terminal}
use Rattle.pri_tokens.specs.declared.terminals.Terminal.TheVariants as t
use Rattle.pri_tokens.specs.declared.terminals.Lexeme.{Lexeme}
use Rattle.pri_tokens.specs.declared.scanner.Piece.{Piece}
use Rattle.pri_tokens.specs.declared.spellings.Sign.{Sign}
use Rattle.pri_tokens.specs.Spellings.{word_of, command_of, sign_of, single_sign_of}
use Rattle.pri_tokens.specs.Lexemes.{is_white, starts_name, is_name_byte, comment_piece, slash_piece, piece_of, put, behind_close, lexemes_from, lexemes_of}
use Rattle.pri_tokens.specs.Kinds.{is_name}
use Rattle.pri_tokens.specs.Bytes.{text_of}
use Rattle.pri_tokens.specs.Written.{spelling_of, IsWritten}
use Rattle.pri_tokens.proofs.Scan.{lexemes_piece}
use Rattle.base_numerals.proofs.Tests.{left_true, right_true, front_all, if_begins}
use Rattle.pri_tokens.proofs.Spelled.{one_byte, two_bytes}
use Rattle.pri_tokens.proofs.Pieces.{Begins, piece_begins, some_bytes}

-- the texts of words, commands and signs

word_by : (text s : List ℕ) (x y : Terminal) → (text ≡ s → IsWritten x text) → (bytes_eq text s ≡ false → IsWritten y text)
    → IsWritten (if bytes_eq text s then x else y) text
word_by text s x y p q = if_begins (λ z. IsWritten z text) (bytes_eq text s) x y (λ h. p ((bytes_eq-Decides text s).0 h)) q

same_text : (text s : List ℕ) → text ≡ s → Some s ≡ Some text
same_text text s e = ap (λ z. Some z) (sym e)

no_word : (n a b c d : Bool) → n ≡ true → a ≡ false → b ≡ false → c ≡ false → d ≡ false → (n && not (a || (b || (c || (d || false))))) ≡ true
no_word n a b c d e f g h i = rw (e, f, g, h, i) refl

word_written : (text : List ℕ) → is_name text ≡ true → IsWritten (word_of text) text
word_written text n =
    word_by text _ _ _ (same_text text _) (λ a. word_by text _ _ _ (same_text text _) (λ b. word_by text _ _ _ (same_text text _)
    (λ c. word_by text _ _ _ (same_text text _) (λ d. no_word (is_name text) _ _ _ _ n a b c d))))

command_written : (text : List ℕ) → IsWritten (command_of text) text
command_written text =
    word_by text _ _ _ (same_text text _) (λ e. word_by text _ _ _ (same_text text _) (λ e. word_by text _ _ _ (same_text text _)
    (λ e. word_by text _ _ _ (same_text text _) (λ e. word_by text _ _ _ (same_text text _) (λ e. word_by text _ _ _ (same_text text _)
    (λ e. word_by text _ _ _ (same_text text _) (λ e. word_by text _ _ _ (same_text text _) (λ e. word_by text _ _ _ (same_text text _)
    (λ e. word_by text _ _ _ (same_text text _) (λ e. word_by text _ _ _ (same_text text _) (λ e. word_by text _ _ _ (same_text text _)
    (λ e. word_by text _ _ _ (same_text text _) (λ e. word_by text _ _ _ (same_text text _) (λ e. word_by text _ _ _ (same_text text _)
    (λ e. tt {0})))))))))))))))

byte_by : (b c : ℕ) (x y : Terminal) → IsWritten x (c ∷ []) → IsWritten y (b ∷ []) → IsWritten (if b == c then x else y) (b ∷ [])
byte_by b c x y p q = if_begins (λ z. IsWritten z (b ∷ [])) (b == c) x y (λ h. subst (λ z. IsWritten x (z ∷ [])) (sym (eqb-true b c h)) p) (λ h. q)

byte_written : (b : ℕ) → IsWritten (single_sign_of b) (b ∷ [])
byte_written b =
    byte_by b _ _ _ refl (byte_by b _ _ _ refl (byte_by b _ _ _ refl (byte_by b _ _ _ refl (byte_by b _ _ _ refl (byte_by b _ _ _ refl
    (byte_by b _ _ _ refl (byte_by b _ _ _ refl (byte_by b _ _ _ refl (byte_by b _ _ _ refl (byte_by b _ _ _ refl (byte_by b _ _ _ refl
    (byte_by b _ _ _ refl (byte_by b _ _ _ refl (byte_by b _ _ _ refl (byte_by b _ _ _ refl (byte_by b _ _ _ refl (tt {0})))))))))))))))))

abbrev SignWritten : List ℕ → Sign → Type 0
SignWritten text s = IsWritten s.terminal (take s.len text)

two_written : (b : ℕ) (bs : List ℕ) (x y : ℕ) (terminal : Terminal) (other : Sign) → 0 < y → IsWritten terminal (x ∷ y ∷ [])
    → SignWritten (b ∷ bs) other → SignWritten (b ∷ bs) (if b == x && get_or bs 0 0 == y then (record { len = 2; terminal = terminal }) else other)
two_written b bs x y terminal other h w o = if_begins (SignWritten (b ∷ bs)) (b == x && get_or bs 0 0 == y) _ _ at (λ e. o)
  where
    at : (b == x && get_or bs 0 0 == y) ≡ true → SignWritten (b ∷ bs) (record { len = 2; terminal = terminal })
    at e =
        let p : b ≡ x = eqb-true b x (left_true (b == x) _ e) in
        let q = one_byte bs y h (eqb-true (get_or bs 0 0) y (right_true (b == x) _ e)) in
        subst (λ z. IsWritten terminal (take 2 (b ∷ z))) (sym q.1) (subst (λ z. IsWritten terminal (z ∷ y ∷ [])) (sym p) w)

three_written : (b : ℕ) (bs : List ℕ) (other : Sign) → SignWritten (b ∷ bs) other
    → SignWritten (b ∷ bs) (if b == 60 && get_or bs 0 0 == 45 && get_or bs 1 0 == 62 then (record { len = 3; terminal = t.Iff }) else other)
three_written b bs other o = if_begins (SignWritten (b ∷ bs)) (b == 60 && get_or bs 0 0 == 45 && get_or bs 1 0 == 62) _ _ at (λ e. o)
  where
    at : (b == 60 && get_or bs 0 0 == 45 && get_or bs 1 0 == 62) ≡ true → SignWritten (b ∷ bs) (record { len = 3; terminal = t.Iff })
    at e =
        let l = left_true (b == 60 && get_or bs 0 0 == 45) _ e in
        let p : b ≡ 60 = eqb-true b 60 (left_true (b == 60) _ l) in
        let q = two_bytes bs 45 62 (omega arith) (eqb-true (get_or bs 0 0) 45 (right_true (b == 60) _ l))
        (eqb-true (get_or bs 1 0) 62 (right_true (b == 60 && get_or bs 0 0 == 45) _ e)) in
        subst (λ z. IsWritten t.Iff (take 3 (b ∷ z))) (sym q.1) (subst (λ z. IsWritten t.Iff (z ∷ 45 ∷ 62 ∷ [])) (sym p) refl)

sign_written : (b : ℕ) (bs : List ℕ) → SignWritten (b ∷ bs) (sign_of b (get_or bs 0 0) (get_or bs 1 0))
sign_written b bs =
    three_written b bs _ (two_written b bs 45 62 _ _ (omega arith) refl (two_written b bs 33 61 _ _ (omega arith) refl
    (two_written b bs 60 61 _ _ (omega arith) refl (two_written b bs 62 61 _ _ (omega arith) refl (byte_written b)))))

-- pieces

abbrev IsPieceWritten : List ℕ → Option Terminal → Type 0
IsPieceWritten text None = Unit {0}
IsPieceWritten text (Some terminal) = IsWritten terminal text

abbrev PieceWritten : List ℕ → Piece → Type 0
PieceWritten text piece = IsPieceWritten (take piece.len text) piece.terminal

comment_written : (text inner : List ℕ) (o : Option ℕ) → PieceWritten text (comment_piece inner o)
comment_written text inner None = tt {0}
comment_written text inner (Some n) = tt {0}

slash_written : (text bs : List ℕ) → PieceWritten text (slash_piece bs)
slash_written text bs =
    if_begins (PieceWritten text) (get_or bs 0 0 == 47) _ _ (λ e. tt {0})
    (λ e. if_begins (PieceWritten text) (get_or bs 0 0 == 42) _ _ (λ f. comment_written text (drop 1 bs) (behind_close false (drop 1 bs))) (λ f. tt {0}))

piece_written : (b : ℕ) (bs : List ℕ) → PieceWritten (b ∷ bs) (piece_of b bs)
piece_written b bs =
    if_begins (PieceWritten (b ∷ bs)) (is_white b) _ _ (λ e. tt {0})
    (λ w. if_begins (PieceWritten (b ∷ bs)) (starts_name b) _ _
    (λ s. word_written (take (1 + prefix_len is_name_byte bs) (b ∷ bs)) (rw one-add (both_true s (front_all is_name_byte bs))))
    (λ n. if_begins (PieceWritten (b ∷ bs)) (is_ascii_digit b) _ _
    (λ s. rw one-add (both_true s (front_all is_ascii_digit bs)))
    (λ d. if_begins (PieceWritten (b ∷ bs)) (b == 92) _ _ (λ e. command_written (take (1 + prefix_len is_ascii_alphabetic bs) (b ∷ bs)))
    (λ c. if_begins (PieceWritten (b ∷ bs)) (b == 47) _ _ (λ e. slash_written (b ∷ bs) bs) (λ s. sign_written b bs)))))

-- tokens

abbrev AreWritten : List ℕ → List Lexeme → Type 0
AreWritten bytes xs = All (λ x. IsWritten x.terminal (text_of bytes x)) xs

put_written : (front text : List ℕ) (n : ℕ) (o : Option Terminal) (more : List Lexeme) → IsPieceWritten (take n text) o
    → AreWritten (front ++ text) more → AreWritten (front ++ text) (put (length front) n o more)
put_written front text n None more w a = a
put_written front text n (Some terminal) more w a =
    All-cons (λ x. IsWritten x.terminal (text_of (front ++ text) x)) (record { at = length front; len = n; terminal = terminal }) more
    (subst (λ z. IsWritten terminal (take n z)) (sym (drop-append_seam front text)) w) a

within_bytes : (text : List ℕ) (n : ℕ) (o : Option Terminal) → Begins text n o → n ≤ length text
within_bytes text n None b = b.within
within_bytes text n (Some terminal) b = b.within

written_from : (most : ℕ) (front text : List ℕ) → length text ≤ most → AreWritten (front ++ text) (lexemes_from (length front) 0 text)
unfolding lexemes_from
written_from most front [] h = All-nil (λ x. IsWritten x.terminal (text_of (front ++ []) x))
written_from zero front (b ∷ bs) h = absurd (omega arith)
written_from (suc most) front (b ∷ bs) h =
    let text = b ∷ bs in
    let piece = piece_of b bs in
    let begins = piece_begins b bs in
    let positive : 1 ≤ piece.len = some_bytes text piece.len piece.terminal begins in
    let within : piece.len ≤ length text = within_bytes text piece.len piece.terminal begins in
    let shorter : length (drop piece.len text) ≤ most = omega (arith, length-drop piece.len text) in
    let rest = written_from most (front ++ take piece.len text) (drop piece.len text) shorter in
    let same : (front ++ take piece.len text) ++ drop piece.len text ≡ front ++ text
    = append_assoc front (take piece.len text) (drop piece.len text) ∙ ap (λ z. front ++ z) (take-append-drop piece.len text) in
    let place : length (front ++ take piece.len text) ≡ length front + piece.len
    = length-append front (take piece.len text) ∙ ap (λ z. length front + z) (length-take-le piece.len text within) in
    let more : AreWritten (front ++ text) (lexemes_from (length front + piece.len) 0 (drop piece.len text))
    = subst (λ z. AreWritten (front ++ text) (lexemes_from z 0 (drop piece.len text))) place (subst (λ z. AreWritten z (lexemes_from (length (front ++ take piece.len text)) 0 (drop piece.len text))) same rest) in
    subst (AreWritten (front ++ text)) (sym (lexemes_piece (length front) text piece refl positive))
    (put_written front text piece.len piece.terminal _ (piece_written b bs) more)

-- the bytes of each token are written as its terminal is
pub written : (bytes : List ℕ) → All (λ x. IsWritten x.terminal (text_of bytes x)) (lexemes_of bytes)
written bytes = written_from (length bytes) [] bytes (omega arith)

alone_as : (terminal : Terminal) (s text : List ℕ) → Some s ≡ Some text → lexemes_of s ≡ (record { at = 0; len = length s; terminal = terminal }) ∷ []
    → lexemes_of text ≡ (record { at = 0; len = length text; terminal = terminal }) ∷ []
alone_as terminal s text e h = let q : s ≡ text = cc in subst (λ z. lexemes_of z ≡ (record { at = 0; len = length z; terminal = terminal }) ∷ []) q h

-- a file of one spelling is that token
pub alone : (terminal : Terminal) (text : List ℕ) → spelling_of terminal ≡ Some text → lexemes_of text ≡ (record { at = 0; len = length text; terminal = terminal }) ∷ []
unfolding lexemes_from
alone t.Identifier text e = cc
alone t.Number text e = cc
alone t.Bad text e = cc
alone t.Int text e = alone_as t.Int (codes "int") text e refl
alone t.Nat text e = alone_as t.Nat (codes "nat") text e refl
alone t.True text e = alone_as t.True (codes "true") text e refl
alone t.False text e = alone_as t.False (codes "false") text e refl
alone t.UniversalConstants text e = alone_as t.UniversalConstants (codes "\\universalConstants") text e refl
alone t.ExistentialConstants text e = alone_as t.ExistentialConstants (codes "\\existentialConstants") text e refl
alone t.Functions text e = alone_as t.Functions (codes "\\functions") text e refl
alone t.Predicates text e = alone_as t.Predicates (codes "\\predicates") text e refl
alone t.Problem text e = alone_as t.Problem (codes "\\problem") text e refl
alone t.Interpolant text e = alone_as t.Interpolant (codes "\\interpolant") text e refl
alone t.Forall text e = alone_as t.Forall (codes "\\forall") text e refl
alone t.Exists text e = alone_as t.Exists (codes "\\exists") text e refl
alone t.Part text e = alone_as t.Part (codes "\\part") text e refl
alone t.If text e = alone_as t.If (codes "\\if") text e refl
alone t.Then text e = alone_as t.Then (codes "\\then") text e refl
alone t.Else text e = alone_as t.Else (codes "\\else") text e refl
alone t.Abs text e = alone_as t.Abs (codes "\\abs") text e refl
alone t.Min text e = alone_as t.Min (codes "\\min") text e refl
alone t.Max text e = alone_as t.Max (codes "\\max") text e refl
alone t.OpenBrace text e = alone_as t.OpenBrace (codes "{") text e refl
alone t.CloseBrace text e = alone_as t.CloseBrace (codes "}") text e refl
alone t.OpenParenthesis text e = alone_as t.OpenParenthesis (codes "(") text e refl
alone t.CloseParenthesis text e = alone_as t.CloseParenthesis (codes ")") text e refl
alone t.OpenBracket text e = alone_as t.OpenBracket (codes "[") text e refl
alone t.CloseBracket text e = alone_as t.CloseBracket (codes "]") text e refl
alone t.Semicolon text e = alone_as t.Semicolon (codes ";") text e refl
alone t.Comma text e = alone_as t.Comma (codes ",") text e refl
alone t.Not text e = alone_as t.Not (codes "!") text e refl
alone t.And text e = alone_as t.And (codes "&") text e refl
alone t.Or text e = alone_as t.Or (codes "|") text e refl
alone t.Implies text e = alone_as t.Implies (codes "->") text e refl
alone t.Iff text e = alone_as t.Iff (codes "<->") text e refl
alone t.Equal text e = alone_as t.Equal (codes "=") text e refl
alone t.Unequal text e = alone_as t.Unequal (codes "!=") text e refl
alone t.Less text e = alone_as t.Less (codes "<") text e refl
alone t.AtMost text e = alone_as t.AtMost (codes "<=") text e refl
alone t.Greater text e = alone_as t.Greater (codes ">") text e refl
alone t.AtLeast text e = alone_as t.AtLeast (codes ">=") text e refl
alone t.Plus text e = alone_as t.Plus (codes "+") text e refl
alone t.Minus text e = alone_as t.Minus (codes "-") text e refl
alone t.Star text e = alone_as t.Star (codes "*") text e refl
