-- A text is divided into its longest tokens, in one way.
use Rattle.std.proofs.Common.{ℕ, zero, suc, ◌≡◌, ◌≤◌, ◌<◌, ◌+◌, List, [], ◌∷◌, ◌++◌, length, drop, refl, sym, ap, subst, ◌∙◌, arith, Option, Some, None, length-append}
use Rattle.std.proofs.Math.Seq.{drop-append_seam, drop-length}
use Rattle.smt_tokens.specs.declared.terminals.Terminal.{Terminal}
use Rattle.smt_tokens.specs.declared.terminals.Terminal.TheVariants as t
use Rattle.smt_tokens.specs.declared.terminals.Lexeme.{Lexeme}
use Rattle.smt_tokens.specs.Lexemes.{piece_of, named, put, lexemes_from, lexemes_of}
use Rattle.smt_tokens.specs.Tokens.{IsSpelled, opens, closes, numeral, decimal, hexadecimal, binary, string, keyword, symbol, quoted, IsScriptToken, IsLongestPiece, IsScriptBlank, white, comment, IsUnended, string as open_string, bars, IsBad, IsScriptTokenized, ends, blank, token, unfinished, bad}
use Rattle.smt_tokens.proofs.Scan.{lexemes_piece}
use Rattle.smt_tokens.proofs.Longest.{piece_at, token_reaches}
use Rattle.smt_tokens.proofs.Pieces.{Begun, a_blank, a_token, an_open, a_bad, piece_begun, open_is, blank_is}

-- the lexemes of a text whose first piece is known
cut : (at : ℕ) (b : ℕ) (bs front rest : List ℕ) (o : Option Terminal) → piece_of b bs ≡ record { len = length front; terminal = o } → b ∷ bs ≡ front ++ rest → 1 ≤ length front
    → lexemes_from at 0 (b ∷ bs) ≡ put at (length front) o (lexemes_from (at + length front) 0 rest)
cut at b bs front rest o is parts some =
    let positive : 1 ≤ (piece_of b bs).len = rw is some in
    lexemes_piece at (b ∷ bs) (piece_of b bs) refl positive
    ∙ ap (λ z. put at z.len z.terminal (lexemes_from (at + z.len) 0 (drop z.len (b ∷ bs)))) is
    ∙ ap (λ z. put at (length front) o (lexemes_from (at + length front) 0 z)) (ap (drop (length front)) parts ∙ drop-append_seam front rest)

no_lexemes : (at : ℕ) → lexemes_from at 0 [] ≡ []
unfolding lexemes_from
no_lexemes at = refl

-- of a text that is one piece
cut_all : (at : ℕ) (b : ℕ) (bs : List ℕ) (terminal : Terminal) → piece_of b bs ≡ named (length (b ∷ bs)) terminal
    → lexemes_from at 0 (b ∷ bs) ≡ (record { at = at; len = length (b ∷ bs); terminal = terminal }) ∷ []
cut_all at b bs terminal is =
    let positive : 1 ≤ (piece_of b bs).len = rw is (omega arith) in
    lexemes_piece at (b ∷ bs) (piece_of b bs) refl positive
    ∙ ap (λ z. put at z.len z.terminal (lexemes_from (at + z.len) 0 (drop z.len (b ∷ bs)))) is
    ∙ ap (λ z. (record { at = at; len = length (b ∷ bs); terminal = terminal }) ∷ z) (ap (lexemes_from (at + length (b ∷ bs)) 0) (drop-length (b ∷ bs)) ∙ no_lexemes (at + length (b ∷ bs)))

blank_some : (front rest : List ℕ) → IsScriptBlank front rest → 1 ≤ length front
blank_some front rest (white b w is) = rw is (omega arith)
blank_some front rest (comment inner a h is) = rw is (omega arith)

spelled_some : (terminal : Terminal) (front : List ℕ) → IsSpelled terminal front → 1 ≤ length front
spelled_some terminal front (opens is) = rw is (omega arith)
spelled_some terminal front (closes is) = rw is (omega arith)
spelled_some terminal [] (numeral is) = absurd (cc)
spelled_some terminal (b ∷ bs) (numeral is) = omega arith
spelled_some terminal front (decimal whole digits w d is) = rw (is, length-append) (omega arith)
spelled_some terminal front (hexadecimal digits r is) = rw is (omega arith)
spelled_some terminal front (binary digits r is) = rw is (omega arith)
spelled_some terminal front (string inner s is) = rw is (omega arith)
spelled_some terminal front (keyword name r is) = rw is (omega arith)
spelled_some terminal [] (symbol r d) = absurd (cc)
spelled_some terminal (b ∷ bs) (symbol r d) = omega arith
spelled_some terminal front (quoted inner a is) = rw is (omega arith)

-- a token that the piece is cannot be longer
longest_of : (terminal : Terminal) (front rest : List ℕ) → IsScriptToken terminal front rest → piece_at (front ++ rest) ≡ named (length front) terminal → IsLongestPiece terminal front rest
longest_of terminal front rest x is = record {
  token = x;
  longest = λ other longer behind same more y.
      let r = token_reaches other longer behind y in
      let len : r.len ≡ length front = ap (λ z. z.len) (sym r.is ∙ ap piece_at same ∙ is) in
      absurd (omega (arith, r.fits, len, more));
}

-- where nothing is taken, nothing begins
bad_of : (b : ℕ) (bs : List ℕ) → piece_of b bs ≡ named (length (b ∷ bs)) t.Bad → IsBad (b ∷ bs)
bad_of b bs is = record {
  some = λ q. absurd (cc);
  blank = λ front rest parts x. let q = ap (λ z. z.terminal) (sym is ∙ ap piece_at parts ∙ blank_is front rest x) in absurd (cc);
  token = λ terminal front rest parts x.
      let r = token_reaches terminal front rest x in
      let q : Some t.Bad ≡ Some r.terminal = ap (λ z. z.terminal) (sym is ∙ ap piece_at parts ∙ r.is) in
      r.not_bad (cc);
  open_ended = λ x. let q = ap (λ z. z.terminal) (sym is ∙ open_is (b ∷ bs) x) in absurd (cc);
}

shorter : (most : ℕ) (text front rest : List ℕ) → text ≡ front ++ rest → 1 ≤ length front → length text ≤ suc most → length rest ≤ most
shorter most text front rest parts some h = let q = ap length parts ∙ length-append front rest in omega (arith, q, some, h)

tokenized_by : (most at b : ℕ) (bs : List ℕ) → length (b ∷ bs) ≤ suc most → ((at : ℕ) (text : List ℕ) → length text ≤ most → IsScriptTokenized at text (lexemes_from at 0 text)) → Begun (b ∷ bs) (piece_of b bs)
    → IsScriptTokenized at (b ∷ bs) (lexemes_from at 0 (b ∷ bs))
tokenized_by most at b bs h go (a_blank front rest parts x is) =
    let some = blank_some front rest x in
    subst (IsScriptTokenized at (b ∷ bs)) (sym (cut at b bs front rest None is parts some))
    (blank front rest parts x (go (at + length front) rest (shorter most (b ∷ bs) front rest parts some h)))
tokenized_by most at b bs h go (a_token terminal front rest parts x is) =
    let some = spelled_some terminal front x.spelled in
    subst (IsScriptTokenized at (b ∷ bs)) (sym (cut at b bs front rest (Some terminal) is parts some))
    (token terminal front rest parts (longest_of terminal front rest x (ap piece_at (sym parts) ∙ is)) (go (at + length front) rest (shorter most (b ∷ bs) front rest parts some h)))
tokenized_by most at b bs h go (an_open x is) = subst (IsScriptTokenized at (b ∷ bs)) (sym (cut_all at b bs t.Unfinished is)) (unfinished x)
tokenized_by most at b bs h go (a_bad is) = subst (IsScriptTokenized at (b ∷ bs)) (sym (cut_all at b bs t.Bad is)) (bad (bad_of b bs is))

tokenized_from : (most at : ℕ) (text : List ℕ) → length text ≤ most → IsScriptTokenized at text (lexemes_from at 0 text)
tokenized_from most at [] h = subst (IsScriptTokenized at []) (sym (no_lexemes at)) (ends refl)
tokenized_from zero at (b ∷ bs) h = absurd (omega (arith, h))
tokenized_from (suc most) at (b ∷ bs) h = tokenized_by most at b bs h (tokenized_from most) (piece_begun b bs)

-- the tokens of a text are its longest tokens
pub tokenized : (text : List ℕ) → IsScriptTokenized 0 text (lexemes_of text)
tokenized text = tokenized_from (length text) 0 text (omega arith)

-- No other tokens are so.

no_front : (front rest : List ℕ) → [] ≡ front ++ rest → 1 ≤ length front → ⊥
no_front front rest parts h = let q = ap length parts ∙ length-append front rest in omega (arith, q, h)

cut_at : (at : ℕ) (text front rest : List ℕ) (o : Option Terminal) → piece_at text ≡ record { len = length front; terminal = o } → text ≡ front ++ rest → 1 ≤ length front
    → lexemes_from at 0 text ≡ put at (length front) o (lexemes_from (at + length front) 0 rest)
cut_at at [] front rest o is parts some = absurd (no_front front rest parts some)
cut_at at (b ∷ bs) front rest o is parts some = cut at b bs front rest o is parts some

-- the piece is the longest token
piece_by : (terminal : Terminal) (b : ℕ) (bs front rest : List ℕ) → b ∷ bs ≡ front ++ rest → IsLongestPiece terminal front rest → Begun (b ∷ bs) (piece_of b bs) → piece_of b bs ≡ named (length front) terminal
piece_by terminal b bs front rest parts l (a_blank f r p x is) =
    let y = token_reaches terminal front rest l.token in
    let q : None ≡ Some y.terminal = ap (λ z. z.terminal) (sym is ∙ ap piece_at parts ∙ y.is) in absurd (cc)
piece_by terminal b bs front rest parts l (a_token other f r p x is) =
    let y = token_reaches terminal front rest l.token in
    let whole : piece_of b bs ≡ named y.len y.terminal = ap piece_at parts ∙ y.is in
    let len : length f ≡ y.len = ap (λ z. z.len) (sym is ∙ whole) in
    let no_longer : ¬ (length front < length f) = λ h. l.longest other f r (sym p ∙ parts) h x in
    let same : length front ≡ y.len = omega (arith, no_longer, len, y.fits) in
    whole ∙ ap (λ z. named z y.terminal) (sym same) ∙ ap (named (length front)) (y.same same)
piece_by terminal b bs front rest parts l (an_open x is) =
    let y = token_reaches terminal front rest l.token in
    let q : Some t.Unfinished ≡ Some y.terminal = ap (λ z. z.terminal) (sym is ∙ ap piece_at parts ∙ y.is) in
    absurd (y.finished (cc))
piece_by terminal b bs front rest parts l (a_bad is) =
    let y = token_reaches terminal front rest l.token in
    let q : Some t.Bad ≡ Some y.terminal = ap (λ z. z.terminal) (sym is ∙ ap piece_at parts ∙ y.is) in
    absurd (y.not_bad (cc))

piece_longest : (terminal : Terminal) (text front rest : List ℕ) → text ≡ front ++ rest → 1 ≤ length front → IsLongestPiece terminal front rest → piece_at text ≡ named (length front) terminal
piece_longest terminal [] front rest parts some l = absurd (no_front front rest parts some)
piece_longest terminal (b ∷ bs) front rest parts some l = piece_by terminal b bs front rest parts l (piece_begun b bs)

open_some : IsUnended [] → ⊥
open_some (open_string inner s is) = absurd (cc)
open_some (bars inner a is) = absurd (cc)

open_only : (at : ℕ) (text : List ℕ) → IsUnended text → lexemes_from at 0 text ≡ (record { at = at; len = length text; terminal = t.Unfinished }) ∷ []
open_only at [] x = absurd (open_some x)
open_only at (b ∷ bs) x = cut_all at b bs t.Unfinished (open_is (b ∷ bs) x)

bad_by : (b : ℕ) (bs : List ℕ) → IsBad (b ∷ bs) → Begun (b ∷ bs) (piece_of b bs) → piece_of b bs ≡ named (length (b ∷ bs)) t.Bad
bad_by b bs x (a_blank f r p y is) = absurd (x.blank f r p y)
bad_by b bs x (a_token terminal f r p y is) = absurd (x.token terminal f r p y)
bad_by b bs x (an_open y is) = absurd (x.open_ended y)
bad_by b bs x (a_bad is) = is

bad_only : (at : ℕ) (text : List ℕ) → IsBad text → lexemes_from at 0 text ≡ (record { at = at; len = length text; terminal = t.Bad }) ∷ []
bad_only at [] x = absurd (x.some refl)
bad_only at (b ∷ bs) x = cut_all at b bs t.Bad (bad_by b bs x (piece_begun b bs))

only_from : (at : ℕ) (text : List ℕ) (found : List Lexeme) → IsScriptTokenized at text found → found ≡ lexemes_from at 0 text
only_from at text found (ends is) = sym (ap (lexemes_from at 0) is ∙ no_lexemes at)
only_from at text found (blank front rest parts x more) =
    only_from (at + length front) rest found more ∙ sym (cut_at at text front rest None (ap piece_at parts ∙ blank_is front rest x) parts (blank_some front rest x))
only_from at text found (token {found = others} terminal front rest parts l more) =
    let some = spelled_some terminal front l.token.spelled in
    ap (λ z. (record { at = at; len = length front; terminal = terminal }) ∷ z) (only_from (at + length front) rest others more)
    ∙ sym (cut_at at text front rest (Some terminal) (piece_longest terminal text front rest parts some l) parts some)
only_from at text found (unfinished x) = sym (open_only at text x)
only_from at text found (bad x) = sym (bad_only at text x)

-- only these
pub only : (text : List ℕ) (found : List Lexeme) → IsScriptTokenized 0 text found → found ≡ lexemes_of text
only text found x = only_from 0 text found x
