-- The token that is cut at the front of a text is at least as long as any that begins there.
use Rattle.std.proofs.Common.{ℕ, zero, suc, ◌≡◌, ◌≤◌, ◌+◌, ◌==◌, not, Bool, true, false, List, [], ◌∷◌, ◌++◌, length, drop, refl, sym, ap, subst, ◌∙◌, arith, if◌then◌else◌, append_assoc, length-append, append-nil}
use Rattle.std.proofs.Math.Seq.{drop-append_seam}
use Rattle.std.specs.List.{list_all, prefix_len}
use Rattle.std.specs.Char.{is_ascii_alphabetic, is_ascii_digit, is_ascii_hexdigit}
use Rattle.std.proofs.lemmas.Bool.{eqb-true}
use Rattle.base_numerals.proofs.Tests.{left_true, right_true, clash, at_byte}
use Rattle.smt_tokens.specs.declared.terminals.Terminal.{Terminal}
use Rattle.smt_tokens.specs.declared.terminals.Terminal.TheVariants as t
use Rattle.smt_tokens.specs.declared.scanner.Piece.{Piece}
use Rattle.smt_tokens.specs.declared.strings.Ending.{Ending}
use Rattle.smt_tokens.specs.declared.strings.Ending.TheVariants as e
use Rattle.smt_tokens.specs.Bytes.{is_white, is_symbol_byte, is_string_byte, is_bar_byte, is_binary_digit}
use Rattle.smt_tokens.specs.Lexemes.{piece_of, named, blank, marked, number_piece, parted, number_before, more_digits, fraction_len, fraction_of, enclosed, ending_from, string_ending_of, bars_ending_of, bars_end}
use Rattle.smt_tokens.specs.Tokens.{is_run, begins, is_none, is_numeral, IsString, nothing, byte, pair, is_number, IsSpelled, opens, closes, numeral, decimal, hexadecimal, binary, string, keyword, symbol, quoted, IsScriptToken}

-- a run is no longer than the longest front that passes the test
pub run_fits : (p : ℕ → Bool) (xs rest : List ℕ) → list_all p xs ≡ true → length xs ≤ prefix_len p (xs ++ rest)
run_fits p [] rest a = omega arith
run_fits p (x ∷ xs) rest a =
    let here : p x ≡ true = left_true (p x) (list_all p xs) a in
    let more : length xs ≤ prefix_len p (xs ++ rest) = run_fits p xs rest (right_true (p x) (list_all p xs) a) in
    rw here (omega (arith, more))

-- and is that front where the next byte does not pass it
pub run_is : (p : ℕ → Bool) (xs : List ℕ) (y : ℕ) (rest : List ℕ) → list_all p xs ≡ true → p y ≡ false → prefix_len p (xs ++ y ∷ rest) ≡ length xs
run_is p [] y rest a e = rw e refl
run_is p (x ∷ xs) y rest a e =
    let here : p x ≡ true = left_true (p x) (list_all p xs) a in
    let more : prefix_len p (xs ++ y ∷ rest) ≡ length xs = run_is p xs y rest (right_true (p x) (list_all p xs) a) e in
    rw here (omega (arith, more))

-- the same where the text ends
pub run_whole : (p : ℕ → Bool) (xs : List ℕ) → list_all p xs ≡ true → prefix_len p xs ≡ length xs
run_whole p [] a = refl
run_whole p (x ∷ xs) a =
    let here : p x ≡ true = left_true (p x) (list_all p xs) a in
    let more : prefix_len p xs ≡ length xs = run_whole p xs (right_true (p x) (list_all p xs) a) in
    rw here (omega (arith, more))

pub run_before : (p : ℕ → Bool) (xs rest : List ℕ) → list_all p xs ≡ true → begins p rest ≡ false → prefix_len p (xs ++ rest) ≡ length xs
run_before p xs [] a h = ap (prefix_len p) (append-nil xs) ∙ run_whole p xs a
run_before p xs (y ∷ rest) a h = run_is p xs y rest a h

-- the piece is a token of at least n bytes, and of this kind where it has no more
pub record Reaches (kind : Terminal) (n : ℕ) (piece : Piece) : Type 0 where
  pub len : ℕ
  pub terminal : Terminal
  pub is : piece ≡ named len terminal
  pub same : n ≡ len → terminal ≡ kind
  pub not_bad : terminal ≡ t.Bad → ⊥
  pub finished : terminal ≡ t.Unfinished → ⊥
  pub fits : n ≤ len

-- the piece at the front of a text
abbrev pub piece_at : List ℕ → Piece
piece_at [] = blank 0
piece_at (b ∷ bs) = piece_of b bs

pub if_no : {A : Type 0} (c : Bool) (x y z : A) → c ≡ false → y ≡ z → (if c then x else y) ≡ z
if_no true x y z e f = cc
if_no false x y z e f = f

pub if_yes : {A : Type 0} (c : Bool) (x y : A) → c ≡ true → (if c then x else y) ≡ x
if_yes true x y e = refl
if_yes false x y e = cc

-- a byte that passes a test is none that does not
other_byte : (p : ℕ → Bool) (b n : ℕ) → p n ≡ false → p b ≡ true → (b == n) ≡ false
other_byte p b n f h = by (b == n) refl
  where
    by : (v : Bool) → (b == n) ≡ v → v ≡ false
    by true q = absurd (clash (sym f ∙ at_byte p b n (eqb-true b n q) h))
    by false q = refl

no_white : (p : ℕ → Bool) (b : ℕ) → p 32 ≡ false → p 9 ≡ false → p 10 ≡ false → p 13 ≡ false → p b ≡ true → is_white b ≡ false
no_white p b f g h i q = rw (other_byte p b 32 f q, other_byte p b 9 g q, other_byte p b 10 h q, other_byte p b 13 i q) refl

pub digit_piece : (b : ℕ) (bs : List ℕ) → is_ascii_digit b ≡ true → piece_of b bs ≡ number_before bs (1 + more_digits b bs) (drop (more_digits b bs) bs)
digit_piece b bs d =
    if_no (is_white b) _ _ _ (no_white is_ascii_digit b refl refl refl refl d)
    (if_no (b == 59) _ _ _ (other_byte is_ascii_digit b 59 refl d)
    (if_no (b == 40) _ _ _ (other_byte is_ascii_digit b 40 refl d)
    (if_no (b == 41) _ _ _ (other_byte is_ascii_digit b 41 refl d)
    (if_yes (is_ascii_digit b) _ _ d))))

pub symbol_piece : (b : ℕ) (bs : List ℕ) → is_symbol_byte b ≡ true → is_ascii_digit b ≡ false → piece_of b bs ≡ named (1 + prefix_len is_symbol_byte bs) t.Symbol
symbol_piece b bs s d =
    if_no (is_white b) _ _ _ (no_white is_symbol_byte b refl refl refl refl s)
    (if_no (b == 59) _ _ _ (other_byte is_symbol_byte b 59 refl s)
    (if_no (b == 40) _ _ _ (other_byte is_symbol_byte b 40 refl s)
    (if_no (b == 41) _ _ _ (other_byte is_symbol_byte b 41 refl s)
    (if_no (is_ascii_digit b) _ _ _ d
    (if_yes (is_symbol_byte b) _ _ s)))))

-- Numbers.

digit_symbol : (b : ℕ) → is_ascii_digit b ≡ true → is_symbol_byte b ≡ true
digit_symbol b d = by (is_ascii_alphabetic b) refl
  where
    by : (u : Bool) → is_ascii_alphabetic b ≡ u → is_symbol_byte b ≡ true
    by true p = rw p refl
    by false p = rw (p, d) refl

-- what begins with no byte of a symbol begins with no digit, and with no fraction
no_digit : (rest : List ℕ) → begins is_symbol_byte rest ≡ false → begins is_ascii_digit rest ≡ false
no_digit [] h = refl
no_digit (y ∷ rest) h = by (is_ascii_digit y) refl
  where
    by : (v : Bool) → is_ascii_digit y ≡ v → v ≡ false
    by true q = absurd (clash (sym h ∙ digit_symbol y q))
    by false q = refl

no_fraction : (rest : List ℕ) → begins is_symbol_byte rest ≡ false → fraction_len rest ≡ 0
no_fraction [] h = refl
no_fraction (y ∷ rest) h = if_no (y == 46) _ _ _ (other_byte (λ b. not (is_symbol_byte b)) y 46 refl (ap not h)) refl

-- how many digits stand after the first one of a numeral
digits_are : (b : ℕ) (bs rest : List ℕ) → (if b == 48 then is_none bs else list_all is_ascii_digit bs) ≡ true → begins is_ascii_digit rest ≡ false → more_digits b (bs ++ rest) ≡ length bs
digits_are b bs rest e f = by (b == 48) bs e
  where
    by : (v : Bool) (xs : List ℕ) → (if v then is_none xs else list_all is_ascii_digit xs) ≡ true → (if v then 0 else prefix_len is_ascii_digit (xs ++ rest)) ≡ length xs
    by true [] h = refl
    by true (x ∷ xs) h = cc
    by false xs h = run_before is_ascii_digit xs rest h f

-- a number that is parted from what stands after it
number_known : (text behind rest : List ℕ) (n m : ℕ) → fraction_len behind ≡ m → drop m behind ≡ rest → begins is_symbol_byte rest ≡ false → number_before text n behind ≡ number_piece n m
number_known text behind rest n m f r h =
    ap (λ z. parted text (drop z behind) (number_piece n z)) f ∙ ap (λ z. parted text z (number_piece n m)) r
    ∙ if_no (begins is_symbol_byte rest) _ _ _ h refl

numeral_reaches : (front rest : List ℕ) → is_numeral front ≡ true → begins is_symbol_byte rest ≡ false → Reaches t.Numeral (length front) (piece_at (front ++ rest))
numeral_reaches [] rest h k = cc
numeral_reaches (b ∷ bs) rest h k =
    let d : is_ascii_digit b ≡ true = left_true (is_ascii_digit b) _ h in
    let n : more_digits b (bs ++ rest) ≡ length bs = digits_are b bs rest (right_true (is_ascii_digit b) _ h) (no_digit rest k) in
    record {
      len = 1 + length bs;
      terminal = t.Numeral;
      is = digit_piece b (bs ++ rest) d ∙ ap (λ z. number_before (bs ++ rest) (1 + z) (drop z (bs ++ rest))) n
          ∙ ap (number_before (bs ++ rest) (1 + length bs)) (drop-append_seam bs rest) ∙ number_known (bs ++ rest) rest rest (1 + length bs) 0 (no_fraction rest k) refl k;
      same = λ q. refl;
      not_bad = λ q. cc;
      finished = λ q. cc;
      fits = omega arith;
    }

fraction_some : (n : ℕ) → 1 ≤ n → fraction_of n ≡ suc n
fraction_some zero h = absurd (omega (arith, h))
fraction_some (suc n) h = omega arith

pub run_some : (p : ℕ → Bool) (xs : List ℕ) → is_run p xs ≡ true → 1 ≤ length xs
run_some p [] e = cc
run_some p (x ∷ xs) e = omega arith

pub run_all : (p : ℕ → Bool) (xs : List ℕ) → is_run p xs ≡ true → list_all p xs ≡ true
run_all p [] e = cc
run_all p (x ∷ xs) e = e

decimal_reaches : (whole digits rest : List ℕ) → is_numeral whole ≡ true → is_run is_ascii_digit digits ≡ true → begins is_symbol_byte rest ≡ false
    → Reaches t.Decimal (length (whole ++ 46 ∷ digits)) (piece_at ((whole ++ 46 ∷ digits) ++ rest))
decimal_reaches [] digits rest h r k = cc
decimal_reaches (b ∷ bs) digits rest h r k =
    let d : is_ascii_digit b ≡ true = left_true (is_ascii_digit b) _ h in
    let behind = 46 ∷ (digits ++ rest) in
    let text : (bs ++ 46 ∷ digits) ++ rest ≡ bs ++ behind = append_assoc bs (46 ∷ digits) rest in
    let n : more_digits b (bs ++ behind) ≡ length bs = digits_are b bs behind (right_true (is_ascii_digit b) _ h) refl in
    let fraction : fraction_len behind ≡ suc (length digits)
    = ap fraction_of (run_before is_ascii_digit digits rest (run_all is_ascii_digit digits r) (no_digit rest k)) ∙ fraction_some (length digits) (run_some is_ascii_digit digits r) in
    let whole : length ((b ∷ bs) ++ 46 ∷ digits) ≡ suc (length bs) + suc (length digits) = length-append (b ∷ bs) (46 ∷ digits) in
    subst (λ z. Reaches t.Decimal (length ((b ∷ bs) ++ 46 ∷ digits)) (piece_of b z)) (sym text)
    (record {
      len = (1 + length bs) + suc (length digits);
      terminal = t.Decimal;
      is = digit_piece b (bs ++ behind) d ∙ ap (λ z. number_before (bs ++ behind) (1 + z) (drop z (bs ++ behind))) n
          ∙ ap (number_before (bs ++ behind) (1 + length bs)) (drop-append_seam bs behind)
          ∙ number_known (bs ++ behind) behind rest (1 + length bs) (suc (length digits)) fraction (drop-append_seam digits rest) k;
      same = λ q. refl;
      not_bad = λ q. cc;
      finished = λ q. cc;
      fits = omega (arith, whole);
    })

marked_reaches : (k front n : ℕ) (terminal : Terminal) (text : List ℕ) → (terminal ≡ t.Bad → ⊥) → (terminal ≡ t.Unfinished → ⊥) → 1 ≤ n → k ≤ front + n → Reaches terminal k (marked front n terminal text)
marked_reaches k front zero terminal text x y h l = absurd (omega (arith, h))
marked_reaches k front (suc n) terminal text x y h l = record { len = front + suc n; terminal = terminal; is = refl; same = λ q. refl; not_bad = x; finished = y; fits = l }

run_reaches : (p : ℕ → Bool) (xs rest : List ℕ) → is_run p xs ≡ true → 1 ≤ prefix_len p (xs ++ rest)
run_reaches p xs rest r = omega (arith, run_some p xs r, run_fits p xs rest (run_all p xs r))

symbol_reaches : (front rest : List ℕ) → is_run is_symbol_byte front ≡ true → begins is_ascii_digit front ≡ false → Reaches t.Symbol (length front) (piece_at (front ++ rest))
symbol_reaches [] rest r d = cc
symbol_reaches (b ∷ bs) rest r d =
    let fits = run_fits is_symbol_byte bs rest (right_true (is_symbol_byte b) _ r) in
    subst (Reaches t.Symbol (length (b ∷ bs))) (sym (symbol_piece b (bs ++ rest) (left_true (is_symbol_byte b) _ r) d))
    (record { len = 1 + prefix_len is_symbol_byte (bs ++ rest); terminal = t.Symbol; is = refl; same = λ q. refl; not_bad = λ q. cc; finished = λ q. cc; fits = omega (arith, fits) })

-- a string closes at its quote, unless another one stands after it
close_by : (n : ℕ) (rest : List ℕ) → begins (λ b. b == 34) rest ≡ false → ending_from n true rest ≡ e.Closed n
close_by n [] h = refl
close_by n (b ∷ rest) h = rw h refl

pub choose : {A : Type 0} (u v : Bool) (x y z : A) → u ≡ false → v ≡ true → (if u then x else (if v then y else z)) ≡ y
choose true v x y z f g = cc
choose false true x y z f g = refl
choose false false x y z f g = cc

string_closes : (n : ℕ) (inner rest : List ℕ) → IsString inner → begins (λ b. b == 34) rest ≡ false → ending_from n false (inner ++ 34 ∷ rest) ≡ e.Closed (suc (n + length inner))
string_closes n inner rest (nothing is) h =
    let len : suc n ≡ suc (n + length inner) = rw is (omega arith) in
    ap (λ z. ending_from n false (z ++ 34 ∷ rest)) is ∙ close_by (suc n) rest h ∙ ap (λ z. e.Closed z) len
string_closes n inner rest (byte b more q p s is) h =
    let len : suc (suc n + length more) ≡ suc (n + length inner) = rw is (omega arith) in
    ap (λ z. ending_from n false (z ++ 34 ∷ rest)) is
    ∙ choose (b == 34) (is_string_byte b) (ending_from (suc n) true (more ++ 34 ∷ rest)) (ending_from (suc n) false (more ++ 34 ∷ rest)) e.Forbidden q p
    ∙ string_closes (suc n) more rest s h ∙ ap (λ z. e.Closed z) len
string_closes n inner rest (pair more s is) h =
    let len : suc (suc (suc n) + length more) ≡ suc (n + length inner) = rw is (omega arith) in
    ap (λ z. ending_from n false (z ++ 34 ∷ rest)) is ∙ string_closes (suc (suc n)) more rest s h ∙ ap (λ z. e.Closed z) len

closed_reaches : (k n : ℕ) (terminal : Terminal) (text : List ℕ) (ending : Ending) → (terminal ≡ t.Bad → ⊥) → (terminal ≡ t.Unfinished → ⊥) → ending ≡ e.Closed n → k ≤ 1 + n → Reaches terminal k (enclosed terminal text ending)
closed_reaches k n terminal text ending x y q l =
    record { len = 1 + n; terminal = terminal; is = ap (enclosed terminal text) q; same = λ q. refl; not_bad = x; finished = y; fits = l }

string_reaches : (inner rest : List ℕ) → IsString inner → begins (λ b. b == 34) rest ≡ false → Reaches t.StringLiteral (length (34 ∷ inner ++ 34 ∷ [])) (piece_at ((34 ∷ inner ++ 34 ∷ []) ++ rest))
string_reaches inner rest s h =
    let len : length (34 ∷ inner ++ 34 ∷ []) ≡ suc (length inner + 1) = ap suc (length-append inner (34 ∷ [])) in
    subst (λ z. Reaches t.StringLiteral (length (34 ∷ inner ++ 34 ∷ [])) (piece_of 34 z)) (sym (append_assoc inner (34 ∷ []) rest))
    (closed_reaches (length (34 ∷ inner ++ 34 ∷ [])) (suc (0 + length inner)) t.StringLiteral (inner ++ 34 ∷ rest) (string_ending_of (inner ++ 34 ∷ rest)) (λ q. cc) (λ q. cc)
    (string_closes 0 inner rest s h) (omega (arith, len)))

quoted_reaches : (inner rest : List ℕ) → list_all is_bar_byte inner ≡ true → Reaches t.Quoted (length (124 ∷ inner ++ 124 ∷ [])) (piece_at ((124 ∷ inner ++ 124 ∷ []) ++ rest))
quoted_reaches inner rest a =
    let len : length (124 ∷ inner ++ 124 ∷ []) ≡ suc (length inner + 1) = ap suc (length-append inner (124 ∷ [])) in
    let n : prefix_len is_bar_byte (inner ++ 124 ∷ rest) ≡ length inner = run_is is_bar_byte inner 124 rest a refl in
    let ends : bars_ending_of (inner ++ 124 ∷ rest) ≡ e.Closed (1 + length inner)
    = ap (λ z. bars_end z (drop z (inner ++ 124 ∷ rest))) n ∙ ap (bars_end (length inner)) (drop-append_seam inner (124 ∷ rest)) in
    subst (λ z. Reaches t.Quoted (length (124 ∷ inner ++ 124 ∷ [])) (piece_of 124 z)) (sym (append_assoc inner (124 ∷ []) rest))
    (closed_reaches (length (124 ∷ inner ++ 124 ∷ [])) (1 + length inner) t.Quoted (inner ++ 124 ∷ rest) (bars_ending_of (inner ++ 124 ∷ rest)) (λ q. cc) (λ q. cc) ends (omega (arith, len)))

abbrev ReachesAt : Terminal → List ℕ → List ℕ → Type 0
ReachesAt kind rest front = Reaches kind (length front) (piece_at (front ++ rest))

spelled_reaches : (terminal : Terminal) (front rest : List ℕ) → IsSpelled terminal front → (terminal ≡ t.StringLiteral → begins (λ b. b == 34) rest ≡ false)
    → (is_number terminal ≡ true → begins is_symbol_byte rest ≡ false) → ReachesAt terminal rest front
spelled_reaches terminal front rest (opens is) h k =
    subst (ReachesAt t.Open rest) (sym is) (record { len = 1; terminal = t.Open; is = refl; same = λ q. refl; not_bad = λ q. cc; finished = λ q. cc; fits = omega arith })
spelled_reaches terminal front rest (closes is) h k =
    subst (ReachesAt t.Close rest) (sym is) (record { len = 1; terminal = t.Close; is = refl; same = λ q. refl; not_bad = λ q. cc; finished = λ q. cc; fits = omega arith })
spelled_reaches terminal front rest (numeral is) h k = numeral_reaches front rest is (k refl)
spelled_reaches terminal front rest (decimal whole digits w d is) h k = subst (ReachesAt t.Decimal rest) (sym is) (decimal_reaches whole digits rest w d (k refl))
spelled_reaches terminal front rest (hexadecimal digits r is) h k =
    subst (ReachesAt t.Hash rest) (sym is) (marked_reaches (length (35 ∷ 120 ∷ digits)) 2 (prefix_len is_ascii_hexdigit (digits ++ rest)) t.Hash (120 ∷ digits ++ rest) (λ q. cc) (λ q. cc)
    (run_reaches is_ascii_hexdigit digits rest r) (omega (arith, run_fits is_ascii_hexdigit digits rest (run_all is_ascii_hexdigit digits r))))
spelled_reaches terminal front rest (binary digits r is) h k =
    subst (ReachesAt t.Hash rest) (sym is) (marked_reaches (length (35 ∷ 98 ∷ digits)) 2 (prefix_len is_binary_digit (digits ++ rest)) t.Hash (98 ∷ digits ++ rest) (λ q. cc) (λ q. cc)
    (run_reaches is_binary_digit digits rest r) (omega (arith, run_fits is_binary_digit digits rest (run_all is_binary_digit digits r))))
spelled_reaches terminal front rest (string inner s is) h k = subst (ReachesAt t.StringLiteral rest) (sym is) (string_reaches inner rest s (h refl))
spelled_reaches terminal front rest (keyword name r is) h k =
    subst (ReachesAt t.Keyword rest) (sym is) (marked_reaches (length (58 ∷ name)) 1 (prefix_len is_symbol_byte (name ++ rest)) t.Keyword (name ++ rest) (λ q. cc) (λ q. cc)
    (run_reaches is_symbol_byte name rest r) (omega (arith, run_fits is_symbol_byte name rest (run_all is_symbol_byte name r))))
spelled_reaches terminal front rest (symbol r d) h k = symbol_reaches front rest r d
spelled_reaches terminal front rest (quoted inner a is) h k = subst (ReachesAt t.Quoted rest) (sym is) (quoted_reaches inner rest a)

pub token_reaches : (terminal : Terminal) (front rest : List ℕ) → IsScriptToken terminal front rest → Reaches terminal (length front) (piece_at (front ++ rest))
token_reaches terminal front rest x = spelled_reaches terminal front rest x.spelled x.ended x.parted
