-- What the scanner takes at the front of a text is a token there, white space or a comment, or all that is left.
use Rattle.std.proofs.Common.{ℕ, zero, suc, ◌≡◌, ◌≤◌, ◌+◌, ◌==◌, Bool, true, false, List, [], ◌∷◌, ◌++◌, length, take, drop, refl, sym, ap, subst, ◌∙◌, arith, if◌then◌else◌, append_assoc, append-nil, length-append, one-add, ◌⊎◌, inl, inr}
use Rattle.std.proofs.lemmas.List.{take-append-drop, length-take-le}
use Rattle.std.proofs.Math.Seq.{drop-length}
use Rattle.std.proofs.lemmas.List.Sums.{prefix_len-le-length}
use Rattle.std.specs.List.{list_all, prefix_len}
use Rattle.std.specs.Cmp.Derive.{both_true}
use Rattle.std.specs.Char.{is_ascii_digit, is_ascii_hexdigit}
use Rattle.std.proofs.lemmas.Bool.{eqb-true}
use Rattle.base_numerals.proofs.Tests.{front_all, if_begins}
use Rattle.smt_tokens.specs.declared.terminals.Terminal.{Terminal}
use Rattle.smt_tokens.specs.declared.terminals.Terminal.TheVariants as t
use Rattle.smt_tokens.specs.declared.scanner.Piece.{Piece}
use Rattle.smt_tokens.specs.declared.strings.Ending.{Ending}
use Rattle.smt_tokens.specs.declared.strings.Ending.TheVariants as e
use Rattle.smt_tokens.specs.Bytes.{is_white, is_in_line, is_symbol_byte, is_string_byte, is_bar_byte, is_binary_digit}
use Rattle.smt_tokens.specs.Lexemes.{piece_of, named, blank as blank_piece, marked, bad as bad_piece, number_piece, number_before, more_digits, fraction_len, fraction_of, hash_piece, enclosed, ending_from, string_ending_of, bars_ending_of, bars_end}
use Rattle.smt_tokens.specs.Tokens.{is_run, begins, is_none, is_numeral, IsString, nothing, byte, pair, IsSpelled, opens, closes, numeral, decimal, hexadecimal, binary, string, keyword, symbol, quoted, IsScriptToken, IsScriptBlank, white, comment, IsUnended, string as open_string, bars}
use Rattle.smt_tokens.proofs.Longest.{piece_at, run_whole, run_before, if_yes, choose}

-- Runs.

stops_by : (p : ℕ → Bool) (b : ℕ) (bs : List ℕ) (v : Bool) → p b ≡ v → begins p (drop (prefix_len p bs) bs) ≡ false → begins p (drop (prefix_len p (b ∷ bs)) (b ∷ bs)) ≡ false
stops_by p b bs true h r = rw (h, one-add) r
stops_by p b bs false h r = rw h h

-- the byte after a longest run does not pass
run_stops : (p : ℕ → Bool) (bs : List ℕ) → begins p (drop (prefix_len p bs) bs) ≡ false
run_stops p [] = refl
run_stops p (b ∷ bs) = stops_by p b bs (p b) refl (run_stops p bs)

some_run : (p : ℕ → Bool) (xs : List ℕ) → 1 ≤ length xs → list_all p xs ≡ true → is_run p xs ≡ true
some_run p [] h a = absurd (omega (arith, h))
some_run p (x ∷ xs) h a = a

-- a longest run that is not empty
run_taken : (p : ℕ → Bool) (bs : List ℕ) → 1 ≤ prefix_len p bs → is_run p (take (prefix_len p bs) bs) ≡ true
run_taken p bs h =
    let len : length (take (prefix_len p bs) bs) ≡ prefix_len p bs = length-take-le (prefix_len p bs) bs (prefix_len-le-length p bs) in
    some_run p (take (prefix_len p bs) bs) (omega (arith, h, len)) (front_all p bs)

taken_len : (p : ℕ → Bool) (bs : List ℕ) → length (take (prefix_len p bs) bs) ≡ prefix_len p bs
taken_len p bs = length-take-le (prefix_len p bs) bs (prefix_len-le-length p bs)

-- Strings and symbols between bars that do not end.

string_missing : (n : ℕ) (inner : List ℕ) → IsString inner → ending_from n false inner ≡ e.Missing
string_missing n inner (nothing is) = ap (ending_from n false) is
string_missing n inner (byte b more q p s is) =
    ap (ending_from n false) is ∙ choose (b == 34) (is_string_byte b) (ending_from (suc n) true more) (ending_from (suc n) false more) e.Forbidden q p ∙ string_missing (suc n) more s
string_missing n inner (pair more s is) = ap (ending_from n false) is ∙ string_missing (suc (suc n)) more s

whole_len : (b : ℕ) (bs : List ℕ) (terminal : Terminal) → named (1 + length bs) terminal ≡ named (length (b ∷ bs)) terminal
whole_len b bs terminal = ap (λ z. named z terminal) (one-add (length bs))

-- such a text is one token
pub open_is : (text : List ℕ) → IsUnended text → piece_at text ≡ named (length text) t.Unfinished
open_is text (open_string inner s is) =
    ap piece_at is ∙ ap (enclosed t.StringLiteral inner) (string_missing 0 inner s) ∙ whole_len 34 inner t.Unfinished ∙ ap (λ z. named (length z) t.Unfinished) (sym is)
open_is text (bars inner a is) =
    let ends : bars_ending_of inner ≡ e.Missing = ap (λ z. bars_end z (drop z inner)) (run_whole is_bar_byte inner a) ∙ ap (bars_end (length inner)) (drop-length inner) in
    ap piece_at is ∙ ap (enclosed t.Quoted inner) ends ∙ whole_len 124 inner t.Unfinished ∙ ap (λ z. named (length z) t.Unfinished) (sym is)

-- white space and comments are no token
pub blank_is : (front rest : List ℕ) → IsScriptBlank front rest → piece_at (front ++ rest) ≡ blank_piece (length front)
blank_is front rest (white b w is) = ap (λ z. piece_at (z ++ rest)) is ∙ if_yes (is_white b) (blank_piece 1) _ w ∙ ap (λ z. blank_piece (length z)) (sym is)
blank_is front rest (comment inner a h is) =
    ap (λ z. piece_at (z ++ rest)) is ∙ ap (λ z. blank_piece (1 + z)) (run_before is_in_line inner rest a h) ∙ ap blank_piece (one-add (length inner)) ∙ ap (λ z. blank_piece (length z)) (sym is)

-- What is taken.

-- what the piece at the front of a text is
pub data Begun (text : List ℕ) (piece : Piece) : Type 0 where
  a_blank : (front rest : List ℕ) → text ≡ front ++ rest → IsScriptBlank front rest → piece ≡ blank_piece (length front) → Begun text piece
  a_token : (terminal : Terminal) (front rest : List ℕ) → text ≡ front ++ rest → IsScriptToken terminal front rest → piece ≡ named (length front) terminal → Begun text piece
  an_open : IsUnended text → piece ≡ named (length text) t.Unfinished → Begun text piece
  a_bad : piece ≡ named (length text) t.Bad → Begun text piece

bad_begun : (b : ℕ) (bs : List ℕ) → Begun (b ∷ bs) (bad_piece bs)
bad_begun b bs = a_bad (whole_len b bs t.Bad)

-- a byte with a longest run after it
behind : (p : ℕ → Bool) (b : ℕ) (bs : List ℕ) → b ∷ bs ≡ (b ∷ take (prefix_len p bs) bs) ++ drop (prefix_len p bs) bs
behind p b bs = ap (λ z. b ∷ z) (sym (take-append-drop (prefix_len p bs) bs))

comment_begun : (bs : List ℕ) → Begun (59 ∷ bs) (blank_piece (1 + prefix_len is_in_line bs))
comment_begun bs =
    a_blank (59 ∷ take (prefix_len is_in_line bs) bs) (drop (prefix_len is_in_line bs) bs) (behind is_in_line 59 bs)
    (comment (take (prefix_len is_in_line bs) bs) (front_all is_in_line bs) (run_stops is_in_line bs) refl)
    (ap blank_piece (one-add (prefix_len is_in_line bs) ∙ ap suc (sym (taken_len is_in_line bs))))

symbol_begun : (b : ℕ) (bs : List ℕ) → is_symbol_byte b ≡ true → is_ascii_digit b ≡ false → Begun (b ∷ bs) (named (1 + prefix_len is_symbol_byte bs) t.Symbol)
symbol_begun b bs s d =
    a_token t.Symbol (b ∷ take (prefix_len is_symbol_byte bs) bs) (drop (prefix_len is_symbol_byte bs) bs) (behind is_symbol_byte b bs)
    (record { spelled = symbol (both_true s (front_all is_symbol_byte bs)) d; ended = λ q. absurd (cc); parted = λ q. absurd (cc) })
    (ap (λ z. named z t.Symbol) (one-add (prefix_len is_symbol_byte bs) ∙ ap suc (sym (taken_len is_symbol_byte bs))))

keyword_by : (bs : List ℕ) (n : ℕ) → prefix_len is_symbol_byte bs ≡ n → Begun (58 ∷ bs) (marked 1 n t.Keyword bs)
keyword_by bs zero q = bad_begun 58 bs
keyword_by bs (suc n) q =
    let some : 1 ≤ prefix_len is_symbol_byte bs = omega (arith, q) in
    a_token t.Keyword (58 ∷ take (prefix_len is_symbol_byte bs) bs) (drop (prefix_len is_symbol_byte bs) bs) (behind is_symbol_byte 58 bs)
    (record { spelled = keyword (take (prefix_len is_symbol_byte bs) bs) (run_taken is_symbol_byte bs some) refl; ended = λ q. absurd (cc); parted = λ q. absurd (cc) })
    (ap (λ z. named z t.Keyword) (ap (λ z. 1 + z) (sym q ∙ sym (taken_len is_symbol_byte bs)) ∙ one-add (length (take (prefix_len is_symbol_byte bs) bs))))

two_more : (n : ℕ) → 2 + n ≡ suc (suc n)
two_more n = omega arith

hash_by : (p : ℕ → Bool) (c : ℕ) (bs : List ℕ) (n : ℕ) → prefix_len p bs ≡ n → ((digits : List ℕ) → is_run p digits ≡ true → IsSpelled t.Hash (35 ∷ c ∷ digits)) → Begun (35 ∷ c ∷ bs) (marked 2 n t.Hash (c ∷ bs))
hash_by p c bs zero q spelled = bad_begun 35 (c ∷ bs)
hash_by p c bs (suc n) q spelled =
    let some : 1 ≤ prefix_len p bs = omega (arith, q) in
    a_token t.Hash (35 ∷ c ∷ take (prefix_len p bs) bs) (drop (prefix_len p bs) bs) (ap (λ z. 35 ∷ z) (behind p c bs))
    (record { spelled = spelled (take (prefix_len p bs) bs) (run_taken p bs some); ended = λ q. absurd (cc); parted = λ q. absurd (cc) })
    (ap (λ z. named z t.Hash) (ap (λ z. 2 + z) (sym q ∙ sym (taken_len p bs)) ∙ two_more (length (take (prefix_len p bs) bs))))

hash_begun : (bs : List ℕ) → Begun (35 ∷ bs) (hash_piece bs)
hash_begun [] = bad_begun 35 []
hash_begun (c ∷ bs) =
    if_begins (Begun (35 ∷ c ∷ bs)) (c == 120) _ _
    (λ h. subst (λ z. Begun (35 ∷ z ∷ bs) (marked 2 (prefix_len is_ascii_hexdigit bs) t.Hash (z ∷ bs))) (sym (eqb-true c 120 h))
    (hash_by is_ascii_hexdigit 120 bs (prefix_len is_ascii_hexdigit bs) refl (λ digits r. hexadecimal digits r refl)))
    (λ h. if_begins (Begun (35 ∷ c ∷ bs)) (c == 98) _ _
    (λ k. subst (λ z. Begun (35 ∷ z ∷ bs) (marked 2 (prefix_len is_binary_digit bs) t.Hash (z ∷ bs))) (sym (eqb-true c 98 k))
    (hash_by is_binary_digit 98 bs (prefix_len is_binary_digit bs) refl (λ digits r. binary digits r refl)))
    (λ k. bad_begun 35 (c ∷ bs)))

-- Numbers.

numeral_is : (b : ℕ) (bs : List ℕ) → is_ascii_digit b ≡ true → is_numeral (b ∷ take (more_digits b bs) bs) ≡ true
numeral_is b bs d = both_true d (by (b == 48))
  where
    by : (v : Bool) → (if v then is_none (take (if v then 0 else prefix_len is_ascii_digit bs) bs) else list_all is_ascii_digit (take (if v then 0 else prefix_len is_ascii_digit bs) bs)) ≡ true
    by true = refl
    by false = front_all is_ascii_digit bs

digits_within : (b : ℕ) (bs : List ℕ) → more_digits b bs ≤ length bs
digits_within b bs = by (b == 48)
  where
    by : (v : Bool) → (if v then 0 else prefix_len is_ascii_digit bs) ≤ length bs
    by true = omega arith
    by false = prefix_len-le-length is_ascii_digit bs

-- a dot with digits after it
record Fraction (text : List ℕ) (n : ℕ) : Type 0 where
  digits : List ℕ
  is : text ≡ 46 ∷ digits
  run : 1 ≤ prefix_len is_ascii_digit digits
  len : n ≡ suc (prefix_len is_ascii_digit digits)

fraction_by : (k n : ℕ) → fraction_of k ≡ suc n → (1 ≤ k) × (suc n ≡ suc k)
fraction_by zero n q = cc
fraction_by (suc k) n q = (omega arith, omega (arith, q))

fraction_is : (text : List ℕ) (n : ℕ) → fraction_len text ≡ suc n → Fraction text (suc n)
fraction_is [] n q = cc
fraction_is (b ∷ text) n q = by (b == 46) refl q
  where
    by : (v : Bool) → (b == 46) ≡ v → (if v then fraction_of (prefix_len is_ascii_digit text) else 0) ≡ suc n → Fraction (b ∷ text) (suc n)
    by true h k =
        let f = fraction_by (prefix_len is_ascii_digit text) n k in
        record { digits = text; is = ap (λ z. z ∷ text) (eqb-true b 46 h); run = f.0; len = f.1 }
    by false h k = cc

number_by : (b : ℕ) (bs : List ℕ) (m : ℕ) → is_ascii_digit b ≡ true → fraction_len (drop (more_digits b bs) bs) ≡ m
    → begins is_symbol_byte (drop m (drop (more_digits b bs) bs)) ≡ false → Begun (b ∷ bs) (number_piece (1 + more_digits b bs) m)
number_by b bs zero d q h =
    let n = more_digits b bs in
    let len : length (take n bs) ≡ n = length-take-le n bs (digits_within b bs) in
    a_token t.Numeral (b ∷ take n bs) (drop n bs) (ap (λ z. b ∷ z) (sym (take-append-drop n bs)))
    (record { spelled = numeral (numeral_is b bs d); ended = λ q. absurd (cc); parted = λ q. h })
    (ap (λ z. named z t.Numeral) (one-add n ∙ ap suc (sym len)))
number_by b bs (suc m) d q h =
    let n = more_digits b bs in
    let f = fraction_is (drop n bs) m q in
    let k = prefix_len is_ascii_digit f.digits in
    let len : length (take n bs) ≡ n = length-take-le n bs (digits_within b bs) in
    let size : length ((b ∷ take n bs) ++ 46 ∷ take k f.digits) ≡ suc (length (take n bs)) + suc (length (take k f.digits)) = length-append (b ∷ take n bs) (46 ∷ take k f.digits) in
    let parts : b ∷ bs ≡ ((b ∷ take n bs) ++ 46 ∷ take k f.digits) ++ drop k f.digits =
    ap (λ z. b ∷ z) (sym (take-append-drop n bs)) ∙ ap (λ z. (b ∷ take n bs) ++ z) (f.is ∙ ap (λ z. 46 ∷ z) (sym (take-append-drop k f.digits)))
    ∙ sym (append_assoc (b ∷ take n bs) (46 ∷ take k f.digits) (drop k f.digits)) in
    let rest : drop k f.digits ≡ drop (suc m) (drop n bs) = sym (ap (drop (suc m)) f.is ∙ ap (λ z. drop z (46 ∷ f.digits)) f.len) in
    a_token t.Decimal ((b ∷ take n bs) ++ 46 ∷ take k f.digits) (drop k f.digits) parts
    (record { spelled = decimal (b ∷ take n bs) (take k f.digits) (numeral_is b bs d) (run_taken is_ascii_digit f.digits f.run) refl; ended = λ q. absurd (cc); parted = λ q. ap (begins is_symbol_byte) rest ∙ h })
    (ap (λ z. named z t.Decimal) (omega (arith, size, len, f.len, taken_len is_ascii_digit f.digits)))

number_begun : (b : ℕ) (bs : List ℕ) → is_ascii_digit b ≡ true → Begun (b ∷ bs) (number_before bs (1 + more_digits b bs) (drop (more_digits b bs) bs))
number_begun b bs d =
    let text = drop (more_digits b bs) bs in
    if_begins (Begun (b ∷ bs)) (begins is_symbol_byte (drop (fraction_len text) text)) _ _ (λ h. bad_begun b bs) (λ h. number_by b bs (fraction_len text) d refl h)

-- Strings.

record Closed (n : ℕ) (text : List ℕ) (m : ℕ) : Type 0 where
  inner : List ℕ
  rest : List ℕ
  is : text ≡ inner ++ 34 ∷ rest
  body : IsString inner
  ended : begins (λ b. b == 34) rest ≡ false
  len : m ≡ suc (n + length inner)

quote_is : (b : ℕ) (text more : List ℕ) → (b == 34) ≡ true → text ≡ more → b ∷ text ≡ 34 ∷ more
quote_is b text more h q = let x : b ≡ 34 = eqb-true b 34 h in cc

closed_here : (n m b : ℕ) (rest : List ℕ) → (b == 34) ≡ true → begins (λ b. b == 34) rest ≡ false → suc n ≡ m → Closed n (b ∷ rest) m
closed_here n m b rest h f q =
    record { inner = []; rest = rest; is = quote_is b rest rest h refl; body = nothing refl; ended = f; len = omega (arith, q) }

-- where the string closes, if a quote that begins no pair stands before the text: there, unless another one stands here
abbrev ClosedBehind : Bool → ℕ → List ℕ → ℕ → Type 0
ClosedBehind false n text m = Closed n text m
ClosedBehind true n text m = ((n ≡ m) × (begins (λ b. b == 34) text ≡ false)) ⊎ ((more : List ℕ) × (text ≡ 34 ∷ more) × Closed (suc n) more m)

closed_pair : (n m b : ℕ) (text : List ℕ) → (b == 34) ≡ true → ClosedBehind true (suc n) text m → Closed n (b ∷ text) m
closed_pair n m b text h (inl x) = closed_here n m b text h x.1 x.0
closed_pair n m b text h (inr x) =
    let r = x.2 in
    record {
      inner = 34 ∷ 34 ∷ r.inner;
      rest = r.rest;
      is = quote_is b text (34 ∷ r.inner ++ 34 ∷ r.rest) h (x.1 ∙ ap (λ z. 34 ∷ z) r.is);
      body = pair r.inner r.body refl;
      ended = r.ended;
      len = omega (arith, r.len);
    }

closed_more : (n m b : ℕ) (text : List ℕ) → (b == 34) ≡ false → is_string_byte b ≡ true → Closed (suc n) text m → Closed n (b ∷ text) m
closed_more n m b text h k r =
    record { inner = b ∷ r.inner; rest = r.rest; is = ap (λ z. b ∷ z) r.is; body = byte b r.inner h k r.body refl; ended = r.ended; len = omega (arith, r.len) }

closed_quote : (n m b : ℕ) (text : List ℕ) (w : Bool) → (b == 34) ≡ w → (ending_from (suc n) false text ≡ e.Closed m → Closed (suc n) text m)
    → (if w then ending_from (suc n) false text else e.Closed n) ≡ e.Closed m → ClosedBehind true n (b ∷ text) m
closed_quote n m b text true h go q = inr (text, quote_is b text text h refl, go q)
closed_quote n m b text false h go q = let x : n ≡ m = cc in inl (x, h)

closed_by : (n m b : ℕ) (text : List ℕ) (u v : Bool) → (b == 34) ≡ u → is_string_byte b ≡ v
    → (ending_from (suc n) true text ≡ e.Closed m → ClosedBehind true (suc n) text m) → (ending_from (suc n) false text ≡ e.Closed m → Closed (suc n) text m)
    → (if u then ending_from (suc n) true text else (if v then ending_from (suc n) false text else e.Forbidden)) ≡ e.Closed m → Closed n (b ∷ text) m
closed_by n m b text true v h k quoted_on on q = closed_pair n m b text h (quoted_on q)
closed_by n m b text false true h k quoted_on on q = closed_more n m b text h k (on q)
closed_by n m b text false false h k quoted_on on q = absurd (cc)

string_closed : (quote : Bool) (n m : ℕ) (text : List ℕ) → ending_from n quote text ≡ e.Closed m → ClosedBehind quote n text m
string_closed true n m [] q = let x : n ≡ m = cc in inl (x, refl)
string_closed true n m (b ∷ text) q = closed_quote n m b text (b == 34) refl (string_closed false (suc n) m text) q
string_closed false n m [] q = absurd (cc)
string_closed false n m (b ∷ text) q = closed_by n m b text (b == 34) (is_string_byte b) refl refl (string_closed true (suc n) m text) (string_closed false (suc n) m text) q

-- a string that does not close; where a quote stands before the text, another one begins it
abbrev MissingBehind : Bool → List ℕ → Type 0
MissingBehind false text = IsString text
MissingBehind true text = (more : List ℕ) × (text ≡ 34 ∷ more) × IsString more

missing_pair : (b : ℕ) (text : List ℕ) → (b == 34) ≡ true → MissingBehind true text → IsString (b ∷ text)
missing_pair b text h x = pair x.0 x.2 (quote_is b text (34 ∷ x.0) h x.1)

missing_quote : (n b : ℕ) (text : List ℕ) (w : Bool) → (b == 34) ≡ w → (ending_from (suc n) false text ≡ e.Missing → IsString text)
    → (if w then ending_from (suc n) false text else e.Closed n) ≡ e.Missing → MissingBehind true (b ∷ text)
missing_quote n b text true h go q = (text, quote_is b text text h refl, go q)
missing_quote n b text false h go q = absurd (cc)

missing_by : (n b : ℕ) (text : List ℕ) (u v : Bool) → (b == 34) ≡ u → is_string_byte b ≡ v
    → (ending_from (suc n) true text ≡ e.Missing → MissingBehind true text) → (ending_from (suc n) false text ≡ e.Missing → IsString text)
    → (if u then ending_from (suc n) true text else (if v then ending_from (suc n) false text else e.Forbidden)) ≡ e.Missing → IsString (b ∷ text)
missing_by n b text true v h k quoted_on on q = missing_pair b text h (quoted_on q)
missing_by n b text false true h k quoted_on on q = byte b text h k (on q) refl
missing_by n b text false false h k quoted_on on q = absurd (cc)

string_is_missing : (quote : Bool) (n : ℕ) (text : List ℕ) → ending_from n quote text ≡ e.Missing → MissingBehind quote text
string_is_missing true n [] q = absurd (cc)
string_is_missing true n (b ∷ text) q = missing_quote n b text (b == 34) refl (string_is_missing false (suc n) text) q
string_is_missing false n [] q = nothing refl
string_is_missing false n (b ∷ text) q = missing_by n b text (b == 34) (is_string_byte b) refl refl (string_is_missing true (suc n) text) (string_is_missing false (suc n) text) q

string_by : (bs : List ℕ) (ending : Ending) → string_ending_of bs ≡ ending → Begun (34 ∷ bs) (enclosed t.StringLiteral bs ending)
string_by bs (e.Closed m) q =
    let r = string_closed false 0 m bs q in
    let size : length (34 ∷ r.inner ++ 34 ∷ []) ≡ suc (length r.inner + 1) = ap suc (length-append r.inner (34 ∷ [])) in
    a_token t.StringLiteral (34 ∷ r.inner ++ 34 ∷ []) r.rest (ap (λ z. 34 ∷ z) (r.is ∙ sym (append_assoc r.inner (34 ∷ []) r.rest)))
    (record { spelled = string r.inner r.body refl; ended = λ q. r.ended; parted = λ q. absurd (cc) }) (ap (λ z. named z t.StringLiteral) (omega (arith, size, r.len)))
string_by bs e.Forbidden q = bad_begun 34 bs
string_by bs e.Missing q = an_open (open_string bs (string_is_missing false 0 bs q) refl) (whole_len 34 bs t.Unfinished)

bars_by : (bs ds : List ℕ) → drop (prefix_len is_bar_byte bs) bs ≡ ds → Begun (124 ∷ bs) (enclosed t.Quoted bs (bars_end (prefix_len is_bar_byte bs) ds))
bars_by bs [] q =
    let whole : take (prefix_len is_bar_byte bs) bs ≡ bs = sym (append-nil (take (prefix_len is_bar_byte bs) bs)) ∙ ap (λ z. take (prefix_len is_bar_byte bs) bs ++ z) (sym q) ∙ take-append-drop (prefix_len is_bar_byte bs) bs in
    an_open (bars bs (ap (list_all is_bar_byte) (sym whole) ∙ front_all is_bar_byte bs) refl) (whole_len 124 bs t.Unfinished)
bars_by bs (c ∷ ds) q =
    if_begins (λ z. Begun (124 ∷ bs) (enclosed t.Quoted bs z)) (c == 124) _ _
    (λ h.
    let inner = take (prefix_len is_bar_byte bs) bs in
    let here : c ≡ 124 = eqb-true c 124 h in
    let size : length (124 ∷ inner ++ 124 ∷ []) ≡ suc (length inner + 1) = ap suc (length-append inner (124 ∷ [])) in
    a_token t.Quoted (124 ∷ inner ++ 124 ∷ []) ds
    (ap (λ z. 124 ∷ z) (sym (take-append-drop (prefix_len is_bar_byte bs) bs) ∙ ap (λ z. inner ++ z) (q ∙ ap (λ z. z ∷ ds) here) ∙ sym (append_assoc inner (124 ∷ []) ds)))
    (record { spelled = quoted inner (front_all is_bar_byte bs) refl; ended = λ q. absurd (cc); parted = λ q. absurd (cc) })
    (ap (λ z. named z t.Quoted) (omega (arith, size, taken_len is_bar_byte bs))))
    (λ h. bad_begun 124 bs)

-- a byte that is known, in the place of the byte that it is
at : (b n : ℕ) (bs : List ℕ) (piece : ℕ → Piece) → (b == n) ≡ true → Begun (n ∷ bs) (piece n) → Begun (b ∷ bs) (piece b)
at b n bs piece h x = subst (λ z. Begun (z ∷ bs) (piece z)) (sym (eqb-true b n h)) x

pub piece_begun : (b : ℕ) (bs : List ℕ) → Begun (b ∷ bs) (piece_of b bs)
piece_begun b bs =
    if_begins (Begun (b ∷ bs)) (is_white b) _ _ (λ h. a_blank (b ∷ []) bs refl (white b h refl) refl)
    (λ h0. if_begins (Begun (b ∷ bs)) (b == 59) _ _ (λ h. at b 59 bs (λ z. blank_piece (1 + prefix_len is_in_line bs)) h (comment_begun bs))
    (λ h1. if_begins (Begun (b ∷ bs)) (b == 40) _ _ (λ h. at b 40 bs (λ z. named 1 t.Open) h (a_token t.Open (40 ∷ []) bs refl (record { spelled = opens refl; ended = λ q. absurd (cc); parted = λ q. absurd (cc) }) refl))
    (λ h2. if_begins (Begun (b ∷ bs)) (b == 41) _ _ (λ h. at b 41 bs (λ z. named 1 t.Close) h (a_token t.Close (41 ∷ []) bs refl (record { spelled = closes refl; ended = λ q. absurd (cc); parted = λ q. absurd (cc) }) refl))
    (λ h3. if_begins (Begun (b ∷ bs)) (is_ascii_digit b) _ _ (λ h. number_begun b bs h)
    (λ d. if_begins (Begun (b ∷ bs)) (is_symbol_byte b) _ _ (λ h. symbol_begun b bs h d)
    (λ h5. if_begins (Begun (b ∷ bs)) (b == 58) _ _ (λ h. at b 58 bs (λ z. marked 1 (prefix_len is_symbol_byte bs) t.Keyword bs) h (keyword_by bs (prefix_len is_symbol_byte bs) refl))
    (λ h6. if_begins (Begun (b ∷ bs)) (b == 35) _ _ (λ h. at b 35 bs (λ z. hash_piece bs) h (hash_begun bs))
    (λ h7. if_begins (Begun (b ∷ bs)) (b == 34) _ _ (λ h. at b 34 bs (λ z. enclosed t.StringLiteral bs (string_ending_of bs)) h (string_by bs (string_ending_of bs) refl))
    (λ h8. if_begins (Begun (b ∷ bs)) (b == 124) _ _ (λ h. at b 124 bs (λ z. enclosed t.Quoted bs (bars_ending_of bs)) h (bars_by bs (drop (prefix_len is_bar_byte bs) bs) refl))
    (λ h9. bad_begun b bs))))))))))
