-- Parts of terms, monomials and constants, are read exactly where their spelling comes.
use Rattle.std.proofs.Common.{ℕ, zero, suc, ◌≡◌, ◌≤◌, ◌<◌, ◌^◌, ◌==◌, ◌&&◌, Bool, true, false, cond, List, [], ◌∷◌, ◌++◌, take, drop, length, Option, Some, None, refl, sym, ap, subst, ◌∙◌, append_assoc, append-nil, arith}
use Rattle.std.specs.Prelude.{nat_eq, nat_lt}
use Rattle.std.specs.Option.{option_map}
use Rattle.std.specs.List.{AllByRecursion, list_all, prefix_len}
use Rattle.std.specs.Char.{is_ascii_digit}
use Rattle.std.specs.Fmt.{decimal}
use Rattle.std.proofs.lemmas.List.{take-append-drop, take_at, drop_at}
use Rattle.std.proofs.lemmas.Bool.Decides.{nat_tests}
use Rattle.base_numerals.proofs.Tests.{left_true, right_true}
use Rattle.base_numerals.proofs.Decimals.{digits_back}
use Rattle.proof_tokens.specs.Words.{is_numeral}
use Rattle.proof_tokens.proofs.Numerals.{numeral_spelled}
use Rattle.proof_tokens.proofs.Decimals.{decimal_is, numeral_back}
use Rattle.clause_words.specs.Tokens.{in_word}
use Rattle.clause_words.specs.Numbers.{index_of, size_of}
use Rattle.clause_words.specs.Spelling.{is_plain}
use Rattle.clause_words.specs.declared.terms.Part.{Part}
use Rattle.clause_words.specs.declared.terms.Part.TheVariants as p
use Rattle.clause_words.specs.Terms.{SignedPart, behind_star, factor_text, longer, monomial_of, no_sign, no_star, part_of, part_text, parts, parts_behind, parts_text, star_part}
use Rattle.clause_words.proofs.Runs.{front_len, whole_len, star_stops, star_rest}
use Rattle.clause_words.proofs.Spelled.{index_spelling, decimal_plain, numeral_parts}
use Rattle.clause_words.proofs.Summing.{split_is}

-- ---- one part

abbrev pub IsPart : Part → Type 0
IsPart (p.Constant n) = n < 2 ^ 127
IsPart (p.Monomial n x) = (n < 2 ^ 127) × (1 ≤ n) × (x < 2 ^ 32)

abbrev HasPart : List ℕ → Part → Type 0
HasPart w q = IsPart q × (w ≡ part_text q)

pub at : (b c : ℕ) → (b == c) ≡ true → b ≡ c
at b c h = grind (arith, nat_tests)

one_text : (x : ℕ) → part_text (p.Monomial 1 x) ≡ 99 ∷ decimal x
one_text x = refl

many_text : (n x : ℕ) → 2 ≤ n → part_text (p.Monomial n x) ≡ decimal n ++ 42 ∷ 99 ∷ decimal x
many_text n x h =
    let e : nat_eq n 1 ≡ false = grind (arith, nat_tests) in
    ap (λ b. cond b [] (decimal n ++ 42 ∷ []) ++ 99 ∷ decimal x) e ∙ append_assoc (decimal n) (42 ∷ []) (99 ∷ decimal x)

name_found : (bs : List ℕ) (q : Part) (o : Option ℕ) → index_of bs ≡ o → option_map (p.Monomial 1) o ≡ Some q → HasPart (99 ∷ bs) q
name_found bs q None e h = absurd cc
name_found bs q (Some x) e h =
    let f = index_spelling.found bs x e in
    let is : p.Monomial 1 x ≡ q = cc in
    subst (λ z. HasPart (99 ∷ bs) z) is ((omega arith, omega arith, f.0), ap (λ z. 99 ∷ z) f.1)

constant_found : (ds : List ℕ) (q : Part) (o : Option ℕ) → size_of ds ≡ o → option_map p.Constant o ≡ Some q → HasPart ds q
constant_found ds q None e h = absurd cc
constant_found ds q (Some n) e h =
    let f = numeral_spelled (2 ^ 127) ds n (omega arith) e in
    let is : p.Constant n ≡ q = cc in
    subst (λ z. HasPart ds z) is (f.1, f.0)

both_found : (ds xs : List ℕ) (q : Part) (m n : Option ℕ) → size_of ds ≡ m → index_of xs ≡ n → monomial_of m n ≡ Some q → HasPart (ds ++ 42 ∷ 99 ∷ xs) q
both_found ds xs q None n e g h = absurd cc
both_found ds xs q (Some m) None e g h = absurd cc
both_found ds xs q (Some m) (Some x) e g h = by (nat_lt 1 m) refl h
  where
    by : (b : Bool) → nat_lt 1 m ≡ b → cond b (Some (p.Monomial m x)) None ≡ Some q → HasPart (ds ++ 42 ∷ 99 ∷ xs) q
    by false k h = absurd cc
    by true k h =
        let f = numeral_spelled (2 ^ 127) ds m (omega arith) e in
        let g = index_spelling.found xs x g in
        let two : 2 ≤ m = grind (arith, nat_tests) in
        let is : p.Monomial m x ≡ q = cc in
        subst (λ z. HasPart (ds ++ 42 ∷ 99 ∷ xs) z) is ((f.1, omega arith, g.0), ap (λ z. z ++ 42 ∷ 99 ∷ xs) f.0 ∙ ap (λ z. decimal m ++ 42 ∷ 99 ∷ z) g.1 ∙ sym (many_text m x two))

star_found : (ds d : List ℕ) (q : Part) → star_stops d → behind_star ds d ≡ Some q → HasPart (ds ++ d) q
star_found ds [] q s h = subst (λ z. HasPart z q) (sym (append-nil ds)) (constant_found ds q (size_of ds) refl h)
star_found ds (b ∷ []) q s h = absurd cc
star_found ds (b ∷ c ∷ xs) q s h = by (c == 99) refl h
  where
    by : (v : Bool) → (c == 99) ≡ v → cond v (monomial_of (size_of ds) (index_of xs)) None ≡ Some q → HasPart (ds ++ b ∷ c ∷ xs) q
    by false e h = absurd cc
    by true e h =
        let f = both_found ds xs q (size_of ds) (index_of xs) refl refl h in
        (f.0, ap (λ z. ds ++ z ∷ c ∷ xs) s ∙ ap (λ z. ds ++ 42 ∷ z ∷ xs) (at c 99 e) ∙ f.1)

pub part_found : (w : List ℕ) (q : Part) → part_of w ≡ Some q → HasPart w q
unfolding part_of
part_found [] q h = absurd cc
part_found (b ∷ bs) q h = by (b == 99) refl h
  where
    by : (v : Bool) → (b == 99) ≡ v → cond v (option_map (p.Monomial 1) (index_of bs)) (star_part (b ∷ bs)) ≡ Some q → HasPart (b ∷ bs) q
    by true e h = let f = name_found bs q (index_of bs) refl h in (f.0, ap (λ z. z ∷ bs) (at b 99 e) ∙ f.1)
    by false e h =
        let n = prefix_len no_star (b ∷ bs) in
        let f = star_found (take n (b ∷ bs)) (drop n (b ∷ bs)) q (star_rest (b ∷ bs)) h in
        (f.0, sym (take-append-drop n (b ∷ bs)) ∙ f.1)

-- ---- again

not_name : (d : ℕ) → is_ascii_digit d ≡ true → (d == 99) ≡ false
not_name d h = grind (arith, nat_tests)

digit_no_star : (b : ℕ) → is_ascii_digit b ≡ true → no_star b ≡ true
digit_no_star b h = grind (arith, nat_tests)

digits_no_star : (w : List ℕ) → list_all is_ascii_digit w ≡ true → list_all no_star w ≡ true
digits_no_star [] h = refl
digits_no_star (b ∷ bs) h = rw (digit_no_star b (left_true (is_ascii_digit b) (list_all is_ascii_digit bs) h)) (digits_no_star bs (right_true (is_ascii_digit b) (list_all is_ascii_digit bs) h))

-- a word that begins with a digit is no name
numeral_first : (w more : List ℕ) → is_numeral w ≡ true → part_of (w ++ more) ≡ star_part (w ++ more)
unfolding part_of
numeral_first [] more h = absurd cc
numeral_first (d ∷ ds) more h = ap (λ v. cond v (option_map (p.Monomial 1) (index_of (ds ++ more))) (star_part (d ∷ ds ++ more))) (not_name d (numeral_parts d ds h).0)

star_alone : (w : List ℕ) → list_all no_star w ≡ true → star_part w ≡ option_map p.Constant (size_of w)
star_alone w h =
    let n = whole_len no_star w h in
    ap (λ k. behind_star (take k w) (drop k w)) n
    ∙ ap (λ z. behind_star (take (length w) w) z) (Rattle.std.proofs.lemmas.List.drop_all (length w) w (omega arith))
    ∙ ap (λ z. option_map p.Constant (size_of z)) (Rattle.std.proofs.lemmas.List.take_all (length w) w (omega arith))

star_split : (w xs : List ℕ) → list_all no_star w ≡ true → star_part (w ++ 42 ∷ 99 ∷ xs) ≡ monomial_of (size_of w) (index_of xs)
star_split w xs h =
    let n : prefix_len no_star (w ++ 42 ∷ 99 ∷ xs) ≡ length w = front_len no_star w 42 (99 ∷ xs) h refl in
    ap (λ k. behind_star (take k (w ++ 42 ∷ 99 ∷ xs)) (drop k (w ++ 42 ∷ 99 ∷ xs))) n
    ∙ ap (λ z. behind_star z (drop (length w) (w ++ 42 ∷ 99 ∷ xs))) (take_at w (42 ∷ 99 ∷ xs) (length w) refl)
    ∙ ap (behind_star w) (drop_at w (42 ∷ 99 ∷ xs) (length w) refl)

pub constant_again : (n : ℕ) → n < 2 ^ 127 → part_of (decimal n) ≡ Some (p.Constant n)
constant_again n h =
    let d = decimal_is n (omega arith) in
    ap part_of (sym (append-nil (decimal n))) ∙ numeral_first (decimal n) [] d.numeral ∙ ap star_part (append-nil (decimal n))
    ∙ star_alone (decimal n) (digits_no_star (decimal n) (digits_back n (omega arith)))
    ∙ ap (option_map p.Constant) (numeral_back (2 ^ 127) n h (omega arith))

name_again : (x : ℕ) → x < 2 ^ 32 → part_of (99 ∷ decimal x) ≡ Some (p.Monomial 1 x)
unfolding part_of
name_again x h = ap (option_map (p.Monomial 1)) (index_spelling.again x h)

monomial_again : (n x : ℕ) → n < 2 ^ 127 → 2 ≤ n → x < 2 ^ 32 → part_of (decimal n ++ 42 ∷ 99 ∷ decimal x) ≡ Some (p.Monomial n x)
monomial_again n x h two g =
    let d = decimal_is n (omega arith) in
    let lt : nat_lt 1 n ≡ true = grind (arith, nat_tests) in
    numeral_first (decimal n) (42 ∷ 99 ∷ decimal x) d.numeral
    ∙ star_split (decimal n) (decimal x) (digits_no_star (decimal n) (digits_back n (omega arith)))
    ∙ ap (λ z. monomial_of z (index_of (decimal x))) (numeral_back (2 ^ 127) n h (omega arith))
    ∙ ap (monomial_of (Some n)) (index_spelling.again x g)
    ∙ ap (λ b. cond b (Some (p.Monomial n x)) None) lt

pub part_again : (q : Part) → IsPart q → part_of (part_text q) ≡ Some q
part_again (p.Constant n) i = constant_again n i
part_again (p.Monomial zero x) i = absurd (omega (arith, i.1))
part_again (p.Monomial (suc zero) x) i = ap part_of (one_text x) ∙ name_again x i.2
part_again (p.Monomial (suc (suc n)) x) i = ap part_of (many_text (suc (suc n)) x (omega arith)) ∙ monomial_again (suc (suc n)) x i.0 (omega arith) i.2

-- ---- no sign and no separator in a part

abbrev is_part_byte : ℕ → Bool
is_part_byte b = no_sign b && in_word b

digit_part_byte : (b : ℕ) → is_ascii_digit b ≡ true → is_part_byte b ≡ true
digit_part_byte b h = grind (arith, nat_tests)

digits_part_bytes : (w : List ℕ) → list_all is_ascii_digit w ≡ true → list_all is_part_byte w ≡ true
digits_part_bytes [] h = refl
digits_part_bytes (b ∷ bs) h = rw (digit_part_byte b (left_true (is_ascii_digit b) (list_all is_ascii_digit bs) h)) (digits_part_bytes bs (right_true (is_ascii_digit b) (list_all is_ascii_digit bs) h))

pub all_append : (f : ℕ → Bool) (a b : List ℕ) → list_all f a ≡ true → list_all f b ≡ true → list_all f (a ++ b) ≡ true
all_append f [] b h k = k
all_append f (x ∷ xs) b h k = rw (left_true (f x) (list_all f xs) h) (all_append f xs b (right_true (f x) (list_all f xs) h) k)

decimal_bytes : (n : ℕ) → n < 10 ^ 64 → list_all is_part_byte (decimal n) ≡ true
decimal_bytes n h = digits_part_bytes (decimal n) (digits_back n h)

factor_bytes : (n : ℕ) → n < 10 ^ 64 → list_all is_part_byte (factor_text n) ≡ true
factor_bytes n h = by (nat_eq n 1)
  where
    by : (v : Bool) → list_all is_part_byte (cond v [] (decimal n ++ 42 ∷ [])) ≡ true
    by true = refl
    by false = all_append is_part_byte (decimal n) (42 ∷ []) (decimal_bytes n h) refl

pub part_bytes : (q : Part) → IsPart q → list_all is_part_byte (part_text q) ≡ true
part_bytes (p.Constant n) i = decimal_bytes n (omega (arith, i))
part_bytes (p.Monomial n x) i = all_append is_part_byte (factor_text n) (99 ∷ decimal x) (factor_bytes n (omega (arith, i.0))) (decimal_bytes x (omega (arith, i.2)))

and_left : (f g : ℕ → Bool) (w : List ℕ) → list_all (λ b. f b && g b) w ≡ true → list_all f w ≡ true
and_left f g [] h = refl
and_left f g (b ∷ bs) h =
    let here = left_true (f b && g b) (list_all (λ b. f b && g b) bs) h in
    rw (left_true (f b) (g b) here) (and_left f g bs (right_true (f b && g b) (list_all (λ b. f b && g b) bs) h))

pub and_right : (f g : ℕ → Bool) (w : List ℕ) → list_all (λ b. f b && g b) w ≡ true → list_all g w ≡ true
and_right f g [] h = refl
and_right f g (b ∷ bs) h =
    let here = left_true (f b && g b) (list_all (λ b. f b && g b) bs) h in
    rw (right_true (f b) (g b) here) (and_right f g bs (right_true (f b && g b) (list_all (λ b. f b && g b) bs) h))

pub part_signless : (q : Part) → IsPart q → list_all no_sign (part_text q) ≡ true
part_signless q i = and_left no_sign in_word (part_text q) (part_bytes q i)

-- a part has a byte
append_some : (a b : List ℕ) → (b ≡ [] → ⊥) → a ++ b ≡ [] → ⊥
append_some [] b h e = h e
append_some (x ∷ xs) b h e = cc

plain_some : (w : List ℕ) → is_plain w ≡ true → w ≡ [] → ⊥
plain_some [] h e = cc
plain_some (b ∷ bs) h e = cc

pub part_some : (q : Part) → IsPart q → part_text q ≡ [] → ⊥
part_some (p.Constant n) i = plain_some (decimal n) (decimal_plain n (omega (arith, i)))
part_some (p.Monomial n x) i = append_some (factor_text n) (99 ∷ decimal x) (λ e. cc)

-- ---- the words of parts

abbrev pub Words : Type 0
Words = List (Bool × List ℕ)

abbrev pub words : List SignedPart → Words
words [] = []
words (s ∷ ss) = (s.0, part_text s.1) ∷ words ss

abbrev pub AreParts : List SignedPart → Type 0
AreParts ss = AllByRecursion (λ s. IsPart s.1) ss

parts_word : (m : Bool) (w : List ℕ) (b : ℕ) (bs : List ℕ) → list_all no_sign w ≡ true → no_sign b ≡ false → parts m (w ++ b ∷ bs) ≡ (m, w) ∷ parts (b == 45) bs
parts_word m w b bs h s =
    split_is m (w ++ b ∷ bs)
    ∙ ap (λ n. (m, take n (w ++ b ∷ bs)) ∷ parts_behind (drop n (w ++ b ∷ bs))) (front_len no_sign w b bs h s)
    ∙ ap (λ z. (m, z) ∷ parts_behind (drop (length w) (w ++ b ∷ bs))) (take_at w (b ∷ bs) (length w) refl)
    ∙ ap (λ z. (m, w) ∷ parts_behind z) (drop_at w (b ∷ bs) (length w) refl)

parts_last : (m : Bool) (w : List ℕ) → list_all no_sign w ≡ true → parts m w ≡ (m, w) ∷ []
parts_last m w h =
    split_is m w
    ∙ ap (λ n. (m, take n w) ∷ parts_behind (drop n w)) (whole_len no_sign w h)
    ∙ ap (λ z. (m, z) ∷ parts_behind (drop (length w) w)) (Rattle.std.proofs.lemmas.List.take_all (length w) w (omega arith))
    ∙ ap (λ z. (m, w) ∷ parts_behind z) (Rattle.std.proofs.lemmas.List.drop_all (length w) w (omega arith))

pub parts_again : (m : Bool) (q : Part) (ss : List SignedPart) → IsPart q → AreParts ss → parts m (part_text q ++ parts_text false ss) ≡ (m, part_text q) ∷ words ss
parts_again m q [] i h = ap (parts m) (append-nil (part_text q)) ∙ parts_last m (part_text q) (part_signless q i)
parts_again m q (s ∷ ss) i h = by s.0 ∙ ap (λ z. (m, part_text q) ∷ z) (parts_again s.0 s.1 ss h.0 h.1)
  where
    by : (v : Bool) → parts m (part_text q ++ cond v 45 43 ∷ (part_text s.1 ++ parts_text false ss)) ≡ (m, part_text q) ∷ parts v (part_text s.1 ++ parts_text false ss)
    by true = parts_word m (part_text q) 45 (part_text s.1 ++ parts_text false ss) (part_signless q i) refl
    by false = parts_word m (part_text q) 43 (part_text s.1 ++ parts_text false ss) (part_signless q i) refl

-- the text of words, the first of which has no sign before it
abbrev pub behind : Words → List ℕ
behind [] = []
behind (s ∷ ss) = cond s.0 45 43 ∷ (s.1 ++ behind ss)

abbrev text_of : Words → List ℕ
text_of [] = []
text_of (s ∷ ss) = s.1 ++ behind ss

behind_by : (k : Bool) (ws : Words) (w : List ℕ) (vs : Words) → ws ≡ (k, w) ∷ vs → behind ws ≡ cond k 45 43 ∷ text_of ws
behind_by k ws w vs e = ap behind e ∙ ap (λ z. cond k 45 43 ∷ text_of z) (sym e)

behind_parts : (k : Bool) (bs : List ℕ) → behind (parts k bs) ≡ cond k 45 43 ∷ text_of (parts k bs)
behind_parts k bs = behind_by k (parts k bs) (take (prefix_len no_sign bs) bs) (parts_behind (drop (prefix_len no_sign bs) bs)) (split_is k bs)

longer_text : (b : ℕ) (m : Bool) (ws : Words) → text_of (longer b m ws) ≡ b ∷ text_of ws
longer_text b m [] = refl
longer_text b m (s ∷ ss) = refl

joined_by : (m : Bool) (b : ℕ) (bs : List ℕ) (u v : Bool) → (b == 43) ≡ u → (b == 45) ≡ v → text_of (parts false bs) ≡ bs → text_of (parts true bs) ≡ bs → text_of (parts m bs) ≡ bs
    → text_of (cond u ((m, []) ∷ parts false bs) (cond v ((m, []) ∷ parts true bs) (longer b m (parts m bs)))) ≡ b ∷ bs
joined_by m b bs true v p r f t h = behind_parts false bs ∙ ap (λ z. 43 ∷ z) f ∙ ap (λ z. z ∷ bs) (sym (at b 43 p))
joined_by m b bs false true p r f t h = behind_parts true bs ∙ ap (λ z. 45 ∷ z) t ∙ ap (λ z. z ∷ bs) (sym (at b 45 r))
joined_by m b bs false false p r f t h = longer_text b m (parts m bs) ∙ ap (λ z. b ∷ z) h

joined_parts : (m : Bool) (bytes : List ℕ) → text_of (parts m bytes) ≡ bytes
unfolding parts
joined_parts m [] = refl
joined_parts m (b ∷ bs) = joined_by m b bs (b == 43) (b == 45) refl refl (joined_parts false bs) (joined_parts true bs) (joined_parts m bs)

behind_words : (ss : List SignedPart) → behind (words ss) ≡ parts_text false ss
behind_words [] = refl
behind_words (s ∷ ss) = ap (λ z. cond s.0 45 43 ∷ (part_text s.1 ++ z)) (behind_words ss)

head_same : (m n : Bool) (v w : List ℕ) (vs ws : Words) → (m, v) ∷ vs ≡ (n, w) ∷ ws → m ≡ n
head_same m n v w vs ws e =
    let first : Words → Bool = λ z. elim z as (λ _. Bool) [ [] ↦ true | (x ∷ xs) ↦ x.0 ] in
    ap first e

pub no_parts : (m : Bool) (bs : List ℕ) → parts m bs ≡ [] → ⊥
no_parts m bs e = let q = sym (split_is m bs) ∙ e in cc

-- bytes whose words are those of parts are their text
pub whole_text : (m : Bool) (bs : List ℕ) (ss : List SignedPart) → parts m bs ≡ words ss → parts_text true ss ≡ cond m (45 ∷ []) [] ++ bs
whole_text m bs [] e = absurd (no_parts m bs e)
whole_text m bs (s ∷ ss) e =
    let same : m ≡ s.0 = head_same m s.0 (take (prefix_len no_sign bs) bs) (part_text s.1) (parts_behind (drop (prefix_len no_sign bs) bs)) (words ss) (sym (split_is m bs) ∙ e) in
    let text : part_text s.1 ++ parts_text false ss ≡ bs = ap (λ z. part_text s.1 ++ z) (sym (behind_words ss)) ∙ ap text_of (sym e) ∙ joined_parts m bs in
    ap (λ z. cond z (45 ∷ []) [] ++ (part_text s.1 ++ parts_text false ss)) (sym same) ∙ ap (λ z. cond m (45 ∷ []) [] ++ z) text
