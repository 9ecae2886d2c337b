-- Where no number, name or word is seen at the front of a text, none stands there with the end of a word after it.
use Rattle.std.proofs.Common.{ℕ, ◌≡◌, ◌≤◌, ◌<◌, ◌^◌, ◌==◌, ◌&&◌, ◌||◌, not, Bool, true, false, List, [], ◌∷◌, ◌++◌, length, take, drop, refl, sym, ap, subst, ◌∙◌, append-nil, arith}
use Rattle.std.specs.Prelude.{codes, slice_index}
use Rattle.std.specs.List.{list_all}
use Rattle.std.specs.Char.{is_ascii_digit, is_ascii_alphabetic}
use Rattle.std.specs.Fmt.{decimal}
use Rattle.std.proofs.lemmas.List.{append_cancel_left, length-append}
use Rattle.base_numerals.specs.Numerals.{decimal_value}
use Rattle.proof_tokens.specs.declared.tokens.Token.TheVariants as t
use Rattle.proof_tokens.specs.Lines.{IsName, IsSmallNumber}
use Rattle.proof_tokens.specs.Reading.{Cuts, HasNoneEnded}
use Rattle.proof_tokens.specs.Scanning.{ends_digits, ends_word, HasNoNumber}
use Rattle.proof_tokens.specs.Words.{is_empty, is_numeral}
use Rattle.proof_tokens.proofs.Cutting.{cut_ranged, spelled_front}
use Rattle.proof_tokens.proofs.Decimals.{decimal_is}
use Rattle.proof_tokens.proofs.Fronts.{behind_digits, digits_of}
use Rattle.proof_tokens.proofs.Numerals.{three_true}
use Rattle.proof_tokens.proofs.Respelled.{Stops, decimal_digits, drop_all, run_is, take_all}

stops : (rest : List ℕ) → ends_digits rest ≡ true → Stops is_ascii_digit rest
stops [] h = tt
stops (b ∷ bs) h = no (is_ascii_digit b) h
  where
    no : (v : Bool) → not v ≡ true → v ≡ false
    no true h = absurd (cc)
    no false h = refl

-- the digits at the front are those of the number
digits_are : (n : ℕ) (text rest : List ℕ) → n < 2 ^ 32 → ends_digits rest ≡ true → text ≡ decimal n ++ rest → (digits_of text ≡ decimal n) × (behind_digits text ≡ rest)
digits_are n text rest small h e =
    let len = run_is is_ascii_digit (decimal n) rest (decimal_digits n (omega arith)).digits (stops rest h) in
    (ap digits_of e ∙ ap (λ k. take k (decimal n ++ rest)) len ∙ take_all (decimal n) rest, ap behind_digits e ∙ ap (λ k. drop k (decimal n ++ rest)) len ∙ drop_all (decimal n) rest)

-- no byte comes
pub none_left : (text : List ℕ) → length text ≡ 0 → HasNoNumber ends_digits text
none_left text nothing n rest small h e =
    let some = (decimal_digits n (omega arith)).some in let len = sym nothing ∙ ap length e ∙ length-append (decimal n) rest in absurd (omega (arith, some, len))

-- no numeral begins
begins_by : (w rest behind : List ℕ) (first : ℕ) → is_numeral w ≡ true → first ∷ behind ≡ w ++ rest → ends_digits rest ≡ true → (is_ascii_digit first && (not (first == 48) || not (is_ascii_digit (slice_index behind 0)))) ≡ true
begins_by [] rest behind first h e stop = absurd (cc)
begins_by (d ∷ ds) rest behind first h e stop =
    let q = three_true (is_ascii_digit d) (list_all is_ascii_digit ds) (not (d == 48) || is_empty ds) h in
    let head : first ≡ d = cc in let tail : behind ≡ ds ++ rest = cc in
    ap (λ k. is_ascii_digit k && (not (k == 48) || not (is_ascii_digit (slice_index behind 0)))) head
    ∙ ap (λ z. is_ascii_digit d && (not (d == 48) || not (is_ascii_digit (slice_index z 0)))) tail
    ∙ ap (λ v. v && (not (d == 48) || not (is_ascii_digit (slice_index (ds ++ rest) 0)))) q.0
    ∙ alone (d == 48) ds rest q.2 stop
  where
    alone : (v : Bool) (ds rest : List ℕ) → (not v || is_empty ds) ≡ true → ends_digits rest ≡ true → (not v || not (is_ascii_digit (slice_index (ds ++ rest) 0))) ≡ true
    alone false ds rest h stop = refl
    alone true [] rest h stop = stop
    alone true (x ∷ xs) rest h stop = absurd (cc)

pub not_begun : (first : ℕ) (text behind : List ℕ) → text ≡ first ∷ behind → (is_ascii_digit first && (not (first == 48) || not (is_ascii_digit (slice_index behind 0)))) ≡ false → HasNoNumber ends_digits text
not_begun first text behind is none n rest small h e =
    let yes = begins_by (decimal n) rest behind first (decimal_is n (omega arith)).numeral (sym is ∙ e) h in absurd (cc)

-- the number is too great
pub too_great_there : (text : List ℕ) → 2 ^ 32 ≤ decimal_value (digits_of text) → HasNoNumber ends_digits text
too_great_there text great n rest small h e =
    let is : decimal_value (digits_of text) ≡ n = ap decimal_value (digits_are n text rest small h e).0 ∙ (decimal_is n (omega arith)).value in absurd (omega (arith, great, small, is))

-- a word ends, so its digits do
digits_end : (rest : List ℕ) → ends_word rest ≡ true → ends_digits rest ≡ true
digits_end [] h = refl
digits_end (b ∷ bs) h = other (is_ascii_alphabetic b) (is_ascii_digit b) (b == 44) h
  where
    other : (a d c : Bool) → (not (a || d) && not c) ≡ true → not d ≡ true
    other true d c h = absurd (cc)
    other false true c h = absurd (cc)
    other false false c h = refl

pub ended_none : (text : List ℕ) → HasNoNumber ends_digits text → HasNoNumber ends_word text
ended_none text none n rest small h e = none n rest small (digits_end rest h) e

-- no word ends after the digits
pub goes_on_there : (text rest : List ℕ) → rest ≡ behind_digits text → ends_word rest ≡ false → HasNoNumber ends_word text
goes_on_there text rest is inside n other small h e =
    let same : rest ≡ other = is ∙ (digits_are n text other small (digits_end other h) e).1 in let f : ends_word other ≡ false = subst (λ z. ends_word z ≡ false) same inside in absurd (cc)

-- a text is a front and what is after it exactly where `rest` is `left` and that
pub record IsLeft (text front rest left : List ℕ) : Type 0 where
  pub into : (more : List ℕ) → text ≡ front ++ more → rest ≡ left ++ more
  pub back : (more : List ℕ) → rest ≡ left ++ more → text ≡ front ++ more

-- a word that goes on
pub longer_word : (text word behind : List ℕ) → text ≡ word ++ behind → ends_word behind ≡ false → (rest : List ℕ) → ends_word rest ≡ true → text ≡ word ++ rest → ⊥
longer_word text word behind is inside rest h e =
    let same : behind ≡ rest = append_cancel_left word behind rest (sym is ∙ e) in let f : ends_word rest ≡ false = subst (λ z. ends_word z ≡ false) same inside in absurd (cc)

-- numbers, names and words as tokens
nothing_more : (w rest : List ℕ) → (w ++ []) ++ rest ≡ w ++ rest
nothing_more w rest = ap (λ z. z ++ rest) (append-nil w)

pub no_number : (text : List ℕ) → HasNoNumber ends_word text → HasNoneEnded IsSmallNumber text
no_number text none (t.Number n) rest cut h small = none n rest small h (spelled_front (t.Number n ∷ []) text rest ((λ h. absurd (cc)), tt) cut ∙ nothing_more (decimal n) rest)
no_number text none _ rest cut h small = absurd small

name_bytes : (x : ℕ) (text rest : List ℕ) → Cuts (t.Name x ∷ []) text rest → text ≡ 99 ∷ (decimal x ++ rest)
name_bytes x text rest cut = spelled_front (t.Name x ∷ []) text rest ((λ h. absurd (cc)), tt) cut ∙ ap (λ z. 99 ∷ z) (nothing_more (decimal x) rest)

pub no_byte_of_name : (text : List ℕ) → text ≡ [] → HasNoneEnded IsName text
no_byte_of_name text nothing (t.Name x) rest cut h is = let e = sym nothing ∙ name_bytes x text rest cut in absurd (cc)
no_byte_of_name text nothing _ rest cut h is = absurd is

pub no_letter : (first : ℕ) (text behind : List ℕ) → text ≡ first ∷ behind → (first == 99) ≡ false → HasNoneEnded IsName text
no_letter first text behind p other (t.Name x) rest cut h is = let e : first ≡ 99 = let q = sym p ∙ name_bytes x text rest cut in cc in absurd (cc)
no_letter first text behind p other _ rest cut h is = absurd is

pub no_name : (text behind : List ℕ) → text ≡ 99 ∷ behind → HasNoNumber ends_word behind → HasNoneEnded IsName text
no_name text behind p none (t.Name x) rest cut h is = let e : behind ≡ decimal x ++ rest = let q = sym p ∙ name_bytes x text rest cut in cc in none x rest (cut_ranged (t.Name x) text rest cut) h e
no_name text behind p none _ rest cut h is = absurd is

pub no_true : (text word : List ℕ) → word ≡ codes "true" → ((rest : List ℕ) → ends_word rest ≡ true → text ≡ word ++ rest → ⊥) → HasNoneEnded (λ x. x ≡ t.True) text
no_true text word same none x rest cut h is = subst (λ z. text ≡ z ++ rest → ⊥) same (none rest h) (spelled_front (t.True ∷ []) text rest ((λ h. absurd (cc)), tt) (subst (λ y. Cuts (y ∷ []) text rest) is cut))
