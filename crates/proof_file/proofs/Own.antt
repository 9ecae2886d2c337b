-- A text of a proof has no line that is `proof:`, since none of its tokens has a colon.
use Rattle.std.proofs.Common.{ℕ, ◌≡◌, ◌∙◌, ◌<◌, ◌^◌, ◌==◌, ◌||◌, not, Bool, true, false, cond, List, [], ◌∷◌, ◌++◌, Some, None, option_map, unwrap_or, refl, ap, subst, codes, arith}
use Rattle.std.specs.Fmt.{decimal}
use Rattle.std.specs.Char.{is_ascii_digit}
use Rattle.std.specs.List.{AllByRecursion, join_with_byte, list_all, onto_first}
use Rattle.std.proofs.lemmas.Bool.Decides.{nat_tests}
use Rattle.std.proofs.lemmas.Slice.Eq.{bytes_eq-Decides}
use Rattle.base_numerals.proofs.Tests.{left_true, right_true}
use Rattle.base_budget.specs.declared.log.Entry.{Entry}
use Rattle.base_budget.specs.declared.log.Entry.TheVariants as e
use Rattle.proof_tokens.specs.declared.tokens.Token.{Token}
use Rattle.proof_tokens.specs.declared.tokens.Token.TheVariants as t
use Rattle.proof_tokens.specs.Spellings.{AreSpaced, IsEntry, IsProofToken, entry_spelling, spelled, spelling}
use Rattle.proof_tokens.specs.Words.{is_empty, is_numeral}
use Rattle.proof_tokens.proofs.Numerals.{three_true}
use Rattle.proof_tokens.proofs.Decimals.{decimal_is}
use Rattle.proof_file.specs.Body.{behind_marker, body, is_marker, lines_of}

-- no byte is a colon
abbrev IsPlain : ℕ → Type 0
IsPlain b = (b == 58) ≡ false

abbrev ArePlain : List ℕ → Type 0
ArePlain bytes = AllByRecursion IsPlain bytes

plain_append : (xs ys : List ℕ) → ArePlain xs → ArePlain ys → ArePlain (xs ++ ys)
plain_append [] ys h k = k
plain_append (x ∷ xs) ys h k = (h.0, plain_append xs ys h.1 k)

digit_plain : (b : ℕ) → is_ascii_digit b ≡ true → IsPlain b
digit_plain b h = grind (arith, nat_tests)

digits_plain : (ds : List ℕ) → list_all is_ascii_digit ds ≡ true → ArePlain ds
digits_plain [] h = tt
digits_plain (d ∷ ds) h = (digit_plain d (left_true (is_ascii_digit d) (list_all is_ascii_digit ds) h), digits_plain ds (right_true (is_ascii_digit d) (list_all is_ascii_digit ds) h))

numeral_plain : (ds : List ℕ) → is_numeral ds ≡ true → ArePlain ds
numeral_plain [] h = tt
numeral_plain (d ∷ ds) h = let q = three_true (is_ascii_digit d) (list_all is_ascii_digit ds) (not (d == 48) || is_empty ds) h in (digit_plain d q.0, digits_plain ds q.1)

decimal_plain : (n : ℕ) → n < 10 ^ 64 → ArePlain (decimal n)
decimal_plain n h = numeral_plain (decimal n) (decimal_is n h).numeral

entry_plain : (x : Entry) → IsEntry x → ArePlain (entry_spelling x)
entry_plain (e.Equation i) h = (refl, decimal_plain i (omega (arith, h)))
entry_plain (e.Apart i) h = (refl, decimal_plain i (omega (arith, h)))
entry_plain (e.Merge i j) h = (refl, plain_append (decimal i) (44 ∷ decimal j) (decimal_plain i (omega (arith, h.0))) (refl, decimal_plain j (omega (arith, h.1))))
entry_plain (e.Shift i) h = (refl, decimal_plain i (omega (arith, h)))
entry_plain e.OneSided h = (refl, tt)
entry_plain e.Exact h = (refl, tt)
entry_plain e.Dark h = (refl, tt)

plain_word : (bytes : List ℕ) → list_all (λ b. cond (b == 58) false true) bytes ≡ true → ArePlain bytes
plain_word [] h = tt
plain_word (b ∷ bs) h = (by (b == 58) (left_true (cond (b == 58) false true) _ h), plain_word bs (right_true (cond (b == 58) false true) _ h))
  where
    by : (v : Bool) → cond v false true ≡ true → v ≡ false
    by true z = absurd cc
    by false z = refl

token_plain : (x : Token) → IsProofToken x → ArePlain (spelling x)
token_plain (t.Number n) h = decimal_plain n (omega (arith, h))
token_plain (t.Name x) h = (refl, decimal_plain x (omega (arith, h)))
token_plain (t.Step s) h = entry_plain s h
token_plain t.Bad h = absurd h
token_plain t.PrincessProof h = plain_word (spelling t.PrincessProof) refl
token_plain t.Parts h = plain_word (spelling t.Parts) refl
token_plain t.Part h = plain_word (spelling t.Part) refl
token_plain (t.Use i) h = (refl, decimal_plain i (omega (arith, h)))
token_plain t.Charges h = plain_word (spelling t.Charges) refl
token_plain t.Trivial h = plain_word (spelling t.Trivial) refl
token_plain t.Alpha h = plain_word (spelling t.Alpha) refl
token_plain t.Beta h = plain_word (spelling t.Beta) refl
token_plain t.Delta h = plain_word (spelling t.Delta) refl
token_plain t.Gamma h = plain_word (spelling t.Gamma) refl
token_plain t.Close h = plain_word (spelling t.Close) refl
token_plain t.Log h = plain_word (spelling t.Log) refl
token_plain t.Gives h = plain_word (spelling t.Gives) refl
token_plain t.Solution h = plain_word (spelling t.Solution) refl
token_plain t.Nothing h = plain_word (spelling t.Nothing) refl
token_plain t.True h = plain_word (spelling t.True) refl
token_plain t.False h = plain_word (spelling t.False) refl
token_plain t.Divides h = plain_word (spelling t.Divides) refl
token_plain t.NotDivides h = plain_word (spelling t.NotDivides) refl
token_plain t.Equal h = plain_word (spelling t.Equal) refl
token_plain t.AtLeast h = plain_word (spelling t.AtLeast) refl
token_plain t.Plus h = plain_word (spelling t.Plus) refl
token_plain t.Minus h = plain_word (spelling t.Minus) refl
token_plain t.Times h = plain_word (spelling t.Times) refl
token_plain t.And h = plain_word (spelling t.And) refl
token_plain t.Or h = plain_word (spelling t.Or) refl
token_plain t.Blank h = plain_word (spelling t.Blank) refl
token_plain t.LineFeed h = plain_word (spelling t.LineFeed) refl

spelled_plain : (xs : List Token) → AreSpaced xs → ArePlain (spelled xs)
spelled_plain [] h = tt
spelled_plain (x ∷ xs) h = plain_append (spelling x) (spelled xs) (token_plain x h.0) (spelled_plain xs h.2)

-- ---- no line of such bytes is `proof:`
abbrev ArePlainLines : List (List ℕ) → Type 0
ArePlainLines ls = AllByRecursion ArePlain ls

onto_plain : (b : ℕ) (ls : List (List ℕ)) → IsPlain b → ArePlainLines ls → ArePlainLines (onto_first b ls)
onto_plain b [] h k = ((h, tt), tt)
onto_plain b (l ∷ ls) h k = ((h, k.0), k.1)

lines_plain : (bytes : List ℕ) → ArePlain bytes → ArePlainLines (lines_of bytes)
lines_plain [] h = (tt, tt)
lines_plain (b ∷ bytes) h = by (b == 10) (lines_plain bytes h.1)
  where
    by : (v : Bool) → ArePlainLines (lines_of bytes) → ArePlainLines (cond v ([] ∷ lines_of bytes) (onto_first b (lines_of bytes)))
    by true k = (tt, k)
    by false k = onto_plain b (lines_of bytes) h.0 k

marker_not : (l : List ℕ) → ArePlain l → is_marker l ≡ false
marker_not l h = by (is_marker l) refl
  where
    by : (v : Bool) → is_marker l ≡ v → v ≡ false
    by false e = refl
    by true e = let bad = subst ArePlain ((bytes_eq-Decides l (codes "proof:")).0 e) h in absurd (let colon : (58 == 58) ≡ false = bad.1.1.1.1.1.0 in cc)

none_marked : (ls : List (List ℕ)) → ArePlainLines ls → behind_marker ls ≡ None
none_marked [] h = refl
none_marked (l ∷ ls) h = ap (λ v. cond v (Some ls) (behind_marker ls)) (marker_not l h.0) ∙ none_marked ls h.1

-- as a file of its own, the written tokens of a proof are the proof's part
pub own_body : (xs : List Token) → AreSpaced xs → body (spelled xs) ≡ spelled xs
own_body xs h = ap (λ found. unwrap_or (option_map (join_with_byte 10) found) (spelled xs)) (none_marked (lines_of (spelled xs)) (lines_plain (spelled xs) (spelled_plain xs h)))
