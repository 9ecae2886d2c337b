-- The tokens of lines are spaced as texts have them.
use Rattle.std.proofs.Common.{ℕ, ◌≡◌, ◌<◌, ◌^◌, ℤ, pos, Bool, true, false, List, [], ◌∷◌, ◌++◌, refl, sym, ◌∙◌, cond}
use Rattle.std.specs.Prelude.{int_lt, unsigned_abs}
use Rattle.std.specs.List.{AllByRecursion}
use Rattle.std.proofs.lemmas.Bool.{false≢true}
use Rattle.base_budget.specs.declared.log.Entry.{Entry}
use Rattle.proof_tokens.specs.declared.tokens.Token.{Token}
use Rattle.proof_tokens.specs.declared.tokens.Token.TheVariants as t
use Rattle.proof_tokens.specs.Spellings.{IsEntry, IsProofToken, is_sign, NextIsSign, AreSpaced}
use Rattle.proof_tokens.specs.Lines.{numbered_text, head_text, parts_text, part_text, use_text, charges_text, entries_text, log_text, none_text, value_text, values_text, solution_text, AreValues, counted_text}

pub sign_spaced : (x : Token) (xs : List Token) → IsProofToken x → is_sign x ≡ true → AreSpaced xs → AreSpaced (x ∷ xs)
sign_spaced x xs f s a = (f, λ h. absurd (false≢true (sym h ∙ s)), a)

pub word_spaced : (x : Token) (xs : List Token) → IsProofToken x → NextIsSign xs → AreSpaced xs → AreSpaced (x ∷ xs)
word_spaced x xs f s a = (f, λ h. s, a)

next_behind : (xs ys : List Token) → NextIsSign xs → NextIsSign (xs ++ ys)
next_behind [] ys h = absurd h
next_behind (x ∷ xs) ys h = h

-- spaced tokens after others
pub spaced_append : (xs ys : List Token) → AreSpaced xs → AreSpaced ys → AreSpaced (xs ++ ys)
spaced_append [] ys a b = b
spaced_append (x ∷ xs) ys a b = (a.0, λ h. next_behind xs ys (a.1 h), spaced_append xs ys a.2 b)

end_spaced : AreSpaced (t.LineFeed ∷ [])
end_spaced = sign_spaced t.LineFeed [] tt refl tt

pub numbered_spaced : (n : ℕ) → n < 2 ^ 127 → AreSpaced (numbered_text n)
numbered_spaced n h = sign_spaced t.Blank (t.Number n ∷ t.LineFeed ∷ []) tt refl (word_spaced (t.Number n) (t.LineFeed ∷ []) h refl end_spaced)

pub head_spaced : (n : ℕ) → n < 2 ^ 127 → AreSpaced (head_text n)
head_spaced n h = word_spaced t.PrincessProof (numbered_text n) tt refl (numbered_spaced n h)

pub charges_spaced : (n : ℕ) → n < 2 ^ 127 → AreSpaced (charges_text n)
charges_spaced n h = word_spaced t.Charges (numbered_text n) tt refl (numbered_spaced n h)

pub counted_spaced : (p : ℕ × ℕ) → p.0 < 2 ^ 127 → p.1 < 2 ^ 127 → AreSpaced (counted_text p)
counted_spaced p h k = sign_spaced t.Blank (t.Number p.0 ∷ numbered_text p.1) tt refl (word_spaced (t.Number p.0) (numbered_text p.1) h refl (numbered_spaced p.1 k))

entries_next : (es : List Entry) → NextIsSign (entries_text es)
entries_next [] = refl
entries_next (s ∷ es) = refl

pub entries_spaced : (es : List Entry) → AllByRecursion IsEntry es → AreSpaced (entries_text es)
entries_spaced [] a = end_spaced
entries_spaced (s ∷ es) a = sign_spaced t.Blank (t.Step s ∷ entries_text es) tt refl (word_spaced (t.Step s) (entries_text es) a.0 (entries_next es) (entries_spaced es a.1))

pub parts_spaced : (n : ℕ) → n < 2 ^ 127 → AreSpaced (parts_text n)
parts_spaced n h = word_spaced t.Parts (numbered_text n) tt refl (numbered_spaced n h)

pub part_spaced : (es : List Entry) → AllByRecursion IsEntry es → AreSpaced (part_text es)
part_spaced es a = word_spaced t.Part (entries_text es) tt (entries_next es) (entries_spaced es a)

use_spaced : (i : ℕ) → i < 2 ^ 32 → AreSpaced (use_text i)
use_spaced i h = sign_spaced t.Blank (t.Use i ∷ t.LineFeed ∷ []) tt refl (word_spaced (t.Use i) (t.LineFeed ∷ []) h refl end_spaced)

pub log_use_spaced : (i : ℕ) → i < 2 ^ 32 → AreSpaced (t.Log ∷ use_text i)
log_use_spaced i h = word_spaced t.Log (use_text i) tt refl (use_spaced i h)

pub none_use_spaced : (i : ℕ) → i < 2 ^ 32 → AreSpaced (t.Nothing ∷ use_text i)
none_use_spaced i h = word_spaced t.Nothing (use_text i) tt refl (use_spaced i h)

pub log_spaced : (es : List Entry) → AllByRecursion IsEntry es → AreSpaced (log_text es)
log_spaced es a = word_spaced t.Log (entries_text es) tt (entries_next es) (entries_spaced es a)

pub none_spaced : (es : List Entry) → AllByRecursion IsEntry es → AreSpaced (none_text es)
none_spaced es a = word_spaced t.Nothing (entries_text es) tt (entries_next es) (entries_spaced es a)

value_by : (minus : Bool) (n : ℕ) (rest : List Token) → n < 2 ^ 127 → NextIsSign rest → AreSpaced rest → AreSpaced (cond minus (t.Minus ∷ t.Number n ∷ []) (t.Number n ∷ []) ++ rest)
value_by true n rest h s a = sign_spaced t.Minus (t.Number n ∷ rest) tt refl (word_spaced (t.Number n) rest h s a)
value_by false n rest h s a = word_spaced (t.Number n) rest h s a

values_next : (vs : List ℤ) → NextIsSign (values_text vs)
values_next [] = refl
values_next (v ∷ vs) = refl

values_spaced : (vs : List ℤ) → AreValues vs → AreSpaced (values_text vs)
values_spaced [] a = end_spaced
values_spaced (v ∷ vs) a = sign_spaced t.Blank (value_text v ++ values_text vs) tt refl (value_by (int_lt v (pos 0)) (unsigned_abs v) (values_text vs) a.0 (values_next vs) (values_spaced vs a.1))

pub solution_spaced : (vs : List ℤ) → AreValues vs → AreSpaced (solution_text vs)
solution_spaced vs a = word_spaced t.Solution (values_text vs) tt (values_next vs) (values_spaced vs a)
