-- The tokens of a proof are spaced as texts have them.
use Rattle.std.proofs.Common.{ℕ, ◌<◌, ◌^◌, ◌+◌, ℤ, pos, Bool, true, false, cond, List, [], ◌∷◌, ◌++◌, refl, sym, subst, append_assoc, arith}
use Rattle.std.specs.Prelude.{int_lt, unsigned_abs, nat_eq}
use Rattle.std.specs.Ordering.{int_eq}
use Rattle.std.specs.List.{AllByRecursion}
use Rattle.linear_term.specs.Range.{InRange}
use Rattle.linear_term.specs.Linear.{Linear, IsNormal}
use Rattle.clause_set.specs.declared.literal.Literal.{Literal}
use Rattle.clause_set.specs.declared.literal.Literal.TheVariants as l
use Rattle.proof_tokens.specs.declared.tokens.Token.{Token}
use Rattle.proof_tokens.specs.declared.tokens.Token.TheVariants as t
use Rattle.proof_tokens.specs.Spellings.{IsProofToken, NextIsSign, AreSpaced}
use Rattle.proof_tokens.proofs.Spaced.{sign_spaced, word_spaced}
use Rattle.proof_constraint.specs.Text.{behind, sign_text, factor_text, pair_text, pairs_text, number_text, constant_text, sum_text, zero_text, literal_text, clause_text, dnf_text, gives_text, IsSaid, AreSaidLiterals, AreClauses}
use Rattle.proof_constraint.proofs.Said.{ArePairs}
use Rattle.proof_constraint.proofs.Normals.{normal_pairs}

-- tokens that are spaced before whatever may stand after a word
abbrev IsSpacedBefore : List Token → Type 0
IsSpacedBefore xs = (rest : List Token) → NextIsSign rest → AreSpaced rest → AreSpaced (xs ++ rest)

-- and that may stand after a word
record IsPart (xs : List Token) : Type 0 where
  begins : (rest : List Token) → NextIsSign rest → NextIsSign (xs ++ rest)
  spaced : IsSpacedBefore xs

none_part : IsPart []
none_part = record { begins = λ rest s. s; spaced = λ rest s a. a }

-- parts one after another
joined_parts : (xs ys : List Token) → IsPart xs → IsPart ys → IsPart (xs ++ ys)
joined_parts xs ys p q = record {
  begins = λ rest s. subst NextIsSign (sym (append_assoc xs ys rest)) (p.begins (ys ++ rest) (q.begins rest s));
  spaced = λ rest s a. subst AreSpaced (sym (append_assoc xs ys rest)) (p.spaced (ys ++ rest) (q.begins rest s) (q.spaced rest s a));
}

-- a blank and a word
word_part : (x : Token) → IsProofToken x → IsPart (t.Blank ∷ x ∷ [])
word_part x i = record { begins = λ rest s. refl; spaced = λ rest s a. sign_spaced t.Blank (x ∷ rest) tt refl (word_spaced x rest i s a) }

-- a sign of a sum and what it stands before
signed_spaced : (first minus : Bool) (xs rest : List Token) → AreSpaced (xs ++ rest) → AreSpaced ((sign_text first minus ++ xs) ++ rest)
signed_spaced true true xs rest a = sign_spaced t.Blank (t.Minus ∷ xs ++ rest) tt refl (sign_spaced t.Minus (xs ++ rest) tt refl a)
signed_spaced true false xs rest a = sign_spaced t.Blank (xs ++ rest) tt refl a
signed_spaced false true xs rest a = sign_spaced t.Blank (t.Minus ∷ t.Blank ∷ xs ++ rest) tt refl (sign_spaced t.Minus (t.Blank ∷ xs ++ rest) tt refl (sign_spaced t.Blank (xs ++ rest) tt refl a))
signed_spaced false false xs rest a = sign_spaced t.Blank (t.Plus ∷ t.Blank ∷ xs ++ rest) tt refl (sign_spaced t.Plus (t.Blank ∷ xs ++ rest) tt refl (sign_spaced t.Blank (xs ++ rest) tt refl a))

signed_begins : (first minus : Bool) (xs rest : List Token) → NextIsSign ((sign_text first minus ++ xs) ++ rest)
signed_begins true true xs rest = refl
signed_begins true false xs rest = refl
signed_begins false true xs rest = refl
signed_begins false false xs rest = refl

signed_part : (first minus : Bool) (xs : List Token) → IsSpacedBefore xs → IsPart (sign_text first minus ++ xs)
signed_part first minus xs p = record { begins = λ rest s. signed_begins first minus xs rest; spaced = λ rest s a. signed_spaced first minus xs rest (p rest s a) }

factor_by : (one : Bool) (n x : ℕ) → n < 2 ^ 127 → x < 2 ^ 32 → IsSpacedBefore (cond one (t.Name x ∷ []) (t.Number n ∷ t.Times ∷ t.Name x ∷ []))
factor_by true n x h k = λ rest s a. word_spaced (t.Name x) rest k s a
factor_by false n x h k = λ rest s a. word_spaced (t.Number n) (t.Times ∷ t.Name x ∷ rest) h refl (sign_spaced t.Times (t.Name x ∷ rest) tt refl (word_spaced (t.Name x) rest k s a))

pair_part : (first : Bool) (p : ℕ × ℤ) → p.0 < 2 ^ 32 → InRange p.1 → IsPart (pair_text first p)
pair_part first p h k = signed_part first (int_lt p.1 (pos 0)) (factor_text (unsigned_abs p.1) p.0) (factor_by (nat_eq (unsigned_abs p.1) 1) (unsigned_abs p.1) p.0 k h)

pairs_part : (n : ℕ) (first : Bool) (ps : List (ℕ × ℤ)) → ArePairs n ps → IsPart (pairs_text first ps)
pairs_part n first [] a = none_part
pairs_part n first (p ∷ ps) a = joined_parts (pair_text first p) (pairs_text false ps) (pair_part first p a.1 a.3) (pairs_part (p.0 + 1) false ps a.4)

number_part : (first : Bool) (k : ℤ) → InRange k → IsPart (number_text first k)
number_part first k h = signed_part first (int_lt k (pos 0)) (t.Number (unsigned_abs k) ∷ []) (λ rest s a. word_spaced (t.Number (unsigned_abs k)) rest h s a)

constant_by : (zero : Bool) (k : ℤ) → InRange k → IsPart (cond zero [] (number_text false k))
constant_by true k h = none_part
constant_by false k h = number_part false k h

constant_part : (ps : List (ℕ × ℤ)) (k : ℤ) → InRange k → IsPart (constant_text ps k)
constant_part [] k h = number_part true k h
constant_part (p ∷ ps) k h = constant_by (int_eq k (pos 0)) k h

sum_part : (s : Linear) → IsNormal s → IsPart (sum_text s)
sum_part s h = joined_parts (pairs_text true s.pairs) (constant_text s.pairs s.constant) (pairs_part 0 true s.pairs (normal_pairs s h)) (constant_part s.pairs s.constant h.constant)

compared_part : (s : Linear) (word : Token) → IsProofToken word → IsNormal s → IsPart (sum_text s ++ (t.Blank ∷ word ∷ []) ++ zero_text)
compared_part s word i h =
    joined_parts (sum_text s ++ (t.Blank ∷ word ∷ [])) zero_text (joined_parts (sum_text s) (t.Blank ∷ word ∷ []) (sum_part s h) (word_part word i)) (word_part (t.Number 0) (let z : 0 < 2 ^ 127 = omega arith in z))

divided_part : (d : ℤ) (word : Token) (s : Linear) → IsProofToken word → InRange d → IsNormal s → IsPart ((t.Blank ∷ t.Number (unsigned_abs d) ∷ t.Blank ∷ word ∷ []) ++ sum_text s)
divided_part d word s i r h =
    joined_parts (t.Blank ∷ t.Number (unsigned_abs d) ∷ t.Blank ∷ word ∷ []) (sum_text s)
    (joined_parts (t.Blank ∷ t.Number (unsigned_abs d) ∷ []) (t.Blank ∷ word ∷ []) (word_part (t.Number (unsigned_abs d)) r) (word_part word i)) (sum_part s h)

literal_part : (x : Literal) → IsSaid x → IsPart (literal_text x)
literal_part (l.Eq s) h = compared_part s t.Equal tt h
literal_part (l.Geq s) h = compared_part s t.AtLeast tt h
literal_part (l.Div d s) h = divided_part d t.Divides s tt h.0.1 h.1
literal_part (l.NDiv d s) h = divided_part d t.NotDivides s tt h.0.1 h.1

behind_part : {A : Type 0} (P : A → Type 0) (text : A → List Token) (sign : Token) → IsProofToken sign → ((x : A) → P x → IsPart (text x)) → (xs : List A) → AllByRecursion P xs → IsPart (behind text sign xs)
behind_part P text sign i law [] a = none_part
behind_part P text sign i law (x ∷ xs) a =
    joined_parts (t.Blank ∷ sign ∷ text x) (behind text sign xs) (joined_parts (t.Blank ∷ sign ∷ []) (text x) (word_part sign i) (law x a.0)) (behind_part P text sign i law xs a.1)

clause_part : (c : List Literal) → AreSaidLiterals c → IsPart (clause_text c)
clause_part [] a = word_part t.True tt
clause_part (x ∷ xs) a = joined_parts (literal_text x) (behind literal_text t.And xs) (literal_part x a.0) (behind_part IsSaid literal_text t.And tt literal_part xs a.1)

dnf_part : (d : List (List Literal)) → AreClauses d → IsPart (dnf_text d)
dnf_part [] a = word_part t.False tt
dnf_part (c ∷ cs) a = joined_parts (clause_text c) (behind clause_text t.Or cs) (clause_part c a.0) (behind_part AreSaidLiterals clause_text t.Or tt clause_part cs a.1)

end_spaced : AreSpaced (t.LineFeed ∷ [])
end_spaced = sign_spaced t.LineFeed [] tt refl tt

pub gives_spaced : (d : List (List Literal)) → AreClauses d → AreSpaced (gives_text d)
gives_spaced d a =
    word_spaced t.Gives (dnf_text d ++ t.LineFeed ∷ []) tt ((dnf_part d a).begins (t.LineFeed ∷ []) refl) ((dnf_part d a).spaced (t.LineFeed ∷ []) refl end_spaced)
