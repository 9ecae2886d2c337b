-- Each line is read exactly.
use Rattle.std.proofs.Common.{ℕ, ◌≡◌, Bool, true, false, List, [], ◌∷◌, ◌++◌, Option, Some, None, Result, Ok, Err, refl, sym, ap, subst, ◌∙◌, append_assoc, append-nil, ◌⊎◌, inl, inr}
use Rattle.std.specs.Prelude.{IfOk, IfErr}
use Rattle.proof_tokens.specs.declared.reading.Refusal.{Refusal}
use Rattle.proof_tokens.specs.declared.reading.Refusal.TheVariants as e
use Rattle.clause_proof.specs.declared.line.Line.{Line}
use Rattle.clause_proof.specs.declared.line.Line.TheVariants as l
use Rattle.clause_text.specs.declared.line_word.LineWord.{LineWord}
use Rattle.clause_text.specs.declared.line_word.LineWord.TheVariants as w
use Rattle.clause_text.specs.Words.{word_text, word_of}
use Rattle.clause_text.specs.Shapes.{LineValues, AreSaid, shape_of, shape_text, reading}
use Rattle.clause_text.specs.Lines.{line_with, word_for, values_of, line_text, IsLine, line_behind, line_of, RefusesProofLine}
use Rattle.clause_words.specs.Tokens.{tokens, spelled, size}
use Rattle.clause_words.specs.Places.{Begins, IsRefusedAt}
use Rattle.clause_words.specs.Reading.{Token, Read, ◌>>=◌, GivesValue, Fails, said, done, word_as}
use Rattle.clause_words.proofs.Lists.{word_some, word_none, done_is}
use Rattle.clause_words.proofs.Splitting.{spelled_is}
use Rattle.clause_words.proofs.Exact.{Reads, IsStuck, IsFault, fault_bind, bind_ok, bind_err, said_some, said_value, word_is, word_not, refused}
use Rattle.clause_text.proofs.Words.{Any, word_spelling}
use Rattle.clause_text.proofs.Shapes.{shape_reads, shape_spaced, word_back}

-- ---- a line is its word and its values

same_line : (line : Line) → line_with (word_for line) (values_of line) ≡ line
same_line (l.Open i ms) = refl
same_line (l.Apply f ts) = refl
same_line (l.Read i apps m) = refl
same_line (l.Instance i us m) = refl
same_line (l.Inequality t) = refl
same_line (l.Equation t) = refl
same_line (l.Predicate p ts) = refl
same_line (l.Split i g h) = refl
same_line (l.Sum xs) = refl
same_line (l.Pair a b es r) = refl
same_line (l.PredicatePair i j es) = refl
same_line (l.Divide d t g h) = refl
same_line (l.Resolve c hints) = refl
same_line (l.Delete hints) = refl

text_with : (word : LineWord) (v : LineValues (shape_of word)) → line_text (line_with word v) ≡ word_text word ∷ shape_text (shape_of word) v
text_with w.Open v = refl
text_with w.Apply v = refl
text_with w.Read v = refl
text_with w.Instance v = refl
text_with w.Geq v = refl
text_with w.Eq v = refl
text_with w.Pred v = refl
text_with w.Split v = refl
text_with w.Sum v = refl
text_with w.Pair v = refl
text_with w.PredPair v = refl
text_with w.Divide v = refl
text_with w.Resolve v = refl
text_with w.Delete v = refl

is_with : (word : LineWord) (v : LineValues (shape_of word)) → AreSaid (shape_of word) v → IsLine (line_with word v)
is_with w.Open v i = i
is_with w.Apply v i = i
is_with w.Read v i = i
is_with w.Instance v i = i
is_with w.Geq v i = i
is_with w.Eq v i = i
is_with w.Pred v i = i
is_with w.Split v i = i
is_with w.Sum v i = i
is_with w.Pair v i = i
is_with w.PredPair v i = i
is_with w.Divide v i = i
is_with w.Resolve v i = i
is_with w.Delete v i = i

-- ---- found

abbrev HasLine : List Token → Line → List Token → Type 0
HasLine ts line rest = IsLine line × (ts ≡ line_text line ++ rest)

made_found : (word : LineWord) (us : List Token) (line : Line) (rest : List Token) (r : Read (LineValues (shape_of word))) → reading (shape_of word) us ≡ r
    → (r >>= λ p. done (line_with word p.0) p.1) ≡ done line rest → HasLine (word_text word ∷ us) line rest
made_found word us line rest (Ok p) e h =
    let d = done_is (line_with word p.0) line p.1 rest h in
    let f = (shape_reads (shape_of word)).found us p.0 p.1 e in
    subst (λ z. HasLine (word_text word ∷ us) z rest) d.0
    (is_with word p.0 f.0, ap (λ z. word_text word ∷ z) (f.1 ∙ ap (λ z. shape_text (shape_of word) p.0 ++ z) d.1) ∙ ap (λ z. z ++ rest) (sym (text_with word p.0)))
made_found word us line rest (Err n) e h = absurd cc

pub line_found : (ts : List Token) (line : Line) (rest : List Token) → line_of ts ≡ done line rest → HasLine ts line rest
unfolding line_of
line_found ts line rest h =
    let b = bind_ok (word_as word_of ts) (λ p. line_behind p.0 p.1) (line, rest) h in
    let y = word_some word_of ts b.0.0 b.0.1 b.1 in
    let f = word_spelling.found y.0 b.0.0 (said_some word_of y.0 b.0.0 y.2) in
    let m = made_found b.0.0 b.0.1 line rest (reading (shape_of b.0.0) b.0.1) refl b.2 in
    (m.0, y.1 ∙ ap (λ z. z ∷ b.0.1) f.1 ∙ m.1)

-- ---- again

pub line_again : (line : Line) (rest : List Token) → IsLine line → line_of (line_text line ++ rest) ≡ done line rest
unfolding line_of
line_again line rest i =
    ap (λ z. z >>= λ p. line_behind p.0 p.1)
    (word_is word_of (word_text (word_for line)) (shape_text (shape_of (word_for line)) (values_of line) ++ rest) (word_for line) (said_value Any word_text word_of word_spelling (word_for line) tt))
    ∙ ap (λ z. z >>= λ p. done (line_with (word_for line) p.0) p.1) ((shape_reads (shape_of (word_for line))).again (values_of line) rest i)
    ∙ ap (λ z. done z rest) (same_line line)

-- ---- first

abbrev StuckLine : List Token → ℕ → Type 0
StuckLine ts n = IsStuck IsLine line_text line_of ts n

no_word_fault : (x : Token) (more : List Token) → said word_of x ≡ None → IsFault (line_of (x ∷ more))
unfolding line_of
no_word_fault x more h = fault_bind (word_as word_of (x ∷ more)) (λ p. line_behind p.0 p.1) (word_not word_of x more h)

some_begins : Begins IsLine line_text []
some_begins = record { value = l.Delete []; is_value = tt; more = line_text (l.Delete []); parts = refl }

word_stuck : (ts : List Token) (n : ℕ) → ((ts ≡ []) × (n ≡ 0)) ⊎ ((y : Token) × (ys : List Token) × (ts ≡ y ∷ ys) × (n ≡ size (y ∷ ys)) × (said word_of y ≡ None)) → StuckLine ts n
word_stuck ts n (inl a) = record {
  front = [];
  back = ts;
  whole = refl;
  begins = some_begins;
  stuck = λ x rest more h. absurd (let q = a.0 in cc);
  place = ap size a.0 ∙ sym a.1;
}
word_stuck ts n (inr a) = record {
  front = [];
  back = ts;
  whole = refl;
  begins = some_begins;
  stuck = λ x rest more h. let q = a.2 in let same : a.0 ≡ x = cc in no_word_fault x more (ap (said word_of) (sym same) ∙ a.4);
  place = ap size a.2 ∙ sym a.3;
}

made_err : (word : LineWord) (n : ℕ) (r : Read (LineValues (shape_of word))) → (r >>= λ p. done (line_with word p.0) p.1) ≡ Err n → r ≡ Err n
made_err word n (Ok p) h = absurd cc
made_err word n (Err m) h = cc

made_fault : (word : LineWord) (ts : List Token) → IsFault (reading (shape_of word) ts) → IsFault (line_of (word_text word ∷ ts))
unfolding line_of
made_fault word ts h =
    subst IsFault (sym (ap (λ z. z >>= λ p. line_behind p.0 p.1) (word_is word_of (word_text word) ts word (said_value Any word_text word_of word_spelling word tt))))
    (fault_bind (reading (shape_of word) ts) (λ p. done (line_with word p.0) p.1) h)

values_stuck : (ts : List Token) (n : ℕ) (p : LineWord × List Token) → word_as word_of ts ≡ Ok p → line_behind p.0 p.1 ≡ Err n → StuckLine ts n
values_stuck ts n p h g =
    let y = word_some word_of ts p.0 p.1 h in
    let f = word_spelling.found y.0 p.0 (said_some word_of y.0 p.0 y.2) in
    let s = (shape_reads (shape_of p.0)).first p.1 n (made_err p.0 n (reading (shape_of p.0) p.1) g) in
    record {
      front = word_text p.0 ∷ s.front;
      back = s.back;
      whole = y.1 ∙ ap (λ z. z ∷ p.1) f.1 ∙ ap (λ z. word_text p.0 ∷ z) s.whole;
      begins = record {
        value = line_with p.0 s.begins.value;
        is_value = is_with p.0 s.begins.value s.begins.is_value;
        more = s.begins.more;
        parts = text_with p.0 s.begins.value ∙ ap (λ z. word_text p.0 ∷ z) s.begins.parts;
      };
      stuck = λ x rest more k. made_fault p.0 (s.front ++ x ∷ more) (s.stuck x rest more k);
      place = s.place;
    }

line_first : (ts : List Token) (n : ℕ) → line_of ts ≡ Err n → StuckLine ts n
unfolding line_of
line_first ts n h =
    elim (bind_err (word_as word_of ts) (λ p. line_behind p.0 p.1) n h) as (λ z. StuckLine ts n) [
      | inl a ↦ word_stuck ts n (word_none word_of ts n a)
      | inr a ↦ values_stuck ts n a.0 a.1 a.2
    ]

pub line_reads : Reads IsLine line_text line_of
line_reads = record {
  found = line_found;
  again = line_again;
  first = line_first;
  some = l.Delete [];
  some_is = tt;
}

-- ---- bytes

spelled_append : (xs ys : List Token) → spelled (xs ++ ys) ≡ spelled xs ++ spelled ys
spelled_append [] ys = refl
spelled_append (x ∷ xs) ys = ap (λ z. x ++ z) (spelled_append xs ys) ∙ sym (append_assoc x (spelled xs) (spelled ys))

-- the tokens of a line that is written before a text
pub line_back : (line : Line) (rest : List ℕ) → IsLine line → tokens (spelled (line_text line) ++ rest) ≡ line_text line ++ tokens rest
line_back line rest i =
    let s = shape_spaced (shape_of (word_for line)) (values_of line) i in
    ap tokens (append_assoc (word_text (word_for line)) (spelled (shape_text (shape_of (word_for line)) (values_of line))) rest)
    ∙ word_back (word_text (word_for line)) (spelled (shape_text (shape_of (word_for line)) (values_of line)) ++ rest) (word_spelling.plain (word_for line) tt) (s.begins rest)
    ∙ ap (λ z. word_text (word_for line) ∷ z) (s.back rest)

pub found_bytes : (text : List ℕ) (line : Line) (rest : List ℕ) → ((bytes : List ℕ) → spelled (tokens bytes) ≡ bytes) → line_of (tokens text) ≡ done line (tokens rest) → IsLine line × (text ≡ spelled (line_text line) ++ rest)
found_bytes text line rest whole h =
    let f = line_found (tokens text) line (tokens rest) h in
    (f.0, sym (whole text) ∙ ap spelled f.1 ∙ spelled_append (line_text line) (tokens rest) ∙ ap (λ z. spelled (line_text line) ++ z) (whole rest))

pub again_bytes : (text : List ℕ) (line : Line) (rest : List ℕ) → IsLine line → text ≡ spelled (line_text line) ++ rest → line_of (tokens text) ≡ done line (tokens rest)
again_bytes text line rest i e = ap (λ z. line_of (tokens z)) e ∙ ap line_of (line_back line rest i) ∙ line_again line (tokens rest) i

pub first_bytes : (ts : List Token) (n : ℕ) → line_of ts ≡ Err n → IsRefusedAt IsLine line_text ts n
first_bytes ts n h = refused IsLine line_text line_of line_reads ts n h

-- what reading gives says of a text

abbrev pub seen : {S : Type 0} → (S → List ℕ) → (Line × S) → Line × List Token
seen rest x = (x.0, tokens (rest x.1))

pub result_found : {S : Type 0} (text : List ℕ) (rest : S → List ℕ) (r : Result (Line × S) Refusal) → GivesValue (seen rest) r (line_of (tokens text)) → IfOk r (λ x. IsLine x.0 × (text ≡ spelled (line_text x.0) ++ rest x.1))
result_found text rest (Ok x) g = found_bytes text x.0 (rest x.1) spelled_is g
result_found text rest (Err fault) g = tt

pub result_again : {S : Type 0} (text : List ℕ) (rest : S → List ℕ) (r : Result (Line × S) Refusal) → GivesValue (seen rest) r (line_of (tokens text)) → (line : Line) (more : List ℕ) → IsLine line → text ≡ spelled (line_text line) ++ more → GivesValue (seen rest) r (done line (tokens more))
result_again text rest r g line more i e = subst (GivesValue (seen rest) r) (again_bytes text line more i e) g

pub result_first : {S : Type 0} (text : List ℕ) (rest : S → List ℕ) (r : Result (Line × S) Refusal) → GivesValue (seen rest) r (line_of (tokens text)) → IfErr r (RefusesProofLine text)
result_first text rest (Ok x) g = tt
result_first text rest (Err e.Memory) g = tt
result_first text rest (Err (e.Syntax n)) g = first_bytes (tokens text) n g
