-- Each kind of word and each shape of a line is read exactly.
use Rattle.std.proofs.Common.{ℕ, ◌≡◌, ◌<◌, ◌^◌, ℤ, pos, Bool, true, false, List, [], ◌∷◌, ◌++◌, Option, Some, None, refl, sym, ap, ◌∙◌, append_assoc, arith}
use Rattle.std.specs.List.{AllByRecursion, list_all}
use Rattle.clause_text.specs.Shapes.{Kind, number, integer, literal, term, factor, Shape, nothing, one, many, many_by, Said, IsValueSaid, spelling, meaning, by, LineValues, AreSaid, shape_text, reading}
use Rattle.clause_text.proofs.SpelledLiterals.{literal_spelling, factor_spelling}
use Rattle.clause_words.specs.Spelling.{is_plain, IsSpelling}
use Rattle.clause_words.specs.Texts.{field_text, list_text, list_to_text}
use Rattle.clause_words.specs.Tokens.{tokens, spelled, stops, blank, line_feed, in_word, with_word}
use Rattle.clause_words.specs.Reading.{Token, field, fields, fields_to, unless}
use Rattle.clause_words.proofs.Exact.{Reads, both_reads, field_reads}
use Rattle.clause_words.proofs.ExactLists.{ends_reads, fields_reads}
use Rattle.clause_words.proofs.Unless.{IsEndWord, fields_to_reads}
use Rattle.clause_words.proofs.Spelled.{index_spelling, integer_spelling}
use Rattle.clause_words.proofs.Splitting.{word_before}
use Rattle.clause_words.proofs.SpelledTerms.{term_spelling}

pub kind_spelling : (k : Kind) → IsSpelling (IsValueSaid k) (spelling k) (meaning k)
kind_spelling number = index_spelling
kind_spelling integer = integer_spelling
kind_spelling literal = literal_spelling
kind_spelling term = term_spelling
kind_spelling factor = factor_spelling

-- the word `by` is none of a kind
by_is_none : (k : Kind) → IsEndWord (meaning k) by
unfolding Rattle.clause_text.specs.Literals.literal_of Rattle.clause_text.specs.Literals.factor_of Rattle.clause_words.specs.Terms.term_of Rattle.clause_words.specs.Terms.sum_of Rattle.clause_words.specs.Terms.parts Rattle.clause_words.specs.Terms.part_of
by_is_none number = (refl, refl)
by_is_none integer = (refl, refl)
by_is_none literal = (refl, refl)
by_is_none term = (refl, refl)
by_is_none factor = (refl, refl)

-- one lemma for the whole table
pub shape_reads : (s : Shape) → Reads (AreSaid s) (shape_text s) (reading s)
shape_reads nothing = ends_reads
shape_reads (one k s) = both_reads (IsValueSaid k) (AreSaid s) (field_text (spelling k)) (shape_text s) (field (meaning k)) (reading s) (field_reads (IsValueSaid k) (spelling k) (meaning k) (kind_spelling k)) (shape_reads s)
shape_reads (many k) = fields_reads (IsValueSaid k) (spelling k) (meaning k) (kind_spelling k)
shape_reads (many_by j k) =
    both_reads (AllByRecursion (IsValueSaid j)) (AllByRecursion (IsValueSaid k)) (list_to_text by (spelling j)) (list_text (spelling k)) (fields_to (unless by (meaning j))) (fields (meaning k))
    (fields_to_reads (IsValueSaid j) (spelling j) (meaning j) by (kind_spelling j) (by_is_none j)) (fields_reads (IsValueSaid k) (spelling k) (meaning k) (kind_spelling k))

-- ---- tokens that are written one after another

-- what is written begins with a separator, and is read as these tokens
pub record IsSpaced (ts : List Token) : Type 0 where
  pub begins : (rest : List ℕ) → stops (spelled ts ++ rest) ≡ true
  pub back : (rest : List ℕ) → tokens (spelled ts ++ rest) ≡ ts ++ tokens rest

plain_all : (w : List ℕ) → is_plain w ≡ true → list_all in_word w ≡ true
plain_all [] h = absurd cc
plain_all (b ∷ bs) h = h

plain_word : (w : List ℕ) (ts : List Token) → is_plain w ≡ true → with_word w ts ≡ w ∷ ts
plain_word [] ts h = absurd cc
plain_word (b ∷ bs) ts h = refl

-- a word before what begins with a separator
pub word_back : (w more : List ℕ) → is_plain w ≡ true → stops more ≡ true → tokens (w ++ more) ≡ w ∷ tokens more
word_back w more h s = word_before w more (plain_all w h) s ∙ plain_word w (tokens more) h

blank_back : (more : List ℕ) → tokens (32 ∷ more) ≡ blank ∷ tokens more
unfolding tokens
blank_back more = refl

feed_back : (more : List ℕ) → tokens (10 ∷ more) ≡ line_feed ∷ tokens more
unfolding tokens
feed_back more = refl

pub feed_spaced : IsSpaced (line_feed ∷ [])
feed_spaced = record { begins = λ rest. refl; back = λ rest. feed_back rest }

-- a blank and a word before such tokens
pub word_spaced : (w : List ℕ) (ts : List Token) → is_plain w ≡ true → IsSpaced ts → IsSpaced (blank ∷ w ∷ ts)
word_spaced w ts h s = record {
  begins = λ rest. refl;
  back = λ rest.
      ap (λ z. tokens (32 ∷ z)) (append_assoc w (spelled ts) rest) ∙ blank_back (w ++ (spelled ts ++ rest))
      ∙ ap (λ z. blank ∷ z) (word_back w (spelled ts ++ rest) h (s.begins rest) ∙ ap (λ z. w ∷ z) (s.back rest));
}

list_spaced : (k : Kind) (vs : List (Said k)) → AllByRecursion (IsValueSaid k) vs → IsSpaced (list_text (spelling k) vs)
list_spaced k [] h = feed_spaced
list_spaced k (v ∷ vs) h = word_spaced (spelling k v) (list_text (spelling k) vs) ((kind_spelling k).plain v h.0) (list_spaced k vs h.1)

list_to_spaced : (j k : Kind) (us : List (Said j)) (vs : List (Said k)) → AllByRecursion (IsValueSaid j) us → AllByRecursion (IsValueSaid k) vs → IsSpaced (list_to_text by (spelling j) us ++ list_text (spelling k) vs)
list_to_spaced j k [] vs g h = word_spaced by (list_text (spelling k) vs) refl (list_spaced k vs h)
list_to_spaced j k (u ∷ us) vs g h = word_spaced (spelling j u) (list_to_text by (spelling j) us ++ list_text (spelling k) vs) ((kind_spelling j).plain u g.0) (list_to_spaced j k us vs g.1 h)

pub shape_spaced : (s : Shape) (v : LineValues s) → AreSaid s v → IsSpaced (shape_text s v)
shape_spaced nothing v i = feed_spaced
shape_spaced (one k s) v i = word_spaced (spelling k v.0) (shape_text s v.1) ((kind_spelling k).plain v.0 i.0) (shape_spaced s v.1 i.1)
shape_spaced (many k) v i = list_spaced k v i
shape_spaced (many_by j k) v i = list_to_spaced j k v.0 v.1 i.0 i.1
