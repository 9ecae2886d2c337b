-- The words that begin lines.
use Rattle.std.proofs.Common.{ℕ, ◌≡◌, Bool, true, false, cond, List, [], ◌∷◌, Option, Some, None, refl, sym, ap, ◌∙◌}
use Rattle.std.specs.Str.{bytes_eq}
use Rattle.std.proofs.lemmas.Slice.Eq.{bytes_eq-Decides}
use Rattle.clause_text.specs.declared.line_word.LineWord.{LineWord}
use Rattle.clause_text.specs.declared.line_word.LineWord.TheVariants as w
use Rattle.clause_text.specs.Words.{word_text, word_of, one_of, frequent_words, other_words}
use Rattle.clause_words.specs.Spelling.{is_plain, IsSpelling}

abbrev pub Any : LineWord → Type 0
Any w = Unit {0}

one_found : (vs : List LineWord) (x : List ℕ) (other : Option LineWord) (v : LineWord) → (other ≡ Some v → x ≡ word_text v) → one_of vs x other ≡ Some v → x ≡ word_text v
one_found [] x other v h e = h e
one_found (u ∷ us) x other v h e = by (bytes_eq x (word_text u)) refl e (one_found us x other v h)
  where
    by : (b : Bool) → bytes_eq x (word_text u) ≡ b → cond b (Some u) (one_of us x other) ≡ Some v → (one_of us x other ≡ Some v → x ≡ word_text v) → x ≡ word_text v
    by true p e later = let q : u ≡ v = cc in (bytes_eq-Decides x (word_text u)).0 p ∙ ap word_text q
    by false p e later = later e

again : (v : LineWord) → word_of (word_text v) ≡ Some v
again w.Open = refl
again w.Apply = refl
again w.Read = refl
again w.Instance = refl
again w.Geq = refl
again w.Eq = refl
again w.Pred = refl
again w.Split = refl
again w.Sum = refl
again w.Pair = refl
again w.PredPair = refl
again w.Divide = refl
again w.Resolve = refl
again w.Delete = refl

plain : (v : LineWord) → is_plain (word_text v) ≡ true
plain w.Open = refl
plain w.Apply = refl
plain w.Read = refl
plain w.Instance = refl
plain w.Geq = refl
plain w.Eq = refl
plain w.Pred = refl
plain w.Split = refl
plain w.Sum = refl
plain w.Pair = refl
plain w.PredPair = refl
plain w.Divide = refl
plain w.Resolve = refl
plain w.Delete = refl

pub word_spelling : IsSpelling Any word_text word_of
word_spelling = record {
  found = λ x v e. (tt, one_found frequent_words x (one_of other_words x None) v (one_found other_words x None v (λ q. absurd cc)) e);
  again = λ v i. again v;
  plain = λ v i. plain v;
  some = w.Delete;
  some_is = tt;
}
