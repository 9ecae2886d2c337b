-- The words that begin lines.
use Rattle.std.specs.Prelude.{ℕ, Bool, List, [], ◌∷◌, Option, Some, None, codes, cond}
use Rattle.std.specs.Str.{bytes_eq}
use Rattle.clause_text.specs.declared.line_word.LineWord.{LineWord}
use Rattle.clause_text.specs.declared.line_word.LineWord.TheVariants as w

-- how a word is written
abbrev pub word_text : LineWord → List ℕ
word_text w.Open = codes "open"
word_text w.Apply = codes "apply"
word_text w.Read = codes "read"
word_text w.Instance = codes "instance"
word_text w.Geq = codes "geq"
word_text w.Eq = codes "eq"
word_text w.Pred = codes "pred"
word_text w.Split = codes "split"
word_text w.Sum = codes "sum"
word_text w.Pair = codes "pair"
word_text w.PredPair = codes "pred-pair"
word_text w.Divide = codes "divide"
word_text w.Resolve = codes "resolve"
word_text w.Delete = codes "delete"

abbrev pub frequent_words : List LineWord
frequent_words = w.Resolve ∷ w.Sum ∷ w.Delete ∷ w.Geq ∷ w.Eq ∷ w.Open ∷ w.Read ∷ []

abbrev pub other_words : List LineWord
other_words = w.Instance ∷ w.Split ∷ w.Apply ∷ w.Pair ∷ w.Divide ∷ w.Pred ∷ w.PredPair ∷ []

-- the word among these that the bytes are, else the other one
abbrev pub one_of : List LineWord → List ℕ → Option LineWord → Option LineWord
one_of [] x other = other
one_of (v ∷ vs) x other = cond (bytes_eq x (word_text v)) (Some v) (one_of vs x other)

abbrev pub word_of : List ℕ → Option LineWord
word_of x = one_of frequent_words x (one_of other_words x None)
