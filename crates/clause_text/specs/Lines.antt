-- The text of each line of a clause proof, and how it is read.
use Rattle.std.specs.Prelude.{ℕ, List, [], ◌∷◌, Ok, Err}
use Rattle.clause_proof.specs.declared.line.Line.{Line}
use Rattle.clause_proof.specs.declared.line.Line.TheVariants as l
use Rattle.clause_text.specs.declared.line_word.LineWord.{LineWord}
use Rattle.clause_text.specs.declared.line_word.LineWord.TheVariants as w
use Rattle.clause_text.specs.Words.{word_text, word_of}
use Rattle.clause_text.specs.Shapes.{LineValues, AreSaid, shape_of, shape_text, reading}
use Rattle.proof_tokens.specs.declared.reading.Refusal.{Refusal}
use Rattle.proof_tokens.specs.declared.reading.Refusal.TheVariants as e
use Rattle.clause_words.specs.Tokens.{tokens}
use Rattle.clause_words.specs.Places.{IsRefusedAt}
use Rattle.clause_words.specs.Reading.{Token, Read, ◌>>=◌, done, word_as}

-- the line with these values after its word
abbrev pub line_with : (word : LineWord) → LineValues (shape_of word) → Line
line_with w.Open v = l.Open v.0 v.1
line_with w.Apply v = l.Apply v.0 v.1
line_with w.Read v = l.Read v.0 v.1.1 v.1.0
line_with w.Instance v = l.Instance v.0 v.1.1 v.1.0
line_with w.Geq v = l.Inequality v.0
line_with w.Eq v = l.Equation v.0
line_with w.Pred v = l.Predicate v.0 v.1
line_with w.Split v = l.Split v.0 v.1.0 v.1.1.0
line_with w.Sum v = l.Sum v
line_with w.Pair v = l.Pair v.0 v.1.0 v.1.1.1 v.1.1.0
line_with w.PredPair v = l.PredicatePair v.0 v.1.0 v.1.1
line_with w.Divide v = l.Divide v.0 v.1.0 v.1.1.0 v.1.1.1.0
line_with w.Resolve v = l.Resolve v.0 v.1
line_with w.Delete v = l.Delete v

-- the word of a line
abbrev pub word_for : Line → LineWord
word_for (l.Open i ms) = w.Open
word_for (l.Apply f ts) = w.Apply
word_for (l.Read i apps m) = w.Read
word_for (l.Instance i us m) = w.Instance
word_for (l.Inequality t) = w.Geq
word_for (l.Equation t) = w.Eq
word_for (l.Predicate p ts) = w.Pred
word_for (l.Split i g h) = w.Split
word_for (l.Sum xs) = w.Sum
word_for (l.Pair a b es r) = w.Pair
word_for (l.PredicatePair i j es) = w.PredPair
word_for (l.Divide d t g h) = w.Divide
word_for (l.Resolve c hints) = w.Resolve
word_for (l.Delete hints) = w.Delete

-- the values that stand after it
abbrev pub values_of : (line : Line) → LineValues (shape_of (word_for line))
values_of (l.Open i ms) = (i, ms)
values_of (l.Apply f ts) = (f, ts)
values_of (l.Read i apps m) = (i, (m, apps))
values_of (l.Instance i us m) = (i, (m, us))
values_of (l.Inequality t) = (t, tt)
values_of (l.Equation t) = (t, tt)
values_of (l.Predicate p ts) = (p, ts)
values_of (l.Split i g h) = (i, (g, (h, tt)))
values_of (l.Sum xs) = xs
values_of (l.Pair a b es r) = (a, (b, (r, es)))
values_of (l.PredicatePair i j es) = (i, (j, es))
values_of (l.Divide d t g h) = (d, (t, (g, (h, tt))))
values_of (l.Resolve c hints) = (c, hints)
values_of (l.Delete hints) = hints

-- the one text of a line
abbrev pub line_text : Line → List Token
line_text line = word_text (word_for line) ∷ shape_text (shape_of (word_for line)) (values_of line)

-- a line that a text can say
abbrev pub IsLine : Line → Type 0
IsLine line = AreSaid (shape_of (word_for line)) (values_of line)

-- the line after its word
abbrev pub line_behind : LineWord → List Token → Read Line
line_behind word ts = reading (shape_of word) ts >>= λ p. done (line_with word p.0) p.1

unfoldable pub line_of : List Token → Read Line
line_of ts = word_as word_of ts >>= λ p. line_behind p.0 p.1

-- what a refusal says: where the first one is; or memory was short
abbrev pub RefusesProofLine : List ℕ → Refusal → Type 0
RefusesProofLine text (e.Syntax left) = IsRefusedAt IsLine line_text (tokens text) left
RefusesProofLine text e.Memory = Unit {0}
