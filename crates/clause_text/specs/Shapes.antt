-- The grammar of lines as a table: what stands after each word.
use Rattle.std.specs.Prelude.{ℕ, ◌<◌, ◌^◌, ◌≡◌, ℤ, List, [], ◌∷◌, ◌++◌, Option, codes}
use Rattle.std.specs.List.{AllByRecursion}
use Rattle.std.specs.Fmt.{decimal}
use Rattle.linear_term.specs.Range.{InRange}
use Rattle.linear_term.specs.Linear.{Linear, IsNormal}
use Rattle.clause_proof.specs.declared.line.Literal.{Literal}
use Rattle.clause_proof.specs.declared.line.Factor.{Factor}
use Rattle.clause_text.specs.declared.line_word.LineWord.{LineWord}
use Rattle.clause_text.specs.declared.line_word.LineWord.TheVariants as w
use Rattle.clause_text.specs.Literals.{literal_text, literal_of, IsLiteral, factor_text, factor_of, IsFactor}
use Rattle.clause_words.specs.Numbers.{index_of, integer_of}
use Rattle.clause_words.specs.Spelling.{integer_text}
use Rattle.clause_words.specs.Terms.{term_text, term_of}
use Rattle.clause_words.specs.Texts.{field_text, list_text, list_to_text, both_text, Both, end_text, Always}
use Rattle.clause_words.specs.Reading.{Token, Read, field, fields, fields_to, unless, both, ends}

-- what one word says: a number below 2^32, an integer, a literal, a linear term, a literal with its multiplier
pub data Kind : Type 0 where
  number : Kind
  integer : Kind
  literal : Kind
  term : Kind
  factor : Kind

-- What stands after the word of a line: nothing; one more word and then the rest; words to the end of the line; or words up
-- to the word `by`, and words to the end of the line.
pub data Shape : Type 0 where
  nothing : Shape
  one : Kind → Shape → Shape
  many : Kind → Shape
  many_by : Kind → Kind → Shape

-- the table
abbrev pub shape_of : LineWord → Shape
shape_of w.Open = one number (many literal)
shape_of w.Apply = one number (many term)
shape_of w.Read = one number (one literal (many number))
shape_of w.Instance = one number (one literal (many term))
shape_of w.Geq = one term nothing
shape_of w.Eq = one term nothing
shape_of w.Pred = one number (many term)
shape_of w.Split = one number (one literal (one literal nothing))
shape_of w.Sum = many factor
shape_of w.Pair = one number (one number (one literal (many literal)))
shape_of w.PredPair = one number (one number (many literal))
shape_of w.Divide = one integer (one term (one literal (one literal nothing)))
shape_of w.Resolve = many_by literal number
shape_of w.Delete = many number

-- ---- words

abbrev pub Said : Kind → Type 0
Said number = ℕ
Said integer = ℤ
Said literal = Literal
Said term = Linear
Said factor = Factor

-- what can be said: numbers in their ranges, terms in normal form
abbrev pub IsValueSaid : (k : Kind) → Said k → Type 0
IsValueSaid number n = n < 2 ^ 32
IsValueSaid integer k = InRange k
IsValueSaid literal l = IsLiteral l
IsValueSaid term t = IsNormal t
IsValueSaid factor x = IsFactor x

abbrev pub spelling : (k : Kind) → Said k → List ℕ
spelling number n = decimal n
spelling integer k = integer_text k
spelling literal l = literal_text l
spelling term t = term_text t
spelling factor x = factor_text x

abbrev pub meaning : (k : Kind) → List ℕ → Option (Said k)
meaning number x = index_of x
meaning integer x = integer_of x
meaning literal x = literal_of x
meaning term x = term_of x
meaning factor x = factor_of x

abbrev pub by : List ℕ
by = codes "by"

-- ---- what stands after the word of a line

abbrev pub LineValues : Shape → Type 0
LineValues nothing = Unit {0}
LineValues (one k s) = Said k × LineValues s
LineValues (many k) = List (Said k)
LineValues (many_by j k) = List (Said j) × List (Said k)

abbrev pub AreSaid : (s : Shape) → LineValues s → Type 0
AreSaid nothing v = Always v
AreSaid (one k s) v = Both (IsValueSaid k) (AreSaid s) v
AreSaid (many k) v = AllByRecursion (IsValueSaid k) v
AreSaid (many_by j k) v = Both (AllByRecursion (IsValueSaid j)) (AllByRecursion (IsValueSaid k)) v

abbrev pub shape_text : (s : Shape) → LineValues s → List Token
shape_text nothing v = end_text v
shape_text (one k s) v = both_text (field_text (spelling k)) (shape_text s) v
shape_text (many k) v = list_text (spelling k) v
shape_text (many_by j k) v = both_text (list_to_text by (spelling j)) (list_text (spelling k)) v

abbrev pub reading : (s : Shape) → List Token → Read (LineValues s)
reading nothing ts = ends ts
reading (one k s) ts = both (field (meaning k)) (reading s) ts
reading (many k) ts = fields (meaning k) ts
reading (many_by j k) ts = both (fields_to (unless by (meaning j))) (fields (meaning k)) ts
