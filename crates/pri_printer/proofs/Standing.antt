-- What is asked of names and numbers that are printed.
use Rattle.std.specs.Prelude.{ℕ, ◌≡◌, ◌<◌, ◌^◌, true, List, [], ◌∷◌, length, slice_index_or, Some}
use Rattle.pri_tokens.specs.declared.terminals.Terminal.TheVariants as t
use Rattle.pri_tokens.specs.Kinds.{is_name}
use Rattle.pri_tokens.specs.Spellings.{word_of}
use Rattle.pri_typing.specs.declared.scope.Referent.TheVariants as referent
use Rattle.pri_typing.specs.Scope.{Scope, refers}
use Rattle.linear_term.specs.Range.{InRange}
use Rattle.clause_set.specs.declared.literal.Literal.{Literal}
use Rattle.clause_set.specs.declared.literal.Literal.TheVariants.{Eq, Geq, Div, NDiv}
use Rattle.pri_printer.specs.Summands.{Summand, alone, times, SignedSummand, summands}

-- the text is an identifier that stands for the name x
pub record IsNameOf (sc : Scope) (x : ℕ) (text : List ℕ) : Type 0 where
  pub is : is_name text ≡ true
  pub identifier : word_of text ≡ t.Identifier
  pub refers_to : refers sc text ≡ Some (referent.Name x)

-- the x-th text stands for the name x
abbrev pub Stand : Scope → List (List ℕ) → Type 0
Stand sc names = (x : ℕ) → x < length names → IsNameOf sc x (slice_index_or names x [])

-- inside a quantifier that binds this name
abbrev pub within : List ℕ → Scope → Scope
within k sc = record { declared = sc.declared; parts = sc.parts; bound = k ∷ sc.bound }

-- the names are those of the constants, and k is another one, which as a bound name is the name n
pub record CanPrint (sc : Scope) (names : List (List ℕ)) (k : List ℕ) (n : ℕ) : Type 0 where
  pub outside : Stand sc names
  pub inside : Stand (within k sc) names
  pub quotient : IsNameOf (within k sc) n k

-- the number is in the range, and the name has a text
abbrev pub Fits : ℕ → Summand → Type 0
Fits count (alone n) = n < 2 ^ 127
Fits count (times n x) = (n < 2 ^ 127) × (x < count)

abbrev pub AreFit : ℕ → List SignedSummand → Type 0
AreFit count [] = Unit {0}
AreFit count (a ∷ more) = Fits count a.1 × AreFit count more

-- the numbers of a literal are in the range, and its names have texts
abbrev pub IsPrintable : ℕ → Literal → Type 0
IsPrintable count (Eq t) = AreFit count (summands t.pairs t.constant)
IsPrintable count (Geq t) = AreFit count (summands t.pairs t.constant)
IsPrintable count (Div d t) = InRange d × AreFit count (summands t.pairs t.constant)
IsPrintable count (NDiv d t) = InRange d × AreFit count (summands t.pairs t.constant)

abbrev pub ArePrintable : ℕ → List Literal → Type 0
ArePrintable count [] = Unit {0}
ArePrintable count (l ∷ ls) = IsPrintable count l × ArePrintable count ls

abbrev pub AllPrintable : ℕ → List (List Literal) → Type 0
AllPrintable count [] = Unit {0}
AllPrintable count (c ∷ cs) = ArePrintable count c × AllPrintable count cs
