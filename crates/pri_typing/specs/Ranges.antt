-- Numerals and endpoints of types in the range of coefficients.
use Rattle.std.specs.List.{All}
use Rattle.linear_term.specs.Range.{InRange}
use Rattle.form_typed.specs.Sorts.{IsSortRanged}
use Rattle.pri_typing.specs.Sorts.{sorts_of}
use Rattle.pri_typing.specs.Phrase.{Phrase, number, truth, used, group, choice, absolute, lesser, greater, minus, product, sum, compared, negation, quantified, part, conjunction, disjunction, implication, equivalence, Phrases, no_phrase, and_phrase, Addends, no_addend, and_addend}

abbrev mutual
  -- each numeral of the phrase, and each endpoint of its types, is in the range
  pub IsRanged : Phrase → Type 0
  IsRanged (number at n) = InRange n
  IsRanged (truth at b) = Unit {0}
  IsRanged (used at x ps) = AreRanged ps
  IsRanged (group at p) = IsRanged p
  IsRanged (choice at c p q) = IsRanged c × IsRanged p × IsRanged q
  IsRanged (absolute at p) = IsRanged p
  IsRanged (lesser at p q) = IsRanged p × IsRanged q
  IsRanged (greater at p q) = IsRanged p × IsRanged q
  IsRanged (minus at p) = IsRanged p
  IsRanged (product at p sign q) = IsRanged p × IsRanged q
  IsRanged (sum at p more) = IsRanged p × AreAddedRanged more
  IsRanged (compared at c p q) = IsRanged p × IsRanged q
  IsRanged (negation at p) = IsRanged p
  IsRanged (quantified at all names p) = All IsSortRanged (sorts_of names) × IsRanged p
  IsRanged (part at x p) = IsRanged p
  IsRanged (conjunction at ps) = AreRanged ps
  IsRanged (disjunction at ps) = AreRanged ps
  IsRanged (implication at p q) = IsRanged p × IsRanged q
  IsRanged (equivalence at p q) = IsRanged p × IsRanged q

  -- of each phrase of the list
  pub AreRanged : Phrases → Type 0
  AreRanged no_phrase = Unit {0}
  AreRanged (and_phrase p ps) = IsRanged p × AreRanged ps

  -- of each later term of a sum
  pub AreAddedRanged : Addends → Type 0
  AreAddedRanged no_addend = Unit {0}
  AreAddedRanged (and_addend sign p more) = IsRanged p × AreAddedRanged more
