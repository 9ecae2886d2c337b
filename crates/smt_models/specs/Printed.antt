-- The text of a term of numerals and of symbols that stand as they are.
use Rattle.std.specs.Prelude.{ℕ, List, [], ◌++◌, codes, unsigned_abs}
use Rattle.std.specs.Fmt.{decimal}
use Rattle.smt_terms.specs.Term.{PlacedTerm, PlacedTerms, number, used, no_phrase, and_phrase}

abbrev mutual
  -- a numeral, a symbol alone, or a symbol at its arguments; other terms are in no model
  pub text : PlacedTerm → List ℕ
  text (number _ n) = decimal (unsigned_abs n)
  text (used _ x no_phrase) = x.text
  text (used _ x (and_phrase t ts)) = codes "(" ++ (x.text ++ (codes " " ++ (text t ++ (texts ts ++ codes ")"))))
  text _ = []

  -- each term after a blank
  pub texts : PlacedTerms → List ℕ
  texts no_phrase = []
  texts (and_phrase t ts) = codes " " ++ (text t ++ texts ts)
