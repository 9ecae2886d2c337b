-- The formula that a phrase says, and what else of a problem's formula is noted.
use Rattle.std.specs.Prelude.{ℕ, pos, Bool, true, false, List, [], ◌∷◌, ◌++◌, Option, Some, None, if◌then◌else◌}
use Rattle.pri_reader.specs.declared.tree.Name.{Name}
use Rattle.pri_reader.specs.declared.tree.Comparison.{Comparison}
use Rattle.pri_reader.specs.declared.tree.Comparison.TheVariants as comparison
use Rattle.form_typed.specs.Formula.{Formula, Formulas, Expression, Expressions, no_formula, and_formula, no_expression, and_expression}
use Rattle.form_typed.specs.Formula as logic
use Rattle.form_typed.specs.declared.typed.Relation.{Relation}
use Rattle.form_typed.specs.declared.typed.Relation.TheVariants as relation
use Rattle.form_typed.specs.declared.typed.Sort.{Sort}
use Rattle.pri_typing.specs.declared.scope.Referent.{Referent}
use Rattle.pri_typing.specs.declared.scope.Referent.TheVariants as referent
use Rattle.pri_typing.specs.Phrase.{Phrase, number, truth, used, group, choice, absolute, lesser, greater, minus, product, sum, compared, negation, quantified, part, conjunction, disjunction, implication, equivalence, Phrases, no_phrase, and_phrase, Addends, no_addend, and_addend}
use Rattle.base_texts.specs.Texts.{with_text, place}
use Rattle.pri_typing.specs.Scope.{Scope, inside, refers}
use Rattle.pri_typing.specs.Sorts.{sorts_of}

abbrev pub relation_of : Comparison → Relation
relation_of comparison.Equal = relation.Eq
relation_of comparison.Unequal = relation.Neq
relation_of comparison.Less = relation.Lt
relation_of comparison.AtMost = relation.Leq
relation_of comparison.Greater = relation.Gt
relation_of comparison.AtLeast = relation.Geq

-- a quantifier for each of these types, the first outermost
abbrev pub quantifiers : Bool → List Sort → Formula → Formula
quantifiers all [] f = f
quantifiers true (sort ∷ sorts) f = logic.for_all sort (quantifiers true sorts f)
quantifiers false (sort ∷ sorts) f = logic.for_some sort (quantifiers false sorts f)

-- what has a fault says `false`, or 0
abbrev pub no_sense : Formula
no_sense = logic.constant false

abbrev pub no_value : Expression
no_value = logic.number (pos 0)

-- a name that is used as a formula with these arguments
abbrev pub use_says : Option Referent → Expressions → Formula
use_says (Some (referent.Predicate p n)) ts = logic.applies p ts
use_says _ ts = no_sense

-- a name that is used as a term with these arguments
abbrev pub use_value : Option Referent → Expressions → Expression
use_value (Some (referent.Name x)) ts = logic.name x
use_value (Some (referent.Function f n)) ts = logic.call f ts
use_value _ ts = no_value

-- a later term of a sum, with its sign
abbrev pub signed : Bool → Expression → Expression
signed true t = logic.minus t
signed false t = t

abbrev mutual
  -- the formula that a phrase says; parentheses vanish, and a quantifier binds its names one by one
  pub says : Scope → Phrase → Formula
  says s (truth _ b) = logic.constant b
  says s (used _ x ps) = use_says (refers s x.text) (terms s ps)
  says s (group _ p) = says s p
  says s (compared _ c p q) = logic.compares (relation_of c) (value s p) (value s q)
  says s (negation _ p) = logic.negation (says s p)
  says s (quantified _ all names p) = quantifiers all (sorts_of names) (says (inside names s) p)
  says s (part _ x p) = logic.part (place x.text s.parts) (says s p)
  says s (conjunction _ ps) = logic.every (members s ps)
  says s (disjunction _ ps) = logic.some (members s ps)
  says s (implication _ p q) = logic.implies (says s p) (says s q)
  says s (equivalence _ p q) = logic.iff (says s p) (says s q)
  says s _ = no_sense

  -- the term that a phrase says; a - b is the sum of a and minus b
  pub value : Scope → Phrase → Expression
  value s (number _ n) = logic.number n
  value s (used _ x ps) = use_value (refers s x.text) (terms s ps)
  value s (group _ p) = value s p
  value s (choice _ c p q) = logic.choice (says s c) (value s p) (value s q)
  value s (absolute _ p) = logic.absolute (value s p)
  value s (lesser _ p q) = logic.lesser (value s p) (value s q)
  value s (greater _ p q) = logic.greater (value s p) (value s q)
  value s (minus _ p) = logic.minus (value s p)
  value s (product _ p sign q) = logic.product (value s p) (value s q)
  value s (sum _ p more) = logic.total (and_expression (value s p) (signed_terms s more))
  value s _ = no_value

  pub members : Scope → Phrases → Formulas
  members s no_phrase = no_formula
  members s (and_phrase p ps) = and_formula (says s p) (members s ps)

  pub terms : Scope → Phrases → Expressions
  terms s no_phrase = no_expression
  terms s (and_phrase p ps) = and_expression (value s p) (terms s ps)

  pub signed_terms : Scope → Addends → Expressions
  signed_terms s no_addend = no_expression
  signed_terms s (and_addend is_minus p more) = and_expression (signed is_minus (value s p)) (signed_terms s more)

-- The applications of a formula: the offsets of the identifiers that stand for a function or a predicate.

abbrev pub is_applied : Option Referent → Bool
is_applied (Some (referent.Function f n)) = true
is_applied (Some (referent.Predicate p n)) = true
is_applied _ = false

abbrev pub use_applies : ℕ → Option Referent → List ℕ
use_applies at r = if is_applied r then at ∷ [] else []

abbrev mutual
  -- in the order in which they are written
  pub applications : Scope → Phrase → List ℕ
  applications s (number _ n) = []
  applications s (truth _ b) = []
  applications s (used _ x ps) = use_applies x.at (refers s x.text) ++ all_applications s ps
  applications s (group _ p) = applications s p
  applications s (choice _ c p q) = applications s c ++ applications s p ++ applications s q
  applications s (absolute _ p) = applications s p
  applications s (lesser _ p q) = applications s p ++ applications s q
  applications s (greater _ p q) = applications s p ++ applications s q
  applications s (minus _ p) = applications s p
  applications s (product _ p sign q) = applications s p ++ applications s q
  applications s (sum _ p more) = applications s p ++ addend_applications s more
  applications s (compared _ c p q) = applications s p ++ applications s q
  applications s (negation _ p) = applications s p
  applications s (quantified _ all names p) = applications (inside names s) p
  applications s (part _ x p) = applications s p
  applications s (conjunction _ ps) = all_applications s ps
  applications s (disjunction _ ps) = all_applications s ps
  applications s (implication _ p q) = applications s p ++ applications s q
  applications s (equivalence _ p q) = applications s p ++ applications s q

  pub all_applications : Scope → Phrases → List ℕ
  all_applications s no_phrase = []
  all_applications s (and_phrase p ps) = applications s p ++ all_applications s ps

  pub addend_applications : Scope → Addends → List ℕ
  addend_applications s no_addend = []
  addend_applications s (and_addend sign p more) = applications s p ++ addend_applications s more

-- The parts of a formula.

abbrev mutual
  -- every `\part`, in the order in which they are written: the offset and the name
  pub parts_in : Phrase → List Name
  parts_in (number _ n) = []
  parts_in (truth _ b) = []
  parts_in (used _ x ps) = all_parts ps
  parts_in (group _ p) = parts_in p
  parts_in (choice _ c p q) = parts_in c ++ parts_in p ++ parts_in q
  parts_in (absolute _ p) = parts_in p
  parts_in (lesser _ p q) = parts_in p ++ parts_in q
  parts_in (greater _ p q) = parts_in p ++ parts_in q
  parts_in (minus _ p) = parts_in p
  parts_in (product _ p sign q) = parts_in p ++ parts_in q
  parts_in (sum _ p more) = parts_in p ++ addend_parts more
  parts_in (compared _ c p q) = parts_in p ++ parts_in q
  parts_in (negation _ p) = parts_in p
  parts_in (quantified _ all names p) = parts_in p
  parts_in (part at x p) = (record { at = at; text = x.text }) ∷ parts_in p
  parts_in (conjunction _ ps) = all_parts ps
  parts_in (disjunction _ ps) = all_parts ps
  parts_in (implication _ p q) = parts_in p ++ parts_in q
  parts_in (equivalence _ p q) = parts_in p ++ parts_in q

  pub all_parts : Phrases → List Name
  all_parts no_phrase = []
  all_parts (and_phrase p ps) = parts_in p ++ all_parts ps

  pub addend_parts : Addends → List Name
  addend_parts no_addend = []
  addend_parts (and_addend sign p more) = parts_in p ++ addend_parts more

-- the texts of the list after those before, each once, where it comes first
abbrev pub distinct_from : List (List ℕ) → List Name → List (List ℕ)
distinct_from before [] = before
distinct_from before (n ∷ names) = distinct_from (with_text n.text before) names

-- the names of the parts, in the order of the first `\part` of each
abbrev pub part_names : Phrase → List (List ℕ)
part_names p = distinct_from [] (parts_in p)

abbrev pub first_of : List ℕ → Option ℕ
first_of [] = None
first_of (at ∷ more) = Some at
