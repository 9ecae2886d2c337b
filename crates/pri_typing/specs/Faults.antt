-- Everything that keeps a formula from being typed, and the least of several faults.
use Rattle.std.specs.Prelude.{ℕ, Bool, true, false, ◌&&◌, ◌||◌, List, [], ◌∷◌, ◌++◌, Option, Some, None, nat_eq, nat_lt, if◌then◌else◌}
use Rattle.pri_typing.specs.declared.problem.TypeRefusal.{TypeRefusal}
use Rattle.pri_typing.specs.declared.problem.TypeRefusal.TheVariants.{Undeclared, Redeclared, Arity, Kind, NonLinear, Parts, Many, Memory}
use Rattle.pri_typing.specs.declared.scope.Category.{Category}
use Rattle.pri_typing.specs.declared.scope.Category.TheVariants.{Formula, Term}
use Rattle.pri_typing.specs.declared.scope.Use.{Use}
use Rattle.pri_typing.specs.declared.scope.Referent.{Referent}
use Rattle.pri_typing.specs.declared.scope.Referent.TheVariants as referent
use Rattle.pri_typing.specs.Phrase.{Phrase, number, truth, used, group, choice, absolute, lesser, greater, minus, product, sum, compared, negation, quantified, part, conjunction, disjunction, implication, equivalence, Phrases, no_phrase, and_phrase, Addends, no_addend, and_addend, first_token, count}
use Rattle.pri_typing.specs.Least.{earlier_by, least_by}
use Rattle.pri_typing.specs.Scope.{Scope, inside, refers}

abbrev pub category_of : Referent → Category
category_of (referent.Name x) = Term
category_of (referent.Function f n) = Term
category_of (referent.Predicate p n) = Formula

-- the number of arguments
abbrev pub arity_of : Referent → ℕ
arity_of (referent.Name x) = 0
arity_of (referent.Function f n) = n
arity_of (referent.Predicate p n) = n

-- what a use of a name has to look like
abbrev pub use_of : Referent → Use
use_of r = record { category = category_of r; arity = arity_of r }

-- one category is needed where the other stands, whose first token is there
abbrev pub needs : Category → Category → ℕ → List TypeRefusal
needs Formula Formula at = []
needs Term Term at = []
needs _ _ at = Kind at ∷ []

-- a use of a name, whose identifier is at `name_at`, with n arguments; an undeclared name has no category
abbrev pub use_faults : Category → ℕ → ℕ → ℕ → Option Referent → List TypeRefusal
use_faults want at name_at n None = Undeclared name_at ∷ []
use_faults want at name_at n (Some r) = (if nat_eq n (arity_of r) then [] else Arity name_at ∷ []) ++ needs want (category_of r) at

-- a numeral expression: built of numbers, sums, minus, products and parentheses
abbrev mutual
  pub is_numeral : Phrase → Bool
  is_numeral (number _ n) = true
  is_numeral (group _ p) = is_numeral p
  is_numeral (minus _ p) = is_numeral p
  is_numeral (product _ p sign q) = is_numeral p && is_numeral q
  is_numeral (sum _ p more) = is_numeral p && are_numerals more
  is_numeral _ = false

  pub are_numerals : Addends → Bool
  are_numerals no_addend = true
  are_numerals (and_addend sign p more) = is_numeral p && are_numerals more

-- one side of a product is a numeral expression
abbrev pub product_faults : Phrase → ℕ → Phrase → List TypeRefusal
product_faults p sign q = if is_numeral p || is_numeral q then [] else NonLinear sign ∷ []

abbrev mutual
  -- the faults of a phrase where a formula or a term is needed; its first token, with the parentheses around it, is `at`
  pub faults : Scope → Category → ℕ → Phrase → List TypeRefusal
  faults s want at (number _ n) = needs want Term at
  faults s want at (truth _ b) = needs want Formula at
  faults s want at (used _ x ps) = use_faults want at x.at (count ps) (refers s x.text) ++ all_faults s Term ps
  faults s want at (group _ p) = faults s want at p
  faults s want at (choice _ c p q) =
      needs want Term at ++ faults s Formula (first_token c) c ++ faults s Term (first_token p) p ++ faults s Term (first_token q) q
  faults s want at (absolute _ p) = needs want Term at ++ faults s Term (first_token p) p
  faults s want at (lesser _ p q) = needs want Term at ++ faults s Term (first_token p) p ++ faults s Term (first_token q) q
  faults s want at (greater _ p q) = needs want Term at ++ faults s Term (first_token p) p ++ faults s Term (first_token q) q
  faults s want at (minus _ p) = needs want Term at ++ faults s Term (first_token p) p
  faults s want at (product _ p sign q) =
      needs want Term at ++ product_faults p sign q ++ faults s Term (first_token p) p ++ faults s Term (first_token q) q
  faults s want at (sum _ p more) = needs want Term at ++ faults s Term (first_token p) p ++ addend_faults s more
  faults s want at (compared _ c p q) = needs want Formula at ++ faults s Term (first_token p) p ++ faults s Term (first_token q) q
  faults s want at (negation _ p) = needs want Formula at ++ faults s Formula (first_token p) p
  faults s want at (quantified _ all names p) = needs want Formula at ++ faults (inside names s) Formula (first_token p) p
  faults s want at (part _ x p) = needs want Formula at ++ faults s Formula (first_token p) p
  faults s want at (conjunction _ ps) = needs want Formula at ++ all_faults s Formula ps
  faults s want at (disjunction _ ps) = needs want Formula at ++ all_faults s Formula ps
  faults s want at (implication _ p q) = needs want Formula at ++ faults s Formula (first_token p) p ++ faults s Formula (first_token q) q
  faults s want at (equivalence _ p q) = needs want Formula at ++ faults s Formula (first_token p) p ++ faults s Formula (first_token q) q

  pub all_faults : Scope → Category → Phrases → List TypeRefusal
  all_faults s want no_phrase = []
  all_faults s want (and_phrase p ps) = faults s want (first_token p) p ++ all_faults s want ps

  pub addend_faults : Scope → Addends → List TypeRefusal
  addend_faults s no_addend = []
  addend_faults s (and_addend sign p more) = faults s Term (first_token p) p ++ addend_faults s more

-- The least fault.

abbrev pub place_of : TypeRefusal → ℕ
place_of (Undeclared at) = at
place_of (Redeclared at) = at
place_of (Arity at) = at
place_of (Kind at) = at
place_of (NonLinear at) = at
place_of (Parts at) = at
place_of (Many at) = at
place_of Memory = 0

abbrev pub number_of : TypeRefusal → ℕ
number_of (Undeclared at) = 4
number_of (Redeclared at) = 5
number_of (Arity at) = 6
number_of (Kind at) = 7
number_of (NonLinear at) = 8
number_of (Parts at) = 9
number_of (Many at) = 10
number_of Memory = 11

-- a lesser offset, or the same and a lesser number
abbrev pub is_before : TypeRefusal → TypeRefusal → Bool
is_before a b = nat_lt (place_of a) (place_of b) || nat_eq (place_of a) (place_of b) && nat_lt (number_of a) (number_of b)

abbrev pub earlier : Option TypeRefusal → Option TypeRefusal → Option TypeRefusal
earlier = earlier_by is_before

-- the first in that order
abbrev pub least : List TypeRefusal → Option TypeRefusal
least = least_by is_before
