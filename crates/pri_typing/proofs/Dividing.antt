-- The components of the formula that a phrase says, where the phrase is put together of parts and truths.
use Rattle.std.proofs.Common.{◌≡◌, ℕ, ◌+◌, Bool, true, false, List, [], ◌∷◌, ◌++◌, length, refl, sym, ap, ◌∙◌, flat_map, append-nil, Option, Some, None}
use Rattle.std.proofs.lemmas.Grind.{flat_map-append}
use Rattle.std.proofs.lemmas.List.{map-append}
use Rattle.pri_reader.specs.declared.tree.Name.{Name}
use Rattle.form_typed.specs.Formula as logic
use Rattle.form_typed.specs.Formula.{Formula, Expression, Expressions}
use Rattle.pri_typing.specs.declared.scope.Referent.{Referent}
use Rattle.pri_typing.specs.declared.scope.Referent.TheVariants as referent
use Rattle.pri_typing.specs.Phrase.{Phrase, number, truth, used, group, choice, absolute, lesser, greater, minus, product, sum, compared, negation, quantified, part, conjunction, disjunction, implication, equivalence, Phrases, no_phrase, and_phrase, Addends, no_addend, and_addend}
use Rattle.base_texts.specs.Texts.{place}
use Rattle.pri_typing.specs.Scope.{Scope, inside, refers}
use Rattle.pri_typing.specs.Sorts.{sorts_of}
use Rattle.pri_typing.specs.Typing.{says, value, members, terms, signed_terms, use_says, use_value, parts_in, all_parts, addend_parts}
use Rattle.pri_typing.specs.Parts.{components, all_components, component_faults, formula_faults, parts_at}
use Rattle.pri_typing.specs.Everywhere.{Property, Everywhere, AllEverywhere, TermEverywhere, TermsEverywhere}
use Rattle.pri_typing.specs.WellFormed.{of_formulas, IsNoPart, IsPartOrTruth, SignedFormula, formula_components, all_formula_components, part_numbers}
use Rattle.pri_typing.proofs.Everywhere.{IsLax, AnySort, any_sorts, under, with_sign}
use Rattle.pri_typing.proofs.WellFormed.{nil_cons, nil_split}
use Rattle.pri_typing.proofs.Distinct.{places}

-- What has no part says a formula without a part.

abbrev no_part : Property
no_part = of_formulas IsNoPart

use_formula : (n : ℕ) (r : Option Referent) (ts : Expressions) → TermsEverywhere no_part n ts → Everywhere no_part n (use_says r ts)
use_formula n None ts h = tt {0}
use_formula n (Some (referent.Name x)) ts h = tt {0}
use_formula n (Some (referent.Function f m)) ts h = tt {0}
use_formula n (Some (referent.Predicate p m)) ts h = (tt {0}, h)

use_term : (n : ℕ) (r : Option Referent) (ts : Expressions) → TermsEverywhere no_part n ts → TermEverywhere no_part n (use_value r ts)
use_term n None ts h = tt {0}
use_term n (Some (referent.Name x)) ts h = tt {0}
use_term n (Some (referent.Function f m)) ts h = (tt {0}, h)
use_term n (Some (referent.Predicate p m)) ts h = tt {0}

lax : IsLax AnySort no_part
lax = record { at_for_all = λ n sort f s. tt {0}; at_for_some = λ n sort f s. tt {0}; at_minus = λ n t. tt {0} }

mutual
  pub partless : (s : Scope) (n : ℕ) (p : Phrase) → parts_in p ≡ [] → Everywhere no_part n (says s p)
  partless s n (number _ v) e = tt {0}
  partless s n (truth _ b) e = tt {0}
  partless s n (used _ x ps) e = use_formula n (refers s x.text) (terms s ps) (terms_partless s n ps e)
  partless s n (group _ p) e = partless s n p e
  partless s n (choice _ c p q) e = tt {0}
  partless s n (absolute _ p) e = tt {0}
  partless s n (lesser _ p q) e = tt {0}
  partless s n (greater _ p q) e = tt {0}
  partless s n (minus _ p) e = tt {0}
  partless s n (product _ p sign q) e = tt {0}
  partless s n (sum _ p more) e = tt {0}
  partless s n (compared _ c p q) e =
      let none = nil_split (parts_in p) (parts_in q) e in
      (tt {0}, term_partless s n p none.0, term_partless s n q none.1)
  partless s n (negation _ p) e = (tt {0}, partless s n p e)
  partless s n (quantified _ all names p) e = under AnySort no_part lax all (sorts_of names) n (says (inside names s) p) (any_sorts (sorts_of names)) (partless (inside names s) (n + length (sorts_of names)) p e)
  partless s n (part _ x p) e = absurd (nil_cons _ _ e)
  partless s n (conjunction _ ps) e = (tt {0}, members_partless s n ps e)
  partless s n (disjunction _ ps) e = (tt {0}, members_partless s n ps e)
  partless s n (implication _ p q) e =
      let none = nil_split (parts_in p) (parts_in q) e in
      (tt {0}, partless s n p none.0, partless s n q none.1)
  partless s n (equivalence _ p q) e =
      let none = nil_split (parts_in p) (parts_in q) e in
      (tt {0}, partless s n p none.0, partless s n q none.1)

  term_partless : (s : Scope) (n : ℕ) (p : Phrase) → parts_in p ≡ [] → TermEverywhere no_part n (value s p)
  term_partless s n (number _ v) e = tt {0}
  term_partless s n (truth _ b) e = tt {0}
  term_partless s n (used _ x ps) e = use_term n (refers s x.text) (terms s ps) (terms_partless s n ps e)
  term_partless s n (group _ p) e = term_partless s n p e
  term_partless s n (choice _ c p q) e =
      let none = nil_split (parts_in c ++ parts_in p) (parts_in q) e in
      let front = nil_split (parts_in c) (parts_in p) none.0 in
      (tt {0}, partless s n c front.0, term_partless s n p front.1, term_partless s n q none.1)
  term_partless s n (absolute _ p) e = (tt {0}, term_partless s n p e)
  term_partless s n (lesser _ p q) e =
      let none = nil_split (parts_in p) (parts_in q) e in
      (tt {0}, term_partless s n p none.0, term_partless s n q none.1)
  term_partless s n (greater _ p q) e =
      let none = nil_split (parts_in p) (parts_in q) e in
      (tt {0}, term_partless s n p none.0, term_partless s n q none.1)
  term_partless s n (minus _ p) e = (tt {0}, term_partless s n p e)
  term_partless s n (product _ p sign q) e =
      let none = nil_split (parts_in p) (parts_in q) e in
      (tt {0}, term_partless s n p none.0, term_partless s n q none.1)
  term_partless s n (sum _ p more) e =
      let none = nil_split (parts_in p) (addend_parts more) e in
      (tt {0}, (term_partless s n p none.0, addends_partless s n more none.1))
  term_partless s n (compared _ c p q) e = tt {0}
  term_partless s n (negation _ p) e = tt {0}
  term_partless s n (quantified _ all names p) e = tt {0}
  term_partless s n (part _ x p) e = absurd (nil_cons _ _ e)
  term_partless s n (conjunction _ ps) e = tt {0}
  term_partless s n (disjunction _ ps) e = tt {0}
  term_partless s n (implication _ p q) e = tt {0}
  term_partless s n (equivalence _ p q) e = tt {0}

  members_partless : (s : Scope) (n : ℕ) (ps : Phrases) → all_parts ps ≡ [] → AllEverywhere no_part n (members s ps)
  members_partless s n no_phrase e = tt {0}
  members_partless s n (and_phrase p ps) e = let none = nil_split (parts_in p) (all_parts ps) e in (partless s n p none.0, members_partless s n ps none.1)

  terms_partless : (s : Scope) (n : ℕ) (ps : Phrases) → all_parts ps ≡ [] → TermsEverywhere no_part n (terms s ps)
  terms_partless s n no_phrase e = tt {0}
  terms_partless s n (and_phrase p ps) e = let none = nil_split (parts_in p) (all_parts ps) e in (term_partless s n p none.0, terms_partless s n ps none.1)

  addends_partless : (s : Scope) (n : ℕ) (more : Addends) → addend_parts more ≡ [] → TermsEverywhere no_part n (signed_terms s more)
  addends_partless s n no_addend e = tt {0}
  addends_partless s n (and_addend sign p more) e =
      let none = nil_split (parts_in p) (addend_parts more) e in
      (with_sign AnySort no_part lax n sign (value s p) (term_partless s n p none.0), addends_partless s n more none.1)

-- Components.

abbrev pub AreWhole : List SignedFormula → Type 0
AreWhole [] = Unit {0}
AreWhole (c ∷ cs) = IsPartOrTruth c.what × AreWhole cs

-- these components are parts and truths, and the parts among them are those with these names
pub record Splits (parts : List (List ℕ)) (cs : List SignedFormula) (names : List Name) : Type 0 where
  pub whole : AreWhole cs
  pub numbers : part_numbers cs ≡ places parts names

whole_append : (cs ds : List SignedFormula) → AreWhole cs → AreWhole ds → AreWhole (cs ++ ds)
whole_append [] ds h k = k
whole_append (c ∷ cs) ds h k = (h.0, whole_append cs ds h.1 k)

splits_append : (parts : List (List ℕ)) (cs ds : List SignedFormula) (ms ns : List Name) → Splits parts cs ms → Splits parts ds ns → Splits parts (cs ++ ds) (ms ++ ns)
splits_append parts cs ds ms ns h k = record {
  whole = whole_append cs ds h.whole k.whole;
  numbers = flat_map-append _ cs ds ∙ ap (λ z. z ++ part_numbers ds) h.numbers ∙ ap (λ z. places parts ms ++ z) k.numbers ∙ sym (map-append _ ms ns);
}

no_parts_at : (names : List Name) → parts_at names ≡ [] → names ≡ []
no_parts_at [] e = refl
no_parts_at (n ∷ names) e = absurd (nil_cons _ _ e)

part_splits : (s : Scope) (plus : Bool) (at : ℕ) (x : Name) (p : Phrase) → parts_at (parts_in p) ++ [] ≡ []
    → Splits s.parts ((record { plus = plus; what = logic.part (place x.text s.parts) (says s p) }) ∷ []) ((record { at = at; text = x.text }) ∷ parts_in p)
part_splits s plus at x p e =
    let none = no_parts_at (parts_in p) (sym (append-nil (parts_at (parts_in p))) ∙ e) in
    record {
      whole = (partless s 0 p none, tt {0});
      numbers = ap (λ z. place x.text s.parts ∷ places s.parts z) (sym none);
    }

truth_splits : (s : Scope) (plus b : Bool) → Splits s.parts ((record { plus = plus; what = logic.constant b }) ∷ []) []
truth_splits s plus b = record { whole = (tt {0}, tt {0}); numbers = refl }

mutual
  pub splits : (s : Scope) (plus : Bool) (p : Phrase) → formula_faults plus p ≡ [] → Splits s.parts (formula_components plus (says s p)) (parts_in p)
  splits s true (number at v) e = absurd (nil_cons _ _ e)
  splits s false (number at v) e = absurd (nil_cons _ _ e)
  splits s true (truth at b) e = truth_splits s true b
  splits s false (truth at b) e = truth_splits s false b
  splits s true (used at x ps) e = absurd (nil_cons _ _ e)
  splits s false (used at x ps) e = absurd (nil_cons _ _ e)
  splits s true (group at p) e = splits s true p e
  splits s false (group at p) e = splits s false p e
  splits s true (choice at c p q) e = absurd (nil_cons _ _ e)
  splits s false (choice at c p q) e = absurd (nil_cons _ _ e)
  splits s true (absolute at p) e = absurd (nil_cons _ _ e)
  splits s false (absolute at p) e = absurd (nil_cons _ _ e)
  splits s true (lesser at p q) e = absurd (nil_cons _ _ e)
  splits s false (lesser at p q) e = absurd (nil_cons _ _ e)
  splits s true (greater at p q) e = absurd (nil_cons _ _ e)
  splits s false (greater at p q) e = absurd (nil_cons _ _ e)
  splits s true (minus at p) e = absurd (nil_cons _ _ e)
  splits s false (minus at p) e = absurd (nil_cons _ _ e)
  splits s true (product at p sign q) e = absurd (nil_cons _ _ e)
  splits s false (product at p sign q) e = absurd (nil_cons _ _ e)
  splits s true (sum at p more) e = absurd (nil_cons _ _ e)
  splits s false (sum at p more) e = absurd (nil_cons _ _ e)
  splits s true (compared at c p q) e = absurd (nil_cons _ _ e)
  splits s false (compared at c p q) e = absurd (nil_cons _ _ e)
  splits s true (negation at p) e = splits s false p e
  splits s false (negation at p) e = splits s true p e
  splits s true (quantified at all names p) e = absurd (nil_cons _ _ e)
  splits s false (quantified at all names p) e = absurd (nil_cons _ _ e)
  splits s true (part at x p) e = part_splits s true at x p e
  splits s false (part at x p) e = part_splits s false at x p e
  splits s true (conjunction at ps) e = absurd (nil_cons _ _ e)
  splits s false (conjunction at ps) e = all_split s false ps e
  splits s true (disjunction at ps) e = all_split s true ps e
  splits s false (disjunction at ps) e = absurd (nil_cons _ _ e)
  splits s true (implication at p q) e =
      let free = nil_split (formula_faults false p) (formula_faults true q) (sym (flat_map-append (λ c. component_faults c.what) (components false p) (components true q)) ∙ e) in
      splits_append s.parts (formula_components false (says s p)) (formula_components true (says s q)) (parts_in p) (parts_in q) (splits s false p free.0) (splits s true q free.1)
  splits s false (implication at p q) e = absurd (nil_cons _ _ e)
  splits s true (equivalence at p q) e = absurd (nil_cons _ _ e)
  splits s false (equivalence at p q) e = absurd (nil_cons _ _ e)

  all_split : (s : Scope) (plus : Bool) (ps : Phrases) → flat_map (λ c. component_faults c.what) (all_components plus ps) ≡ []
      → Splits s.parts (all_formula_components plus (members s ps)) (all_parts ps)
  all_split s plus no_phrase e = record { whole = tt {0}; numbers = refl }
  all_split s plus (and_phrase p ps) e =
      let free = nil_split (formula_faults plus p) (flat_map (λ c. component_faults c.what) (all_components plus ps))
      (sym (flat_map-append (λ c. component_faults c.what) (components plus p) (all_components plus ps)) ∙ e) in
      splits_append s.parts (formula_components plus (says s p)) (all_formula_components plus (members s ps)) (parts_in p) (all_parts ps) (splits s plus p free.0) (all_split s plus ps free.1)
