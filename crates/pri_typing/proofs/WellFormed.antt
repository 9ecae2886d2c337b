-- At each place of a formula that is typed without faults, what makes a problem well formed is so.
use Rattle.std.proofs.Common.{◌≡◌, ℕ, suc, ◌+◌, ◌<◌, ◌≤◌, Bool, true, false, ◌&&◌, ◌||◌, List, [], ◌∷◌, ◌++◌, length, Option, Some, None, refl, sym, ap, subst, ◌∙◌, arith, nat_eq, not, if◌then◌else◌}
use Rattle.std.specs.Cmp.Derive.{both_true}
use Rattle.std.proofs.lemmas.List.{length-map}
use Rattle.std.proofs.lemmas.List.Elements.{recursion_from_All}
use Rattle.pri_reader.specs.declared.tree.Name.{Name}
use Rattle.pri_reader.specs.declared.tree.Declared.{Declared}
use Rattle.form_typed.specs.Formula.{Formula, Expression}
use Rattle.pri_typing.specs.declared.problem.TypeRefusal.TheVariants.{Arity, NonLinear}
use Rattle.pri_typing.specs.declared.scope.Category.{Category}
use Rattle.pri_typing.specs.declared.scope.Category.TheVariants as category
use Rattle.pri_typing.specs.declared.declaration.Declaration.{Declaration}
use Rattle.pri_typing.specs.declared.scope.Referent.{Referent}
use Rattle.pri_typing.specs.declared.scope.Referent.TheVariants as referent
use Rattle.pri_typing.specs.Phrase.{Phrase, number, truth, used, group, choice, absolute, lesser, greater, minus, product, sum, compared, negation, quantified, part, conjunction, disjunction, implication, equivalence, Phrases, no_phrase, and_phrase, Addends, no_addend, and_addend, first_token, count}
use Rattle.base_texts.specs.Texts.{is_among, is_text, place}
use Rattle.pri_typing.specs.Scope.{Scope, inside, refers, functions, predicates, constants}
use Rattle.pri_typing.specs.Faults.{faults, all_faults, addend_faults, use_faults, is_numeral, are_numerals, product_faults}
use Rattle.pri_typing.specs.Typing.{says, value, members, terms, signed_terms, use_says, use_value, signed, parts_in, all_parts, addend_parts}
use Rattle.pri_typing.specs.Ranges.{IsRanged, AreRanged, AreAddedRanged}
use Rattle.form_typed.specs.Sorts.{IsSortRanged}
use Rattle.pri_typing.specs.Sorts.{sort_of, sorts_of}
use Rattle.pri_typing.specs.Everywhere.{Property, Everywhere, AllEverywhere, TermEverywhere, TermsEverywhere}
use Rattle.pri_typing.specs.WellFormed.{size, HasArity, is_numeric, are_numeric, IsNumberRanged, IsNameBelow, IsPredicateDeclared, IsFunctionDeclared, HasMember, IsLinear, IsPartBelow, IsBinderRanged}
use Rattle.pri_typing.proofs.Scopes.{length-bind}
use Rattle.pri_typing.proofs.Everywhere.{IsLax, under, with_sign}
use Rattle.pri_typing.proofs.Referents.{AreProper, IsReferent, referent_is}

-- Lists that are empty.

abbrev IsNil : {A : Type 0} → List A → Type 0
IsNil [] = Unit {0}
IsNil (x ∷ xs) = ⊥

pub nil_cons : {A : Type 0} (x : A) (xs : List A) → x ∷ xs ≡ [] → ⊥
nil_cons x xs e = subst IsNil (sym e) (tt {0})

pub nil_split : {A : Type 0} (xs ys : List A) → xs ++ ys ≡ [] → (xs ≡ []) × (ys ≡ [])
nil_split [] ys e = (refl, e)
nil_split (x ∷ xs) ys e = absurd (nil_cons x (xs ++ ys) e)

-- Parts among those of the problem.

abbrev pub AreAmong : List (List ℕ) → List Name → Type 0
AreAmong parts [] = Unit {0}
AreAmong parts (n ∷ names) = (is_among n.text parts ≡ true) × AreAmong parts names

pub among_split : (parts : List (List ℕ)) (xs ys : List Name) → AreAmong parts (xs ++ ys) → AreAmong parts xs × AreAmong parts ys
among_split parts [] ys h = (tt {0}, h)
among_split parts (x ∷ xs) ys h = let rest = among_split parts xs ys h.1 in ((h.0, rest.0), rest.1)

pub place_below : (text : List ℕ) (texts : List (List ℕ)) → is_among text texts ≡ true → place text texts < length texts
place_below text [] h = absurd cc
place_below text (x ∷ texts) h = by (is_text text x) refl h (place_below text texts)
  where
    by : (b : Bool) → is_text text x ≡ b → (b || is_among text texts) ≡ true → (is_among text texts ≡ true → place text texts < length texts)
        → place text (x ∷ texts) < suc (length texts)
    by true e k l = subst (λ z. (if not z then 1 + place text texts else 0) < suc (length texts)) (sym e) (omega arith)
    by false e k l = subst (λ z. (if not z then 1 + place text texts else 0) < suc (length texts)) (sym e) (omega (arith, l k))

-- Numbers of terms, and terms that are built of numbers.

size-terms : (s : Scope) (ps : Phrases) → size (terms s ps) ≡ count ps
size-terms s no_phrase = refl
size-terms s (and_phrase p ps) = ap suc (size-terms s ps)

split_true : (a b : Bool) → (a && b) ≡ true → (a ≡ true) × (b ≡ true)
split_true true true e = (refl, refl)
split_true true false e = absurd cc
split_true false b e = absurd cc

signed-numeric : (sign : Bool) (t : Expression) → is_numeric t ≡ true → is_numeric (signed sign t) ≡ true
signed-numeric true t e = e
signed-numeric false t e = e

mutual
  numeral_value : (s : Scope) (p : Phrase) → is_numeral p ≡ true → is_numeric (value s p) ≡ true
  numeral_value s (number at n) e = refl
  numeral_value s (truth at b) e = absurd cc
  numeral_value s (used at x ps) e = absurd cc
  numeral_value s (group at p) e = numeral_value s p e
  numeral_value s (choice at c p q) e = absurd cc
  numeral_value s (absolute at p) e = absurd cc
  numeral_value s (lesser at p q) e = absurd cc
  numeral_value s (greater at p q) e = absurd cc
  numeral_value s (minus at p) e = numeral_value s p e
  numeral_value s (product at p sign q) e =
      let h = split_true (is_numeral p) (is_numeral q) e in
      both_true (numeral_value s p h.0) (numeral_value s q h.1)
  numeral_value s (sum at p more) e =
      let h = split_true (is_numeral p) (are_numerals more) e in
      both_true (numeral_value s p h.0) (numeral_values s more h.1)
  numeral_value s (compared at c p q) e = absurd cc
  numeral_value s (negation at p) e = absurd cc
  numeral_value s (quantified at all names p) e = absurd cc
  numeral_value s (part at x p) e = absurd cc
  numeral_value s (conjunction at ps) e = absurd cc
  numeral_value s (disjunction at ps) e = absurd cc
  numeral_value s (implication at p q) e = absurd cc
  numeral_value s (equivalence at p q) e = absurd cc

  numeral_values : (s : Scope) (more : Addends) → are_numerals more ≡ true → are_numeric (signed_terms s more) ≡ true
  numeral_values s no_addend e = refl
  numeral_values s (and_addend sign p more) e =
      let h = split_true (is_numeral p) (are_numerals more) e in
      both_true (signed-numeric sign (value s p) (numeral_value s p h.0)) (numeral_values s more h.1)

product_linear : (s : Scope) (p : Phrase) (sign : ℕ) (q : Phrase) → product_faults p sign q ≡ [] → (is_numeric (value s p) || is_numeric (value s q)) ≡ true
product_linear s p sign q e = by (is_numeral p) (is_numeral q) refl refl e
  where
    or_true : (a b : Bool) → b ≡ true → (a || b) ≡ true
    or_true true b h = refl
    or_true false b h = h

    by : (a b : Bool) → is_numeral p ≡ a → is_numeral q ≡ b → (if a || b then [] else NonLinear sign ∷ []) ≡ [] → (is_numeric (value s p) || is_numeric (value s q)) ≡ true
    by true b h k n = ap (λ z. z || is_numeric (value s q)) (numeral_value s p h)
    by false true h k n = or_true (is_numeric (value s p)) (is_numeric (value s q)) (numeral_value s q k)
    by false false h k n = absurd (nil_cons (NonLinear sign) [] n)

-- What is so at each place.

-- where the file declares so much, and the problem has these parts
abbrev pub placed : List Declaration → List (List ℕ) → Property
placed ds parts = record {
  of_formula = λ n f. IsPredicateDeclared (predicates ds) n f × IsPartBelow (length parts) n f × IsBinderRanged n f;
  of_term = λ n t. IsNumberRanged n t × IsNameBelow (constants ds) n t × IsFunctionDeclared (functions ds) n t × HasMember n t × IsLinear n t;
}

abbrev Placed : Scope → Formula → Type 0
Placed s f = Everywhere (placed s.declared s.parts) (length s.bound) f

abbrev TermPlaced : Scope → Expression → Type 0
TermPlaced s t = TermEverywhere (placed s.declared s.parts) (length s.bound) t

abbrev Five : Type 0
Five = Unit {0} × Unit {0} × Unit {0} × Unit {0} × Unit {0}

any_term : Five
any_term = (tt {0}, tt {0}, tt {0}, tt {0}, tt {0})

any_formula : Unit {0} × Unit {0} × Unit {0}
any_formula = (tt {0}, tt {0}, tt {0})

pub same_count : (n m : ℕ) (at : ℕ) → (if nat_eq n m then [] else Arity at ∷ []) ≡ [] → n ≡ m
same_count n m at e = by (nat_eq n m) refl e
  where
    by : (b : Bool) → nat_eq n m ≡ b → (if b then [] else Arity at ∷ []) ≡ [] → n ≡ m
    by true h k = grind (arith, h)
    by false h k = absurd (nil_cons (Arity at) [] k)

use_formula : (s : Scope) (at : ℕ) (x : Name) (ps : Phrases) (r : Option Referent) → IsReferent s.declared (length s.bound) r
    → use_faults category.Formula at x.at (count ps) r ≡ [] → TermsEverywhere (placed s.declared s.parts) (length s.bound) (terms s ps) → Placed s (use_says r (terms s ps))
use_formula s at x ps None h e k = any_formula
use_formula s at x ps (Some (referent.Name n)) h e k = any_formula
use_formula s at x ps (Some (referent.Function f m)) h e k = any_formula
use_formula s at x ps (Some (referent.Predicate p m)) h e k =
    let same = same_count (count ps) m x.at (nil_split (if nat_eq (count ps) m then [] else Arity x.at ∷ []) [] e).0 in
    ((subst (λ z. HasArity (predicates s.declared) p z) (sym (size-terms s ps ∙ same)) h, tt {0}, tt {0}), k)

use_term : (s : Scope) (at : ℕ) (x : Name) (ps : Phrases) (r : Option Referent) → IsReferent s.declared (length s.bound) r
    → use_faults category.Term at x.at (count ps) r ≡ [] → TermsEverywhere (placed s.declared s.parts) (length s.bound) (terms s ps) → TermPlaced s (use_value r (terms s ps))
use_term s at x ps None h e k = absurd (nil_cons _ _ e)
use_term s at x ps (Some (referent.Name n)) h e k = (tt {0}, h, tt {0}, tt {0}, tt {0})
use_term s at x ps (Some (referent.Function f m)) h e k =
    let same = same_count (count ps) m x.at (nil_split (if nat_eq (count ps) m then [] else Arity x.at ∷ []) [] e).0 in
    let is = sym (size-terms s ps ∙ same) in
    ((tt {0}, tt {0}, (subst (λ z. HasArity (functions s.declared) f z) is h.0, subst (λ z. 1 ≤ z) is h.1), tt {0}, tt {0}), k)
use_term s at x ps (Some (referent.Predicate p m)) h e k =
    absurd (nil_cons _ _ (nil_split (if nat_eq (count ps) m then [] else Arity x.at ∷ []) _ e).1)

lax : (ds : List Declaration) (parts : List (List ℕ)) → IsLax IsSortRanged (placed ds parts)
lax ds parts = record { at_for_all = λ n sort f s. (tt {0}, tt {0}, s); at_for_some = λ n sort f s. (tt {0}, tt {0}, s); at_minus = λ n t. any_term }

-- a formula or term that stands where this category is needed, without faults, of which the numerals are in the range and the
-- parts are those of the problem
abbrev pub IsSound : Scope → Category → Phrase → Type 0
IsSound s want p = (faults s want (first_token p) p ≡ []) × IsRanged p × AreAmong s.parts (parts_in p)

two_sound : (s : Scope) (v w : Category) (p q : Phrase) → faults s v (first_token p) p ++ faults s w (first_token q) q ≡ [] → IsRanged p × IsRanged q
    → AreAmong s.parts (parts_in p ++ parts_in q) → IsSound s v p × IsSound s w q
two_sound s v w p q e r m =
    let free = nil_split (faults s v (first_token p) p) (faults s w (first_token q) q) e in
    let among = among_split s.parts (parts_in p) (parts_in q) m in
    ((free.0, r.0, among.0), (free.1, r.1, among.1))

three_sound : (s : Scope) (u v w : Category) (c p q : Phrase)
    → faults s u (first_token c) c ++ faults s v (first_token p) p ++ faults s w (first_token q) q ≡ []
    → IsRanged c × IsRanged p × IsRanged q → AreAmong s.parts (parts_in c ++ parts_in p ++ parts_in q) → IsSound s u c × IsSound s v p × IsSound s w q
three_sound s u v w c p q e r m =
    let free = nil_split (faults s u (first_token c) c ++ faults s v (first_token p) p) (faults s w (first_token q) q) e in
    let among = among_split s.parts (parts_in c ++ parts_in p) (parts_in q) m in
    let front = two_sound s u v c p free.0 (r.0, r.1) among.0 in
    (front.0, front.1, (free.1, r.2, among.1))

bound_sorts : (names : List Declared) (n : ℕ) → length names + n ≡ n + length (sorts_of names)
bound_sorts names n = let same = length-map names (λ d. sort_of d.sort) in omega (arith, same)

mutual
  pub formula_placed : (s : Scope) (at : ℕ) (p : Phrase) → AreProper s.declared → faults s category.Formula at p ≡ [] → IsRanged p → AreAmong s.parts (parts_in p) → Placed s (says s p)
  formula_placed s at (number _ n) d e r m = any_formula
  formula_placed s at (truth _ b) d e r m = any_formula
  formula_placed s at (used _ x ps) d e r m =
      let free = nil_split (use_faults category.Formula at x.at (count ps) (refers s x.text)) (all_faults s category.Term ps) e in
      use_formula s at x ps (refers s x.text) (referent_is s x.text d) free.0 (terms_placed s ps d free.1 r m)
  formula_placed s at (group _ p) d e r m = formula_placed s at p d e r m
  formula_placed s at (choice _ c p q) d e r m = any_formula
  formula_placed s at (absolute _ p) d e r m = any_formula
  formula_placed s at (lesser _ p q) d e r m = any_formula
  formula_placed s at (greater _ p q) d e r m = any_formula
  formula_placed s at (minus _ p) d e r m = any_formula
  formula_placed s at (product _ p sign q) d e r m = any_formula
  formula_placed s at (sum _ p more) d e r m = any_formula
  formula_placed s at (compared _ c p q) d e r m =
      let h = two_sound s category.Term category.Term p q e r m in
      (any_formula, term_placed s (first_token p) p d h.0.0 h.0.1 h.0.2, term_placed s (first_token q) q d h.1.0 h.1.1 h.1.2)
  formula_placed s at (negation _ p) d e r m = (any_formula, formula_placed s (first_token p) p d e r m)
  formula_placed s at (quantified _ all names p) d e r m =
      under IsSortRanged (placed s.declared s.parts) (lax s.declared s.parts) all (sorts_of names) (length s.bound) (says (inside names s) p)
      (recursion_from_All IsSortRanged (sorts_of names) r.0)
      (subst (λ z. Everywhere (placed s.declared s.parts) z (says (inside names s) p)) (length-bind names s.bound ∙ bound_sorts names (length s.bound))
      (formula_placed (inside names s) (first_token p) p d e r.1 m))
  formula_placed s at (part _ x p) d e r m = ((tt {0}, place_below x.text s.parts m.0, tt {0}), formula_placed s (first_token p) p d e r m.1)
  formula_placed s at (conjunction _ ps) d e r m = (any_formula, members_placed s ps d e r m)
  formula_placed s at (disjunction _ ps) d e r m = (any_formula, members_placed s ps d e r m)
  formula_placed s at (implication _ p q) d e r m =
      let h = two_sound s category.Formula category.Formula p q e r m in
      (any_formula, formula_placed s (first_token p) p d h.0.0 h.0.1 h.0.2, formula_placed s (first_token q) q d h.1.0 h.1.1 h.1.2)
  formula_placed s at (equivalence _ p q) d e r m =
      let h = two_sound s category.Formula category.Formula p q e r m in
      (any_formula, formula_placed s (first_token p) p d h.0.0 h.0.1 h.0.2, formula_placed s (first_token q) q d h.1.0 h.1.1 h.1.2)

  pub term_placed : (s : Scope) (at : ℕ) (p : Phrase) → AreProper s.declared → faults s category.Term at p ≡ [] → IsRanged p → AreAmong s.parts (parts_in p) → TermPlaced s (value s p)
  term_placed s at (number _ n) d e r m = (r, tt {0}, tt {0}, tt {0}, tt {0})
  term_placed s at (truth _ b) d e r m = absurd (nil_cons _ _ e)
  term_placed s at (used _ x ps) d e r m =
      let free = nil_split (use_faults category.Term at x.at (count ps) (refers s x.text)) (all_faults s category.Term ps) e in
      use_term s at x ps (refers s x.text) (referent_is s x.text d) free.0 (terms_placed s ps d free.1 r m)
  term_placed s at (group _ p) d e r m = term_placed s at p d e r m
  term_placed s at (choice _ c p q) d e r m =
      let h = three_sound s category.Formula category.Term category.Term c p q e r m in
      (any_term, formula_placed s (first_token c) c d h.0.0 h.0.1 h.0.2, term_placed s (first_token p) p d h.1.0 h.1.1 h.1.2, term_placed s (first_token q) q d h.2.0 h.2.1 h.2.2)
  term_placed s at (absolute _ p) d e r m = (any_term, term_placed s (first_token p) p d e r m)
  term_placed s at (lesser _ p q) d e r m =
      let h = two_sound s category.Term category.Term p q e r m in
      (any_term, term_placed s (first_token p) p d h.0.0 h.0.1 h.0.2, term_placed s (first_token q) q d h.1.0 h.1.1 h.1.2)
  term_placed s at (greater _ p q) d e r m =
      let h = two_sound s category.Term category.Term p q e r m in
      (any_term, term_placed s (first_token p) p d h.0.0 h.0.1 h.0.2, term_placed s (first_token q) q d h.1.0 h.1.1 h.1.2)
  term_placed s at (minus _ p) d e r m = (any_term, term_placed s (first_token p) p d e r m)
  term_placed s at (product _ p sign q) d e r m =
      let free = nil_split (product_faults p sign q ++ faults s category.Term (first_token p) p) (faults s category.Term (first_token q) q) e in
      let front = nil_split (product_faults p sign q) (faults s category.Term (first_token p) p) free.0 in
      let among = among_split s.parts (parts_in p) (parts_in q) m in
      ((tt {0}, tt {0}, tt {0}, tt {0}, product_linear s p sign q front.0), term_placed s (first_token p) p d front.1 r.0 among.0, term_placed s (first_token q) q d free.1 r.1 among.1)
  term_placed s at (sum _ p more) d e r m =
      let free = nil_split (faults s category.Term (first_token p) p) (addend_faults s more) e in
      let among = among_split s.parts (parts_in p) (addend_parts more) m in
      ((tt {0}, tt {0}, tt {0}, omega arith, tt {0}), (term_placed s (first_token p) p d free.0 r.0 among.0, addends_placed s more d free.1 r.1 among.1))
  term_placed s at (compared _ c p q) d e r m = absurd (nil_cons _ _ e)
  term_placed s at (negation _ p) d e r m = absurd (nil_cons _ _ e)
  term_placed s at (quantified _ all names p) d e r m = absurd (nil_cons _ _ e)
  term_placed s at (part _ x p) d e r m = absurd (nil_cons _ _ e)
  term_placed s at (conjunction _ ps) d e r m = absurd (nil_cons _ _ e)
  term_placed s at (disjunction _ ps) d e r m = absurd (nil_cons _ _ e)
  term_placed s at (implication _ p q) d e r m = absurd (nil_cons _ _ e)
  term_placed s at (equivalence _ p q) d e r m = absurd (nil_cons _ _ e)

  members_placed : (s : Scope) (ps : Phrases) → AreProper s.declared → all_faults s category.Formula ps ≡ [] → AreRanged ps → AreAmong s.parts (all_parts ps)
      → AllEverywhere (placed s.declared s.parts) (length s.bound) (members s ps)
  members_placed s no_phrase d e r m = tt {0}
  members_placed s (and_phrase p ps) d e r m =
      let free = nil_split (faults s category.Formula (first_token p) p) (all_faults s category.Formula ps) e in
      let among = among_split s.parts (parts_in p) (all_parts ps) m in
      (formula_placed s (first_token p) p d free.0 r.0 among.0, members_placed s ps d free.1 r.1 among.1)

  terms_placed : (s : Scope) (ps : Phrases) → AreProper s.declared → all_faults s category.Term ps ≡ [] → AreRanged ps → AreAmong s.parts (all_parts ps)
      → TermsEverywhere (placed s.declared s.parts) (length s.bound) (terms s ps)
  terms_placed s no_phrase d e r m = tt {0}
  terms_placed s (and_phrase p ps) d e r m =
      let free = nil_split (faults s category.Term (first_token p) p) (all_faults s category.Term ps) e in
      let among = among_split s.parts (parts_in p) (all_parts ps) m in
      (term_placed s (first_token p) p d free.0 r.0 among.0, terms_placed s ps d free.1 r.1 among.1)

  addends_placed : (s : Scope) (more : Addends) → AreProper s.declared → addend_faults s more ≡ [] → AreAddedRanged more → AreAmong s.parts (addend_parts more)
      → TermsEverywhere (placed s.declared s.parts) (length s.bound) (signed_terms s more)
  addends_placed s no_addend d e r m = tt {0}
  addends_placed s (and_addend sign p more) d e r m =
      let free = nil_split (faults s category.Term (first_token p) p) (addend_faults s more) e in
      let among = among_split s.parts (parts_in p) (addend_parts more) m in
      (with_sign IsSortRanged (placed s.declared s.parts) (lax s.declared s.parts) (length s.bound) sign (value s p) (term_placed s (first_token p) p d free.0 r.0 among.0), addends_placed s more d free.1 r.1 among.1)
