-- What typing promises of a plain term.
use Rattle.std.proofs.Common.{◌≡◌, ℕ, Bool, true, false, List, [], ◌∷◌, ◌++◌, map, Option, Some, None, refl, sym, ap, ◌∙◌, subst, arith, nat_eq, if◌then◌else◌}
use Rattle.form_typed.specs.Formula.{Expression, Expressions, number, name, call, minus, total, product, choice, absolute, lesser, greater, no_expression, and_expression}
use Rattle.pri_reader.specs.declared.tree.Name.{Name}
use Rattle.pri_typing.specs.declared.declaration.Declaration.{Declaration}
use Rattle.pri_typing.specs.declared.declaration.Kind.TheVariants.{Existential}
use Rattle.pri_typing.specs.declared.problem.TypeRefusal.TheVariants.{Arity}
use Rattle.pri_typing.specs.declared.scope.Category.TheVariants.{Term}
use Rattle.pri_typing.specs.declared.scope.Referent.{Referent}
use Rattle.pri_typing.specs.declared.scope.Referent.TheVariants as referent
use Rattle.pri_typing.specs.Everywhere.{TermEverywhere, TermsEverywhere}
use Rattle.pri_typing.specs.Faults.{faults, addend_faults, all_faults, use_faults, product_faults}
use Rattle.pri_typing.specs.Phrase as phrase
use Rattle.pri_typing.specs.Phrase.{phrase as phrase_of}
use Rattle.pri_typing.specs.Phrase.{Phrase, Phrases, no_phrase, and_phrase, Addends, no_addend, and_addend, count, first_token}
use Rattle.pri_typing.specs.Problems.{unplaced}
use Rattle.pri_typing.specs.Ranges.{IsRanged}
use Rattle.pri_typing.specs.Scope.{Scope, refers}
use Rattle.pri_typing.specs.Terms.{IsTermOf, constants_scope}
use Rattle.pri_typing.specs.Typing.{addend_parts, all_parts, parts_in, signed, signed_terms, terms, use_value, value}
use Rattle.pri_typing.proofs.Referents.{AreProper}
use Rattle.pri_typing.proofs.WellFormed.{AreAmong, nil_split, placed, same_count, term_placed}
use Rattle.form_encoding.specs.Plain.{IsPlain, ArePlain}
use Rattle.form_encoding.proofs.Products.{IsTermLinear, AreTermsLinear}
use Rattle.job_least.specs.Plain.{IsPlainRanged, ArePlainRanged}
use Rattle.job_least.proofs.Limits.{ranged}
use Rattle.pri_typing.specs.declared.problem.Problem.{Problem}
use Rattle.job_least.specs.Objective.{IsObjective}

-- ---- a plain term has no part in it

no_arguments : (ps : Phrases) → count ps ≡ 0 → all_parts ps ≡ []
no_arguments no_phrase h = refl
no_arguments (and_phrase p ps) h = absurd (omega arith)

use_parts : (x : Name) (ps : Phrases) (ts : Expressions) (r : Option Referent) (at : ℕ) → use_faults Term at x.at (count ps) r ≡ [] → IsPlain (use_value r ts) → all_parts ps ≡ []
use_parts x ps ts None at e plain = absurd cc
use_parts x ps ts (Some (referent.Name n)) at e plain = no_arguments ps (same_count (count ps) 0 x.at (nil_split (if nat_eq (count ps) 0 then [] else Arity x.at ∷ []) [] e).0)
use_parts x ps ts (Some (referent.Function f m)) at e plain = absurd plain
use_parts x ps ts (Some (referent.Predicate p m)) at e plain = absurd (let h = (nil_split (if nat_eq (count ps) m then [] else Arity x.at ∷ []) _ e).1 in cc)

both_none : {A : Type 0} (xs ys : List A) → xs ≡ [] → ys ≡ [] → xs ++ ys ≡ []
both_none xs ys e f = ap (λ z. z ++ ys) e ∙ f

unsigned : (is_minus : Bool) (t : Expression) → IsPlain (signed is_minus t) → IsPlain t
unsigned true t h = h
unsigned false t h = h

mutual
  plain_parts : (s : Scope) (at : ℕ) (p : Phrase) → faults s Term at p ≡ [] → IsPlain (value s p) → parts_in p ≡ []
  plain_parts s at (phrase.number _ n) e h = refl
  plain_parts s at (phrase.truth _ b) e h = refl
  plain_parts s at (phrase.used _ x ps) e h = use_parts x ps (terms s ps) (refers s x.text) at (nil_split (use_faults Term at x.at (count ps) (refers s x.text)) (all_faults s Term ps) e).0 h
  plain_parts s at (phrase.group _ p) e h = plain_parts s at p e h
  plain_parts s at (phrase.choice _ c p q) e h = absurd h
  plain_parts s at (phrase.absolute _ p) e h = absurd h
  plain_parts s at (phrase.lesser _ p q) e h = absurd h
  plain_parts s at (phrase.greater _ p q) e h = absurd h
  plain_parts s at (phrase.minus _ p) e h = plain_parts s (first_token p) p e h
  plain_parts s at (phrase.product _ p sign q) e h =
      let sides = nil_split (product_faults p sign q ++ faults s Term (first_token p) p) (faults s Term (first_token q) q) e in
      let left = nil_split (product_faults p sign q) (faults s Term (first_token p) p) sides.0 in
      both_none (parts_in p) (parts_in q) (plain_parts s (first_token p) p left.1 h.0) (plain_parts s (first_token q) q sides.1 h.1)
  plain_parts s at (phrase.sum _ p more) e h =
      let free = nil_split (faults s Term (first_token p) p) (addend_faults s more) e in
      both_none (parts_in p) (addend_parts more) (plain_parts s (first_token p) p free.0 h.0) (plain_addends s more free.1 h.1)
  plain_parts s at (phrase.compared _ c p q) e h = absurd cc
  plain_parts s at (phrase.negation _ p) e h = absurd cc
  plain_parts s at (phrase.quantified _ all names p) e h = absurd cc
  plain_parts s at (phrase.part _ x p) e h = absurd cc
  plain_parts s at (phrase.conjunction _ ps) e h = absurd cc
  plain_parts s at (phrase.disjunction _ ps) e h = absurd cc
  plain_parts s at (phrase.implication _ p q) e h = absurd cc
  plain_parts s at (phrase.equivalence _ p q) e h = absurd cc

  plain_addends : (s : Scope) (more : Addends) → addend_faults s more ≡ [] → ArePlain (signed_terms s more) → addend_parts more ≡ []
  plain_addends s no_addend e h = refl
  plain_addends s (and_addend sign p more) e h =
      let free = nil_split (faults s Term (first_token p) p) (addend_faults s more) e in
      both_none (parts_in p) (addend_parts more) (plain_parts s (first_token p) p free.0 (unsigned sign (value s p) h.0)) (plain_addends s more free.1 h.1)

-- ---- its numbers are in the range, and each product has a side of numbers alone

mutual
  placed_plain : (ds : List Declaration) (parts : List (List ℕ)) (n : ℕ) (x : Expression) → IsPlain x → TermEverywhere (placed ds parts) n x → IsPlainRanged x × IsTermLinear x
  placed_plain ds parts n (number v) p h = (h.0, tt)
  placed_plain ds parts n (name x) p h = (tt, tt)
  placed_plain ds parts n (call f ts) p h = absurd p
  placed_plain ds parts n (minus t) p h = placed_plain ds parts n t p h.1
  placed_plain ds parts n (total ts) p h = placed_plains ds parts n ts p h.1
  placed_plain ds parts n (product s t) p h =
      let left = placed_plain ds parts n s p.0 h.1 in
      let right = placed_plain ds parts n t p.1 h.2 in ((left.0, right.0), (h.0.4, left.1, right.1))
  placed_plain ds parts n (choice f s t) p h = absurd p
  placed_plain ds parts n (absolute t) p h = absurd p
  placed_plain ds parts n (lesser s t) p h = absurd p
  placed_plain ds parts n (greater s t) p h = absurd p

  placed_plains : (ds : List Declaration) (parts : List (List ℕ)) (n : ℕ) (ts : Expressions) → ArePlain ts → TermsEverywhere (placed ds parts) n ts → ArePlainRanged ts × AreTermsLinear ts
  placed_plains ds parts n no_expression p h = (tt, tt)
  placed_plains ds parts n (and_expression t ts) p h =
      let first = placed_plain ds parts n t p.0 h.0 in
      let others = placed_plains ds parts n ts p.1 h.1 in ((first.0, others.0), (first.1, others.1))

proper : (constants : List (List ℕ)) → AreProper (map (unplaced Existential) constants)
proper [] = tt
proper (c ∷ cs) = (tt, proper cs)

pub plain_typed : (constants : List (List ℕ)) (p : Phrase) (x : Expression) → IsTermOf constants p x → IsRanged p → IsPlain x → IsPlainRanged x × IsTermLinear x
plain_typed constants p x is ranged plain =
    let s = constants_scope constants in
    let own : IsPlain (value s p) = subst IsPlain is.is plain in
    let none : AreAmong [] (parts_in p) = subst (AreAmong []) (sym (plain_parts s (first_token p) p is.faultless own)) tt in
    let all = term_placed s (first_token p) p (proper constants) is.faultless ranged none in
    subst (λ t. IsPlainRanged t × IsTermLinear t) (sym is.is) (placed_plain s.declared [] 0 (value s p) own all)

-- the numbers of the term that is asked for are in the range, and each of its products has a side of numbers alone
pub objective_typed : (p : Problem) (text : List ℕ) (x : Expression) → IsObjective p text x → IsPlainRanged x × IsTermLinear x
objective_typed p text x h = plain_typed p.existentials (phrase_of h.read) x h.typed (ranged text h.read h.reads) h.plain
