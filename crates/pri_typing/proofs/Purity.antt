-- A file without applications poses a pure problem, and no other file does.
use Rattle.std.proofs.Common.{◌≡◌, ◌↔◌, ℕ, ◌+◌, List, [], ◌∷◌, ◌++◌, length, Option, Some, None, refl, sym, ap, subst, ◌∙◌, arith, nat_eq, if◌then◌else◌}
use Rattle.pri_reader.specs.declared.tree.Name.{Name}
use Rattle.pri_reader.specs.declared.tree.File.{File}
use Rattle.form_typed.specs.Formula.{Expressions}
use Rattle.pri_typing.specs.declared.problem.Problem.{Problem}
use Rattle.pri_typing.specs.declared.problem.TypeRefusal.TheVariants.{Arity}
use Rattle.pri_typing.specs.declared.scope.Category.TheVariants as category
use Rattle.pri_typing.specs.declared.scope.Referent.{Referent}
use Rattle.pri_typing.specs.declared.scope.Referent.TheVariants as referent
use Rattle.pri_typing.specs.Phrase.{Phrase, number, truth, used, group, choice, absolute, lesser, greater, minus, product, sum, compared, negation, quantified, part, conjunction, disjunction, implication, equivalence, Phrases, no_phrase, and_phrase, Addends, no_addend, and_addend, first_token, count}
use Rattle.pri_typing.specs.Scope.{Scope, inside, refers, declarations}
use Rattle.pri_typing.specs.Sorts.{sorts_of}
use Rattle.pri_typing.specs.Faults.{faults, all_faults, addend_faults, use_faults, product_faults}
use Rattle.pri_typing.specs.Files.{declaration_faults, problem_of, scope_of, parts_faults, file_faults, has_existential, IsTyped}
use Rattle.pri_typing.specs.Typing.{says, value, members, terms, signed_terms, use_says, use_value, applications, all_applications, addend_applications, use_applies, first_of, part_names}
use Rattle.pri_typing.specs.Everywhere.{Property, Everywhere, AllEverywhere, TermEverywhere, TermsEverywhere}
use Rattle.pri_typing.specs.Problems.{IsNoPredicate, IsNoCall, IsPure}
use Rattle.pri_typing.proofs.Everywhere.{IsLax, AnySort, any_sorts, under, with_sign, beneath, without_sign}
use Rattle.pri_typing.proofs.WellFormed.{nil_cons, nil_split, same_count}

abbrev pub unapplied : Property
unapplied = record { of_formula = IsNoPredicate; of_term = IsNoCall }

lax : IsLax AnySort unapplied
lax = record { at_for_all = λ n sort f s. tt {0}; at_for_some = λ n sort f s. tt {0}; at_minus = λ n t. tt {0} }

nil_join : {A : Type 0} (xs ys : List A) → xs ≡ [] → ys ≡ [] → xs ++ ys ≡ []
nil_join xs ys e f = ap (λ z. z ++ ys) e ∙ f

-- What has no application says a formula without one.

use_formula : (n at : ℕ) (r : Option Referent) (ts : Expressions) → use_applies at r ≡ [] → TermsEverywhere unapplied n ts → Everywhere unapplied n (use_says r ts)
use_formula n at None ts e h = tt {0}
use_formula n at (Some (referent.Name x)) ts e h = tt {0}
use_formula n at (Some (referent.Function f m)) ts e h = tt {0}
use_formula n at (Some (referent.Predicate p m)) ts e h = absurd (nil_cons _ _ e)

use_term : (n at : ℕ) (r : Option Referent) (ts : Expressions) → use_applies at r ≡ [] → TermsEverywhere unapplied n ts → TermEverywhere unapplied n (use_value r ts)
use_term n at None ts e h = tt {0}
use_term n at (Some (referent.Name x)) ts e h = tt {0}
use_term n at (Some (referent.Function f m)) ts e h = absurd (nil_cons _ _ e)
use_term n at (Some (referent.Predicate p m)) ts e h = tt {0}

mutual
  pure : (s : Scope) (n : ℕ) (p : Phrase) → applications s p ≡ [] → Everywhere unapplied n (says s p)
  pure s n (number _ v) e = tt {0}
  pure s n (truth _ b) e = tt {0}
  pure s n (used _ x ps) e =
      let none = nil_split (use_applies x.at (refers s x.text)) (all_applications s ps) e in
      use_formula n x.at (refers s x.text) (terms s ps) none.0 (terms_pure s n ps none.1)
  pure s n (group _ p) e = pure s n p e
  pure s n (choice _ c p q) e = tt {0}
  pure s n (absolute _ p) e = tt {0}
  pure s n (lesser _ p q) e = tt {0}
  pure s n (greater _ p q) e = tt {0}
  pure s n (minus _ p) e = tt {0}
  pure s n (product _ p sign q) e = tt {0}
  pure s n (sum _ p more) e = tt {0}
  pure s n (compared _ c p q) e = let none = nil_split (applications s p) (applications s q) e in (tt {0}, term_pure s n p none.0, term_pure s n q none.1)
  pure s n (negation _ p) e = (tt {0}, pure s n p e)
  pure s n (quantified _ all names p) e = under AnySort unapplied lax all (sorts_of names) n (says (inside names s) p) (any_sorts (sorts_of names)) (pure (inside names s) (n + length (sorts_of names)) p e)
  pure s n (part _ x p) e = (tt {0}, pure s n p e)
  pure s n (conjunction _ ps) e = (tt {0}, members_pure s n ps e)
  pure s n (disjunction _ ps) e = (tt {0}, members_pure s n ps e)
  pure s n (implication _ p q) e = let none = nil_split (applications s p) (applications s q) e in (tt {0}, pure s n p none.0, pure s n q none.1)
  pure s n (equivalence _ p q) e = let none = nil_split (applications s p) (applications s q) e in (tt {0}, pure s n p none.0, pure s n q none.1)

  term_pure : (s : Scope) (n : ℕ) (p : Phrase) → applications s p ≡ [] → TermEverywhere unapplied n (value s p)
  term_pure s n (number _ v) e = tt {0}
  term_pure s n (truth _ b) e = tt {0}
  term_pure s n (used _ x ps) e =
      let none = nil_split (use_applies x.at (refers s x.text)) (all_applications s ps) e in
      use_term n x.at (refers s x.text) (terms s ps) none.0 (terms_pure s n ps none.1)
  term_pure s n (group _ p) e = term_pure s n p e
  term_pure s n (choice _ c p q) e =
      let none = nil_split (applications s c ++ applications s p) (applications s q) e in
      let front = nil_split (applications s c) (applications s p) none.0 in
      (tt {0}, pure s n c front.0, term_pure s n p front.1, term_pure s n q none.1)
  term_pure s n (absolute _ p) e = (tt {0}, term_pure s n p e)
  term_pure s n (lesser _ p q) e = let none = nil_split (applications s p) (applications s q) e in (tt {0}, term_pure s n p none.0, term_pure s n q none.1)
  term_pure s n (greater _ p q) e = let none = nil_split (applications s p) (applications s q) e in (tt {0}, term_pure s n p none.0, term_pure s n q none.1)
  term_pure s n (minus _ p) e = (tt {0}, term_pure s n p e)
  term_pure s n (product _ p sign q) e = let none = nil_split (applications s p) (applications s q) e in (tt {0}, term_pure s n p none.0, term_pure s n q none.1)
  term_pure s n (sum _ p more) e =
      let none = nil_split (applications s p) (addend_applications s more) e in
      (tt {0}, (term_pure s n p none.0, addends_pure s n more none.1))
  term_pure s n (compared _ c p q) e = tt {0}
  term_pure s n (negation _ p) e = tt {0}
  term_pure s n (quantified _ all names p) e = tt {0}
  term_pure s n (part _ x p) e = tt {0}
  term_pure s n (conjunction _ ps) e = tt {0}
  term_pure s n (disjunction _ ps) e = tt {0}
  term_pure s n (implication _ p q) e = tt {0}
  term_pure s n (equivalence _ p q) e = tt {0}

  members_pure : (s : Scope) (n : ℕ) (ps : Phrases) → all_applications s ps ≡ [] → AllEverywhere unapplied n (members s ps)
  members_pure s n no_phrase e = tt {0}
  members_pure s n (and_phrase p ps) e = let none = nil_split (applications s p) (all_applications s ps) e in (pure s n p none.0, members_pure s n ps none.1)

  terms_pure : (s : Scope) (n : ℕ) (ps : Phrases) → all_applications s ps ≡ [] → TermsEverywhere unapplied n (terms s ps)
  terms_pure s n no_phrase e = tt {0}
  terms_pure s n (and_phrase p ps) e = let none = nil_split (applications s p) (all_applications s ps) e in (term_pure s n p none.0, terms_pure s n ps none.1)

  addends_pure : (s : Scope) (n : ℕ) (more : Addends) → addend_applications s more ≡ [] → TermsEverywhere unapplied n (signed_terms s more)
  addends_pure s n no_addend e = tt {0}
  addends_pure s n (and_addend sign p more) e =
      let none = nil_split (applications s p) (addend_applications s more) e in
      (with_sign AnySort unapplied lax n sign (value s p) (term_pure s n p none.0), addends_pure s n more none.1)

-- What says a formula without an application has none, where it has no faults.

no_arguments : (s : Scope) (ps : Phrases) → count ps ≡ 0 → all_applications s ps ≡ []
no_arguments s no_phrase e = refl
no_arguments s (and_phrase p ps) e = absurd (omega (arith, e))

formula_used : (s : Scope) (at n : ℕ) (x : Name) (ps : Phrases) (r : Option Referent) → use_faults category.Formula at x.at (count ps) r ≡ []
    → Everywhere unapplied n (use_says r (terms s ps)) → use_applies x.at r ++ all_applications s ps ≡ []
formula_used s at n x ps None e h = absurd (nil_cons _ _ e)
formula_used s at n x ps (Some (referent.Name y)) e h = absurd (nil_cons _ _ (nil_split (if nat_eq (count ps) 0 then [] else Arity x.at ∷ []) _ e).1)
formula_used s at n x ps (Some (referent.Function f m)) e h = absurd (nil_cons _ _ (nil_split (if nat_eq (count ps) m then [] else Arity x.at ∷ []) _ e).1)
formula_used s at n x ps (Some (referent.Predicate p m)) e h = absurd h.0

term_used : (s : Scope) (at n : ℕ) (x : Name) (ps : Phrases) (r : Option Referent) → use_faults category.Term at x.at (count ps) r ≡ []
    → TermEverywhere unapplied n (use_value r (terms s ps)) → use_applies x.at r ++ all_applications s ps ≡ []
term_used s at n x ps None e h = absurd (nil_cons _ _ e)
term_used s at n x ps (Some (referent.Name y)) e h = no_arguments s ps (same_count (count ps) 0 x.at (nil_split (if nat_eq (count ps) 0 then [] else Arity x.at ∷ []) [] e).0)
term_used s at n x ps (Some (referent.Function f m)) e h = absurd h.0
term_used s at n x ps (Some (referent.Predicate p m)) e h = absurd (nil_cons _ _ (nil_split (if nat_eq (count ps) m then [] else Arity x.at ∷ []) _ e).1)

mutual
  applied : (s : Scope) (at n : ℕ) (p : Phrase) → faults s category.Formula at p ≡ [] → Everywhere unapplied n (says s p) → applications s p ≡ []
  applied s at n (number _ v) e h = refl
  applied s at n (truth _ b) e h = refl
  applied s at n (used _ x ps) e h =
      let free = nil_split (use_faults category.Formula at x.at (count ps) (refers s x.text)) (all_faults s category.Term ps) e in
      formula_used s at n x ps (refers s x.text) free.0 h
  applied s at n (group _ p) e h = applied s at n p e h
  applied s at n (choice _ c p q) e h = absurd (nil_cons _ _ e)
  applied s at n (absolute _ p) e h = absurd (nil_cons _ _ e)
  applied s at n (lesser _ p q) e h = absurd (nil_cons _ _ e)
  applied s at n (greater _ p q) e h = absurd (nil_cons _ _ e)
  applied s at n (minus _ p) e h = absurd (nil_cons _ _ e)
  applied s at n (product _ p sign q) e h = absurd (nil_cons _ _ e)
  applied s at n (sum _ p more) e h = absurd (nil_cons _ _ e)
  applied s at n (compared _ c p q) e h =
      let free = nil_split (faults s category.Term (first_token p) p) (faults s category.Term (first_token q) q) e in
      nil_join (applications s p) (applications s q) (term_applied s (first_token p) n p free.0 h.1) (term_applied s (first_token q) n q free.1 h.2)
  applied s at n (negation _ p) e h = applied s (first_token p) n p e h.1
  applied s at n (quantified _ all names p) e h =
      applied (inside names s) (first_token p) (n + length (sorts_of names)) p e (beneath unapplied all (sorts_of names) n (says (inside names s) p) h)
  applied s at n (part _ x p) e h = applied s (first_token p) n p e h.1
  applied s at n (conjunction _ ps) e h = members_applied s n ps e h.1
  applied s at n (disjunction _ ps) e h = members_applied s n ps e h.1
  applied s at n (implication _ p q) e h =
      let free = nil_split (faults s category.Formula (first_token p) p) (faults s category.Formula (first_token q) q) e in
      nil_join (applications s p) (applications s q) (applied s (first_token p) n p free.0 h.1) (applied s (first_token q) n q free.1 h.2)
  applied s at n (equivalence _ p q) e h =
      let free = nil_split (faults s category.Formula (first_token p) p) (faults s category.Formula (first_token q) q) e in
      nil_join (applications s p) (applications s q) (applied s (first_token p) n p free.0 h.1) (applied s (first_token q) n q free.1 h.2)

  term_applied : (s : Scope) (at n : ℕ) (p : Phrase) → faults s category.Term at p ≡ [] → TermEverywhere unapplied n (value s p) → applications s p ≡ []
  term_applied s at n (number _ v) e h = refl
  term_applied s at n (truth _ b) e h = refl
  term_applied s at n (used _ x ps) e h =
      let free = nil_split (use_faults category.Term at x.at (count ps) (refers s x.text)) (all_faults s category.Term ps) e in
      term_used s at n x ps (refers s x.text) free.0 h
  term_applied s at n (group _ p) e h = term_applied s at n p e h
  term_applied s at n (choice _ c p q) e h =
      let free = nil_split (faults s category.Formula (first_token c) c ++ faults s category.Term (first_token p) p) (faults s category.Term (first_token q) q) e in
      let front = nil_split (faults s category.Formula (first_token c) c) (faults s category.Term (first_token p) p) free.0 in
      nil_join (applications s c ++ applications s p) (applications s q)
      (nil_join (applications s c) (applications s p) (applied s (first_token c) n c front.0 h.1) (term_applied s (first_token p) n p front.1 h.2))
      (term_applied s (first_token q) n q free.1 h.3)
  term_applied s at n (absolute _ p) e h = term_applied s (first_token p) n p e h.1
  term_applied s at n (lesser _ p q) e h =
      let free = nil_split (faults s category.Term (first_token p) p) (faults s category.Term (first_token q) q) e in
      nil_join (applications s p) (applications s q) (term_applied s (first_token p) n p free.0 h.1) (term_applied s (first_token q) n q free.1 h.2)
  term_applied s at n (greater _ p q) e h =
      let free = nil_split (faults s category.Term (first_token p) p) (faults s category.Term (first_token q) q) e in
      nil_join (applications s p) (applications s q) (term_applied s (first_token p) n p free.0 h.1) (term_applied s (first_token q) n q free.1 h.2)
  term_applied s at n (minus _ p) e h = term_applied s (first_token p) n p e h.1
  term_applied s at n (product _ p sign q) e h =
      let free = nil_split (product_faults p sign q ++ faults s category.Term (first_token p) p) (faults s category.Term (first_token q) q) e in
      let front = nil_split (product_faults p sign q) (faults s category.Term (first_token p) p) free.0 in
      nil_join (applications s p) (applications s q) (term_applied s (first_token p) n p front.1 h.1) (term_applied s (first_token q) n q free.1 h.2)
  term_applied s at n (sum _ p more) e h =
      let free = nil_split (faults s category.Term (first_token p) p) (addend_faults s more) e in
      nil_join (applications s p) (addend_applications s more) (term_applied s (first_token p) n p free.0 h.1.0) (addends_applied s n more free.1 h.1.1)
  term_applied s at n (compared _ c p q) e h = absurd (nil_cons _ _ e)
  term_applied s at n (negation _ p) e h = absurd (nil_cons _ _ e)
  term_applied s at n (quantified _ all names p) e h = absurd (nil_cons _ _ e)
  term_applied s at n (part _ x p) e h = absurd (nil_cons _ _ e)
  term_applied s at n (conjunction _ ps) e h = absurd (nil_cons _ _ e)
  term_applied s at n (disjunction _ ps) e h = absurd (nil_cons _ _ e)
  term_applied s at n (implication _ p q) e h = absurd (nil_cons _ _ e)
  term_applied s at n (equivalence _ p q) e h = absurd (nil_cons _ _ e)

  members_applied : (s : Scope) (n : ℕ) (ps : Phrases) → all_faults s category.Formula ps ≡ [] → AllEverywhere unapplied n (members s ps) → all_applications s ps ≡ []
  members_applied s n no_phrase e h = refl
  members_applied s n (and_phrase p ps) e h =
      let free = nil_split (faults s category.Formula (first_token p) p) (all_faults s category.Formula ps) e in
      nil_join (applications s p) (all_applications s ps) (applied s (first_token p) n p free.0 h.0) (members_applied s n ps free.1 h.1)

  addends_applied : (s : Scope) (n : ℕ) (more : Addends) → addend_faults s more ≡ [] → TermsEverywhere unapplied n (signed_terms s more) → addend_applications s more ≡ []
  addends_applied s n no_addend e h = refl
  addends_applied s n (and_addend sign p more) e h =
      let free = nil_split (faults s category.Term (first_token p) p) (addend_faults s more) e in
      nil_join (applications s p) (addend_applications s more)
      (term_applied s (first_token p) n p free.0 (without_sign unapplied n sign (value s p) h.0)) (addends_applied s n more free.1 h.1)

-- Problems.

first_none : (xs : List ℕ) → first_of xs ≡ None → xs ≡ []
first_none [] e = refl
first_none (x ∷ xs) e = absurd cc

-- a problem has a first application exactly where it is not pure
pub first_pure : (f : File) (p : Problem) → file_faults f ≡ [] → IsTyped f p → (p.first_application ≡ None) ↔ IsPure p
first_pure f p e t =
    let q = problem_of f.blocks in
    let s = scope_of f.blocks in
    let ds = declarations f.blocks in
    let own = faults s category.Formula (first_token q) q in
    let front = nil_split (declaration_faults [] ds ++ own) (parts_faults (part_names q) (has_existential ds) f.blocks q) e in
    let free = nil_split (declaration_faults [] ds) own front.0 in (
      λ none. subst (Everywhere unapplied 0) (sym t.formula) (pure s 0 q (first_none (applications s q) (sym t.first_application ∙ none))),
      λ h. t.first_application ∙ ap first_of (applied s (first_token q) 0 q free.1 (subst (Everywhere unapplied 0) t.formula h)),
    )
