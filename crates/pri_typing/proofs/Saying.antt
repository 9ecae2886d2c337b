-- A phrase has the same faults, and says the same, wherever its names stand for the same.
use Rattle.std.proofs.Common.{◌≡◌, ℕ, ◌+◌, List, [], ◌++◌, Option, Some, None, refl, sym, ap, ◌∙◌}
use Rattle.pri_tokens.specs.Lexemes.{lexemes_of}
use Rattle.pri_reader.specs.declared.tree.Declared.{Declared}
use Rattle.pri_reader.specs.declared.tree.Expr.{Expr}
use Rattle.pri_reader.specs.declared.tree.File.{File}
use Rattle.pri_reader.specs.Grammar.{Derives, whole}
use Rattle.form_typed.specs.Formula as logic
use Rattle.pri_typing.specs.declared.problem.Problem.{Problem}
use Rattle.pri_typing.specs.declared.scope.Category.{Category}
use Rattle.pri_typing.specs.declared.scope.Category.TheVariants as category
use Rattle.pri_typing.specs.declared.scope.Referent.TheVariants as referent
use Rattle.pri_typing.specs.Phrase.{Phrase, phrase, number, truth, used, group, choice, absolute, lesser, greater, minus, product, sum, compared, negation, quantified, part, conjunction, disjunction, implication, equivalence, Phrases, no_phrase, and_phrase, Addends, no_addend, and_addend, first_token, count}
use Rattle.base_texts.specs.Texts.{place}
use Rattle.pri_typing.specs.Scope.{Scope, inside, bind, refers, constants, declarations, depth_of, declared_from, bound_or_declared}
use Rattle.pri_typing.specs.Sorts.{sorts_of}
use Rattle.pri_typing.specs.Faults.{faults, all_faults, addend_faults, use_faults, needs, product_faults}
use Rattle.pri_typing.specs.Typing.{says, value, members, terms, signed_terms, use_says, use_value, signed, relation_of, quantifiers, part_names}
use Rattle.pri_typing.specs.Files.{declaration_faults, problem_of, scope_of, parts_faults, file_faults, has_existential, IsTyped}
use Rattle.pri_typing.specs.Problems.{Says, scope_of_problem, text_setting}
use Rattle.pri_typing.proofs.WellFormed.{nil_split}
use Rattle.pri_typing.proofs.Standing.{stands_same, same_constants}

-- a name stands for the same in both, whatever is bound
pub record AreAlike (s t : Scope) : Type 0 where
  pub bound_is : s.bound ≡ t.bound
  pub parts_are : s.parts ≡ t.parts
  pub constants_are : constants s.declared ≡ constants t.declared
  pub free : (text : List ℕ) → bound_or_declared s.declared None (declared_from [] text s.declared) ≡ bound_or_declared t.declared None (declared_from [] text t.declared)

refers_alike : (s t : Scope) → AreAlike s t → (text : List ℕ) → refers s text ≡ refers t text
refers_alike s t a text = by (depth_of text s.bound) ∙ ap (λ z. bound_or_declared t.declared (depth_of text z) (declared_from [] text t.declared)) a.bound_is
  where
    by : (o : Option ℕ) → bound_or_declared s.declared o (declared_from [] text s.declared) ≡ bound_or_declared t.declared o (declared_from [] text t.declared)
    by (Some depth) = ap (λ n. Some (referent.Name (n + depth))) a.constants_are
    by None = a.free text

inside_alike : (names : List Declared) (s t : Scope) → AreAlike s t → AreAlike (inside names s) (inside names t)
inside_alike names s t a = record { bound_is = ap (bind names) a.bound_is; parts_are = a.parts_are; constants_are = a.constants_are; free = a.free }

both : {A : Type 0} {a b c d : List A} → a ≡ b → c ≡ d → a ++ c ≡ b ++ d
both {b = b} {c = c} p q = ap (λ z. z ++ c) p ∙ ap (λ z. b ++ z) q

mutual
  same_faults : (s t : Scope) → AreAlike s t → (want : Category) (at : ℕ) (p : Phrase) → faults s want at p ≡ faults t want at p
  same_faults s t a want at (number _ n) = refl
  same_faults s t a want at (truth _ b) = refl
  same_faults s t a want at (used _ x ps) = both (ap (use_faults want at x.at (count ps)) (refers_alike s t a x.text)) (all_same s t a category.Term ps)
  same_faults s t a want at (group _ p) = same_faults s t a want at p
  same_faults s t a want at (choice _ c p q) =
      both (both (ap (λ z. needs want category.Term at ++ z) (same_faults s t a category.Formula (first_token c) c)) (same_faults s t a category.Term (first_token p) p)) (same_faults s t a category.Term (first_token q) q)
  same_faults s t a want at (absolute _ p) = ap (λ z. needs want category.Term at ++ z) (same_faults s t a category.Term (first_token p) p)
  same_faults s t a want at (lesser _ p q) =
      both (ap (λ z. needs want category.Term at ++ z) (same_faults s t a category.Term (first_token p) p)) (same_faults s t a category.Term (first_token q) q)
  same_faults s t a want at (greater _ p q) =
      both (ap (λ z. needs want category.Term at ++ z) (same_faults s t a category.Term (first_token p) p)) (same_faults s t a category.Term (first_token q) q)
  same_faults s t a want at (minus _ p) = ap (λ z. needs want category.Term at ++ z) (same_faults s t a category.Term (first_token p) p)
  same_faults s t a want at (product _ p sign q) =
      both (ap (λ z. needs want category.Term at ++ product_faults p sign q ++ z) (same_faults s t a category.Term (first_token p) p)) (same_faults s t a category.Term (first_token q) q)
  same_faults s t a want at (sum _ p more) =
      both (ap (λ z. needs want category.Term at ++ z) (same_faults s t a category.Term (first_token p) p)) (added_same s t a more)
  same_faults s t a want at (compared _ c p q) =
      both (ap (λ z. needs want category.Formula at ++ z) (same_faults s t a category.Term (first_token p) p)) (same_faults s t a category.Term (first_token q) q)
  same_faults s t a want at (negation _ p) = ap (λ z. needs want category.Formula at ++ z) (same_faults s t a category.Formula (first_token p) p)
  same_faults s t a want at (quantified _ all names p) =
      ap (λ z. needs want category.Formula at ++ z) (same_faults (inside names s) (inside names t) (inside_alike names s t a) category.Formula (first_token p) p)
  same_faults s t a want at (part _ x p) = ap (λ z. needs want category.Formula at ++ z) (same_faults s t a category.Formula (first_token p) p)
  same_faults s t a want at (conjunction _ ps) = ap (λ z. needs want category.Formula at ++ z) (all_same s t a category.Formula ps)
  same_faults s t a want at (disjunction _ ps) = ap (λ z. needs want category.Formula at ++ z) (all_same s t a category.Formula ps)
  same_faults s t a want at (implication _ p q) =
      both (ap (λ z. needs want category.Formula at ++ z) (same_faults s t a category.Formula (first_token p) p)) (same_faults s t a category.Formula (first_token q) q)
  same_faults s t a want at (equivalence _ p q) =
      both (ap (λ z. needs want category.Formula at ++ z) (same_faults s t a category.Formula (first_token p) p)) (same_faults s t a category.Formula (first_token q) q)

  all_same : (s t : Scope) → AreAlike s t → (want : Category) (ps : Phrases) → all_faults s want ps ≡ all_faults t want ps
  all_same s t a want no_phrase = refl
  all_same s t a want (and_phrase p ps) = both (same_faults s t a want (first_token p) p) (all_same s t a want ps)

  added_same : (s t : Scope) → AreAlike s t → (more : Addends) → addend_faults s more ≡ addend_faults t more
  added_same s t a no_addend = refl
  added_same s t a (and_addend sign p more) = both (same_faults s t a category.Term (first_token p) p) (added_same s t a more)

two : {A B C : Type 0} (f : A → B → C) {a b : A} {c d : B} → a ≡ b → c ≡ d → f a c ≡ f b d
two f {b = b} {c = c} p q = ap (λ z. f z c) p ∙ ap (f b) q

mutual
  same_says : (s t : Scope) → AreAlike s t → (p : Phrase) → says s p ≡ says t p
  same_says s t a (number _ n) = refl
  same_says s t a (truth _ b) = refl
  same_says s t a (used _ x ps) = two use_says (refers_alike s t a x.text) (same_terms s t a ps)
  same_says s t a (group _ p) = same_says s t a p
  same_says s t a (choice _ c p q) = refl
  same_says s t a (absolute _ p) = refl
  same_says s t a (lesser _ p q) = refl
  same_says s t a (greater _ p q) = refl
  same_says s t a (minus _ p) = refl
  same_says s t a (product _ p sign q) = refl
  same_says s t a (sum _ p more) = refl
  same_says s t a (compared _ c p q) = two (logic.compares (relation_of c)) (same_value s t a p) (same_value s t a q)
  same_says s t a (negation _ p) = ap logic.negation (same_says s t a p)
  same_says s t a (quantified _ all names p) = ap (quantifiers all (sorts_of names)) (same_says (inside names s) (inside names t) (inside_alike names s t a) p)
  same_says s t a (part _ x p) = two logic.part (ap (place x.text) a.parts_are) (same_says s t a p)
  same_says s t a (conjunction _ ps) = ap logic.every (same_members s t a ps)
  same_says s t a (disjunction _ ps) = ap logic.some (same_members s t a ps)
  same_says s t a (implication _ p q) = two logic.implies (same_says s t a p) (same_says s t a q)
  same_says s t a (equivalence _ p q) = two logic.iff (same_says s t a p) (same_says s t a q)

  same_value : (s t : Scope) → AreAlike s t → (p : Phrase) → value s p ≡ value t p
  same_value s t a (number _ n) = refl
  same_value s t a (truth _ b) = refl
  same_value s t a (used _ x ps) = two use_value (refers_alike s t a x.text) (same_terms s t a ps)
  same_value s t a (group _ p) = same_value s t a p
  same_value s t a (choice _ c p q) = ap (λ z. logic.choice z (value s p) (value s q)) (same_says s t a c) ∙ two (logic.choice (says t c)) (same_value s t a p) (same_value s t a q)
  same_value s t a (absolute _ p) = ap logic.absolute (same_value s t a p)
  same_value s t a (lesser _ p q) = two logic.lesser (same_value s t a p) (same_value s t a q)
  same_value s t a (greater _ p q) = two logic.greater (same_value s t a p) (same_value s t a q)
  same_value s t a (minus _ p) = ap logic.minus (same_value s t a p)
  same_value s t a (product _ p sign q) = two logic.product (same_value s t a p) (same_value s t a q)
  same_value s t a (sum _ p more) = ap logic.total (two logic.and_expression (same_value s t a p) (same_added s t a more))
  same_value s t a (compared _ c p q) = refl
  same_value s t a (negation _ p) = refl
  same_value s t a (quantified _ all names p) = refl
  same_value s t a (part _ x p) = refl
  same_value s t a (conjunction _ ps) = refl
  same_value s t a (disjunction _ ps) = refl
  same_value s t a (implication _ p q) = refl
  same_value s t a (equivalence _ p q) = refl

  same_members : (s t : Scope) → AreAlike s t → (ps : Phrases) → members s ps ≡ members t ps
  same_members s t a no_phrase = refl
  same_members s t a (and_phrase p ps) = two logic.and_formula (same_says s t a p) (same_members s t a ps)

  same_terms : (s t : Scope) → AreAlike s t → (ps : Phrases) → terms s ps ≡ terms t ps
  same_terms s t a no_phrase = refl
  same_terms s t a (and_phrase p ps) = two logic.and_expression (same_value s t a p) (same_terms s t a ps)

  same_added : (s t : Scope) → AreAlike s t → (more : Addends) → signed_terms s more ≡ signed_terms t more
  same_added s t a no_addend = refl
  same_added s t a (and_addend sign p more) = two logic.and_expression (ap (signed sign) (same_value s t a p)) (same_added s t a more)

-- What a text says that is derived as the formula of a file's problem.

alike : (f : File) (p : Problem) → declaration_faults [] (declarations f.blocks) ≡ [] → IsTyped f p → AreAlike (scope_of_problem p) (scope_of f.blocks)
alike f p e t = record { bound_is = refl; parts_are = t.parts; constants_are = same_constants f p t; free = λ text. stands_same f p text e t }

pub file_says : (f : File) (p : Problem) (text : List ℕ) (e : Expr) → file_faults f ≡ [] → IsTyped f p → phrase e ≡ problem_of f.blocks
    → Derives (text_setting text) 0 whole e (lexemes_of text) [] → Says text p (logic.formula p.formula)
file_says f p text e none t is d =
    let ds = declarations f.blocks in
    let q = problem_of f.blocks in
    let own = faults (scope_of f.blocks) category.Formula (first_token q) q in
    let front = nil_split (declaration_faults [] ds ++ own) (parts_faults (part_names q) (has_existential ds) f.blocks q) none in
    let free = nil_split (declaration_faults [] ds) own front.0 in
    let a = alike f p free.0 t in
    record {
      expression = e;
      derived = d;
      typed = ap (λ z. faults (scope_of_problem p) category.Formula (first_token z) z) is ∙ same_faults (scope_of_problem p) (scope_of f.blocks) a category.Formula (first_token q) q ∙ free.1;
      is = ap (says (scope_of_problem p)) is ∙ same_says (scope_of_problem p) (scope_of f.blocks) a q ∙ sym t.formula;
    }
