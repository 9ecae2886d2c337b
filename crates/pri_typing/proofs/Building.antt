-- The formulas and terms of lists of expressions.
use Rattle.std.proofs.Common.{◌≡◌, ℕ, zero, suc, Bool, true, false, List, [], ◌∷◌, ◌++◌, map, length, refl, sym, ap, ◌∙◌, arith, take, take_all, get_or, subst, ◌<◌, ◌≤◌, ◌^◌}
use Rattle.std.proofs.lemmas.List.{map-append}
use Rattle.form_typed.specs.Formula.{Formula, for_all, for_some, and_formula, and_expression, formula, formulas, formulas_of, expression, expressions, expressions_of}
use Rattle.pri_reader.specs.declared.tree.Expr.{Expr}
use Rattle.pri_reader.specs.declared.tree.Added.{Added}
use Rattle.pri_reader.specs.declared.tree.Declared.{Declared}
use Rattle.form_typed.specs.declared.typed.Sort.{Sort}
use Rattle.form_typed.specs.declared.typed.Typed.{Typed}
use Rattle.form_typed.specs.declared.typed.TypedTerm.{TypedTerm}
use Rattle.pri_typing.specs.declared.scope.Site.{Site}
use Rattle.pri_typing.specs.Sites.{bound_texts, most_bound}
use Rattle.base_limits.specs.Limits.{most_symbols}
use Rattle.pri_typing.specs.Limits.{IsShallow, AreShallow, AddendsAreShallow, IsReady, AreReady, AddendsAreReady, IsReadyUnder}
use Rattle.pri_typing.proofs.Scopes.{length-bind}
use Rattle.pri_typing.specs.Phrase.{Phrase, phrase, phrases_of, addend, addends_of}
use Rattle.pri_typing.specs.Scope.{Scope, bind}
use Rattle.pri_typing.specs.Sorts.{sort_of, sorts_of}
use Rattle.pri_typing.specs.Typing.{says, value, members, terms, signed, signed_terms, quantifiers}
use Rattle.pri_typing.proofs.Folds.{addend-term}

quantifiers-append : (all : Bool) (outer inner : List Sort) (f : Formula) → quantifiers all (outer ++ inner) f ≡ quantifiers all outer (quantifiers all inner f)
quantifiers-append all [] inner f = refl
quantifiers-append true (sort ∷ outer) inner f = ap (for_all sort) (quantifiers-append true outer inner f)
quantifiers-append false (sort ∷ outer) inner f = ap (for_some sort) (quantifiers-append false outer inner f)

-- the innermost name first
pub quantifiers-last : (all : Bool) (names outer : List Declared) (last : Declared) (f : Formula) → names ≡ outer ++ last ∷ []
    → quantifiers all (sorts_of outer) (quantifiers all (sort_of last.sort ∷ []) f) ≡ quantifiers all (sorts_of names) f
quantifiers-last all names outer last f e =
    sym (quantifiers-append all (sorts_of outer) (sort_of last.sort ∷ []) f) ∙ ap (λ z. quantifiers all z f) (sym (map-append (λ d. sort_of d.sort) outer (last ∷ [])) ∙ ap sorts_of (sym e))

-- what lists of expressions say, one after another
pub members_are : (s : Scope) (es : List Expr) → members s (phrases_of es) ≡ formulas (map (λ e. says s (phrase e)) es)
members_are s [] = refl
members_are s (e ∷ es) = ap (and_formula (says s (phrase e))) (members_are s es)

pub terms_are : (s : Scope) (es : List Expr) → terms s (phrases_of es) ≡ expressions (map (λ e. value s (phrase e)) es)
terms_are s [] = refl
terms_are s (e ∷ es) = ap (and_expression (value s (phrase e))) (terms_are s es)

pub signed_terms_are : (s : Scope) (more : List Added) → signed_terms s (addends_of more) ≡ expressions (map (λ a. signed a.minus (value s (phrase a.term))) more)
signed_terms_are s [] = refl
signed_terms_are s (a ∷ more) = ap (and_expression (signed (addend a).is_minus (value s (addend a).term))) (signed_terms_are s more)
    ∙ ap (λ b. and_expression (signed b.is_minus (value s b.term)) (expressions (map (λ a. signed a.minus (value s (phrase a.term))) more))) (addend-term a)

pub members_from : (s : Scope) (out : List Typed) (es : List Expr) (i : ℕ) → length es ≤ i
    → map formula out ≡ map (λ e. says s (phrase e)) (take i es) → formulas_of out ≡ members s (phrases_of es)
members_from s out es i h k = ap formulas (k ∙ ap (map (λ e. says s (phrase e))) (take_all i es h)) ∙ sym (members_are s es)

pub terms_from : (s : Scope) (out : List TypedTerm) (es : List Expr) (i : ℕ) → length es ≤ i
    → map expression out ≡ map (λ e. value s (phrase e)) (take i es) → expressions_of out ≡ terms s (phrases_of es)
terms_from s out es i h k = ap expressions (k ∙ ap (map (λ e. value s (phrase e))) (take_all i es h)) ∙ sym (terms_are s es)

pub sum_from : (s : Scope) (out : List TypedTerm) (first : TypedTerm) (more : List Added) (i : ℕ) → length more ≤ i
    → map expression out ≡ expression first ∷ map (λ a. signed a.minus (value s (phrase a.term))) (take i more)
    → expressions_of out ≡ and_expression (expression first) (signed_terms s (addends_of more))
sum_from s out first more i h k =
    ap expressions (k ∙ ap (λ z. expression first ∷ map (λ a. signed a.minus (value s (phrase a.term))) z) (take_all i more h))
    ∙ ap (and_expression (expression first)) (sym (signed_terms_are s more))

-- each expression of a list is ready where all are
shallow_member : (n : ℕ) (es : List Expr) (i : ℕ) (d : Expr) → AreShallow n (phrases_of es) → i < length es → IsShallow n (phrase (get_or es i d))
shallow_member n [] i d h k = absurd (omega (arith, k))
shallow_member n (e ∷ es) zero d h k = h.0
shallow_member n (e ∷ es) (suc i) d h k = shallow_member n es i d h.1 (omega (arith, k))

pub ready_member : (here : Site) (es : List Expr) (i : ℕ) (d : Expr) → AreReady here (phrases_of es) → i < length es → IsReady here (phrase (get_or es i d))
ready_member here es i d h k = record { fit = h.fit; shallow = shallow_member (length (bound_texts here.bound.now)) es i d h.shallow k }

shallow_addend : (n : ℕ) (more : List Added) (i : ℕ) (d : Added) → AddendsAreShallow n (addends_of more) → i < length more → IsShallow n (phrase (get_or more i d).term)
shallow_addend n [] i d h k = absurd (omega (arith, k))
shallow_addend n (a ∷ more) zero d h k = subst (λ b. IsShallow n b.term) (addend-term a) h.0
shallow_addend n (a ∷ more) (suc i) d h k = shallow_addend n more i d h.1 (omega (arith, k))

pub ready_addend : (here : Site) (more : List Added) (i : ℕ) (d : Added) → AddendsAreReady here (addends_of more) → i < length more → IsReady here (phrase (get_or more i d).term)
ready_addend here more i d h k = record { fit = h.fit; shallow = shallow_addend (length (bound_texts here.bound.now)) more i d h.shallow k }

-- a body is ready under its quantifier
pub ready_body : (here inner : Site) (names : List Declared) (p : Phrase) → IsReadyUnder here names p
    → inner.symbols.now ≡ here.symbols.now → inner.parts.now ≡ here.parts.now → bound_texts inner.bound.now ≡ bind names (bound_texts here.bound.now) → IsReady inner p
ready_body here inner names p h e f g =
    let deeper = ap length g ∙ length-bind names (bound_texts here.bound.now) in
    record {
      fit = record {
        few = subst (λ z. length z ≤ most_symbols) (sym e) h.fit.few;
        countable = subst (λ z. length z < 2 ^ 32) (sym f) h.fit.countable;
        shallow = subst (λ z. z ≤ most_bound) (sym deeper) h.bindable;
      };
      shallow = subst (λ z. IsShallow z p) (sym deeper) h.shallow;
    }
