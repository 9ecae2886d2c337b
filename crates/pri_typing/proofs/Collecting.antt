-- Parts and applications of lists of expressions, and of the last one.
use Rattle.std.proofs.Common.{◌≡◌, ℕ, suc, ◌+◌, ◌<◌, List, [], ◌∷◌, ◌++◌, map, length, Option, Some, None, refl, sym, ap, ◌∙◌, append_assoc, take, get_or}
use Rattle.std.proofs.lemmas.List.{append-nil, map-append, take_more}
use Rattle.std.specs.Option.{option_or}
use Rattle.pri_reader.specs.declared.tree.Expr.{Expr}
use Rattle.pri_reader.specs.declared.tree.Added.{Added}
use Rattle.pri_reader.specs.declared.tree.Name.{Name}
use Rattle.pri_typing.specs.Phrase.{Phrase, phrase, phrases, phrases_of, Addend, addend, addends, addends_of}
use Rattle.base_texts.specs.Texts.{with_text}
use Rattle.pri_typing.specs.Scope.{Scope}
use Rattle.pri_typing.specs.Typing.{parts_in, all_parts, addend_parts, applications, all_applications, addend_applications, first_of, distinct_from}
use Rattle.pri_typing.proofs.Folds.{addend-term}

all_parts-phrases : (ps : List Phrase) (p : Phrase) → all_parts (phrases (ps ++ p ∷ [])) ≡ all_parts (phrases ps) ++ parts_in p
all_parts-phrases [] p = append-nil (parts_in p)
all_parts-phrases (q ∷ ps) p = ap (λ z. parts_in q ++ z) (all_parts-phrases ps p) ∙ sym (append_assoc (parts_in q) (all_parts (phrases ps)) (parts_in p))

pub all_parts-take : (es : List Expr) (i : ℕ) (e : Expr) → i < length es
    → all_parts (phrases_of (take (i + 1) es)) ≡ all_parts (phrases_of (take i es)) ++ parts_in (phrase (get_or es i e))
all_parts-take es i e h = ap (λ z. all_parts (phrases_of z)) (take_more es i e h)
    ∙ ap (λ z. all_parts (phrases z)) (map-append phrase (take i es) (get_or es i e ∷ [])) ∙ all_parts-phrases (map phrase (take i es)) (phrase (get_or es i e))

addend_parts-addends : (more : List Addend) (a : Addend) → addend_parts (addends (more ++ a ∷ [])) ≡ addend_parts (addends more) ++ parts_in a.term
addend_parts-addends [] a = append-nil (parts_in a.term)
addend_parts-addends (b ∷ more) a =
    ap (λ z. parts_in b.term ++ z) (addend_parts-addends more a) ∙ sym (append_assoc (parts_in b.term) (addend_parts (addends more)) (parts_in a.term))

pub addend_parts-take : (more : List Added) (i : ℕ) (a : Added) → i < length more
    → addend_parts (addends_of (take (i + 1) more)) ≡ addend_parts (addends_of (take i more)) ++ parts_in (phrase (get_or more i a).term)
addend_parts-take more i a h = ap (λ z. addend_parts (addends_of z)) (take_more more i a h)
    ∙ ap (λ z. addend_parts (addends z)) (map-append addend (take i more) (get_or more i a ∷ []))
    ∙ addend_parts-addends (map addend (take i more)) (addend (get_or more i a))
    ∙ ap (λ z. addend_parts (addends_of (take i more)) ++ parts_in z.term) (addend-term (get_or more i a))

pub ruleset collecting = (append_assoc, append-nil, all_parts-take, addend_parts-take)

-- the first of two lists
pub first_of-append : (xs ys : List ℕ) → first_of (xs ++ ys) ≡ option_or (first_of xs) (first_of ys)
first_of-append [] ys = refl
first_of-append (x ∷ xs) ys = refl

all_applications-phrases : (s : Scope) (ps : List Phrase) (p : Phrase) → all_applications s (phrases (ps ++ p ∷ [])) ≡ all_applications s (phrases ps) ++ applications s p
all_applications-phrases s [] p = append-nil (applications s p)
all_applications-phrases s (q ∷ ps) p =
    ap (λ z. applications s q ++ z) (all_applications-phrases s ps p) ∙ sym (append_assoc (applications s q) (all_applications s (phrases ps)) (applications s p))

pub all_applications-take : (s : Scope) (es : List Expr) (i : ℕ) (e : Expr) → i < length es
    → first_of (all_applications s (phrases_of (take (i + 1) es))) ≡ option_or (first_of (all_applications s (phrases_of (take i es)))) (first_of (applications s (phrase (get_or es i e))))
all_applications-take s es i e h = ap (λ z. first_of (all_applications s (phrases_of z))) (take_more es i e h)
    ∙ ap (λ z. first_of (all_applications s (phrases z))) (map-append phrase (take i es) (get_or es i e ∷ []))
    ∙ ap first_of (all_applications-phrases s (map phrase (take i es)) (phrase (get_or es i e)))
    ∙ first_of-append (all_applications s (phrases_of (take i es))) (applications s (phrase (get_or es i e)))

addend_applications-addends : (s : Scope) (more : List Addend) (a : Addend)
    → addend_applications s (addends (more ++ a ∷ [])) ≡ addend_applications s (addends more) ++ applications s a.term
addend_applications-addends s [] a = append-nil (applications s a.term)
addend_applications-addends s (b ∷ more) a =
    ap (λ z. applications s b.term ++ z) (addend_applications-addends s more a)
    ∙ sym (append_assoc (applications s b.term) (addend_applications s (addends more)) (applications s a.term))

pub addend_applications-take : (s : Scope) (more : List Added) (i : ℕ) (a : Added) → i < length more
    → first_of (addend_applications s (addends_of (take (i + 1) more)))
    ≡ option_or (first_of (addend_applications s (addends_of (take i more)))) (first_of (applications s (phrase (get_or more i a).term)))
addend_applications-take s more i a h = ap (λ z. first_of (addend_applications s (addends_of z))) (take_more more i a h)
    ∙ ap (λ z. first_of (addend_applications s (addends z))) (map-append addend (take i more) (get_or more i a ∷ []))
    ∙ ap first_of (addend_applications-addends s (map addend (take i more)) (addend (get_or more i a)))
    ∙ ap (λ z. first_of (addend_applications s (addends_of (take i more)) ++ applications s z.term)) (addend-term (get_or more i a))
    ∙ first_of-append (addend_applications s (addends_of (take i more))) (applications s (phrase (get_or more i a).term))

pub ruleset applying = (first_of-append, all_applications-take, addend_applications-take)

-- the texts of two lists of names, each once
pub distinct_from-append : (before : List (List ℕ)) (xs ys : List Name) → distinct_from before (xs ++ ys) ≡ distinct_from (distinct_from before xs) ys
distinct_from-append before [] ys = refl
distinct_from-append before (x ∷ xs) ys = distinct_from-append (with_text x.text before) xs ys

pub distinct_from-take : (before : List (List ℕ)) (names : List Name) (i : ℕ) (n : Name) → i < length names
    → distinct_from before (take (i + 1) names) ≡ with_text (get_or names i n).text (distinct_from before (take i names))
distinct_from-take before names i n h = ap (distinct_from before) (take_more names i n h) ∙ distinct_from-append before (take i names) (get_or names i n ∷ [])

pub ruleset distinct = (distinct_from-append, distinct_from-take)
