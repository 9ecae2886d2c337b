-- The faults of lists of expressions, and of the last one.
use Rattle.std.proofs.Common.{◌≡◌, ℕ, suc, List, [], ◌∷◌, ◌++◌, map, length, refl, sym, ap, ◌∙◌, append_assoc, take, get_or, ◌+◌, ◌<◌, Option}
use Rattle.std.proofs.lemmas.List.{append-nil, map-append, take_more}
use Rattle.pri_reader.specs.declared.tree.Expr.{Expr}
use Rattle.pri_reader.specs.declared.tree.Form.{Form}
use Rattle.pri_reader.specs.declared.tree.Form.TheOpen as o
use Rattle.pri_reader.specs.declared.tree.Form.TheOpen.{Form-F}
use Rattle.pri_reader.specs.declared.tree.Form.TheFolds.{fold_out-Form}
use Rattle.pri_reader.specs.declared.tree.Added.{Added}
use Rattle.pri_typing.specs.declared.scope.Category.{Category}
use Rattle.pri_typing.specs.declared.scope.Category.TheVariants.{Term}
use Rattle.pri_typing.specs.declared.problem.TypeRefusal.{TypeRefusal}
use Rattle.pri_typing.specs.Phrase.{Phrase, Addend, phrase, phrase_of, phrases, phrases_of, addend, addends, addends_of, form_step, phrase_step, addend_step, first_token, count}
use Rattle.pri_typing.specs.Scope.{Scope}
use Rattle.pri_typing.specs.Faults.{faults, all_faults, addend_faults, least, earlier}
use Rattle.pri_typing.proofs.Folds.{phrase-form, addend-term}
use Rattle.pri_typing.proofs.Least.{least-append}

first_token_step : (z : Form-F (ℕ → Phrase) Addend Phrase) (at : ℕ) → first_token (form_step z at) ≡ at
first_token_step (o.Number n) at = refl
first_token_step (o.Truth b) at = refl
first_token_step (o.Use name ps) at = refl
first_token_step (o.Group p) at = refl
first_token_step (o.If c p q) at = refl
first_token_step (o.Abs p) at = refl
first_token_step (o.Min p q) at = refl
first_token_step (o.Max p q) at = refl
first_token_step (o.Minus p) at = refl
first_token_step (o.Product p sign q) at = refl
first_token_step (o.Sum p more) at = refl
first_token_step (o.Compare c p q) at = refl
first_token_step (o.Not p) at = refl
first_token_step (o.Quantified all names p) at = refl
first_token_step (o.Part name p) at = refl
first_token_step (o.And ps) at = refl
first_token_step (o.Or ps) at = refl
first_token_step (o.Implies p q) at = refl
first_token_step (o.Iff p q) at = refl

-- the first token of an expression is where it begins
pub first_token_is : (e : Expr) → first_token (phrase e) ≡ e.at
first_token_is e = ap first_token (phrase-form e)
    ∙ ap (λ h. first_token (h e.at)) (fold_out-Form (ℕ → Phrase) Addend Phrase form_step addend_step phrase_step e.form) ∙ first_token_step _ e.at

pub count_is : (es : List Expr) → count (phrases_of es) ≡ length es
count_is [] = refl
count_is (e ∷ es) = ap suc (count_is es)

all_faults-phrases : (s : Scope) (category : Category) (ps : List Phrase) (p : Phrase)
    → all_faults s category (phrases (ps ++ p ∷ [])) ≡ all_faults s category (phrases ps) ++ faults s category (first_token p) p
all_faults-phrases s category [] p = append-nil (faults s category (first_token p) p)
all_faults-phrases s category (q ∷ ps) p =
    ap (λ z. faults s category (first_token q) q ++ z) (all_faults-phrases s category ps p)
    ∙ sym (append_assoc (faults s category (first_token q) q) (all_faults s category (phrases ps)) (faults s category (first_token p) p))

-- the least fault of a list, with one more after it
pub all_faults-more : (s : Scope) (category : Category) (es : List Expr) (e : Expr)
    → least (all_faults s category (phrases_of (es ++ e ∷ []))) ≡ earlier (least (all_faults s category (phrases_of es))) (least (faults s category (first_token (phrase e)) (phrase e)))
all_faults-more s category es e = ap (λ z. least (all_faults s category (phrases z))) (map-append phrase es (e ∷ []))
    ∙ ap least (all_faults-phrases s category (map phrase es) (phrase e)) ∙ least-append (all_faults s category (phrases_of es)) _

addend_faults-addends : (s : Scope) (more : List Addend) (a : Addend)
    → addend_faults s (addends (more ++ a ∷ [])) ≡ addend_faults s (addends more) ++ faults s Term (first_token a.term) a.term
addend_faults-addends s [] a = append-nil (faults s Term (first_token a.term) a.term)
addend_faults-addends s (b ∷ more) a =
    ap (λ z. faults s Term (first_token b.term) b.term ++ z) (addend_faults-addends s more a)
    ∙ sym (append_assoc (faults s Term (first_token b.term) b.term) (addend_faults s (addends more)) (faults s Term (first_token a.term) a.term))

pub addend_faults-more : (s : Scope) (more : List Added) (a : Added)
    → least (addend_faults s (addends_of (more ++ a ∷ []))) ≡ earlier (least (addend_faults s (addends_of more))) (least (faults s Term (first_token (phrase a.term)) (phrase a.term)))
addend_faults-more s more a = ap (λ z. least (addend_faults s (addends z))) (map-append addend more (a ∷ []))
    ∙ ap least (addend_faults-addends s (map addend more) (addend a))
    ∙ ap (λ z. least (addend_faults s (addends_of more) ++ faults s Term (first_token z.term) z.term)) (addend-term a)
    ∙ least-append (addend_faults s (addends_of more)) _

pub all_faults-take : (s : Scope) (category : Category) (es : List Expr) (i : ℕ) (e : Expr) → i < length es
    → least (all_faults s category (phrases_of (take (i + 1) es)))
    ≡ earlier (least (all_faults s category (phrases_of (take i es)))) (least (faults s category (first_token (phrase (get_or es i e))) (phrase (get_or es i e))))
all_faults-take s category es i e h = ap (λ z. least (all_faults s category (phrases_of z))) (take_more es i e h) ∙ all_faults-more s category (take i es) (get_or es i e)

pub addend_faults-take : (s : Scope) (more : List Added) (i : ℕ) (a : Added) → i < length more
    → least (addend_faults s (addends_of (take (i + 1) more)))
    ≡ earlier (least (addend_faults s (addends_of (take i more)))) (least (faults s Term (first_token (phrase (get_or more i a).term)) (phrase (get_or more i a).term)))
addend_faults-take s more i a h = ap (λ z. least (addend_faults s (addends_of z))) (take_more more i a h) ∙ addend_faults-more s (take i more) (get_or more i a)

-- an expression of a form
pub form_is : (e : Expr) (g : Form) → e.form ≡ g → phrase e ≡ phrase_of g e.at
form_is e g h = phrase-form e ∙ ap (λ z. phrase_of z e.at) h

-- the faults of an expression where one of this category is needed
abbrev pub operand_faults : Scope → Category → Expr → List TypeRefusal
operand_faults s category e = faults s category (first_token (phrase e)) (phrase e)

-- the least of some faults and those of one more operand
pub with_operand : (s : Scope) (category : Category) (own : List TypeRefusal) (x y : Expr) {r k : Option TypeRefusal}
    → r ≡ earlier k (least (faults s category (first_token (phrase x)) (phrase x))) → x ≡ y → k ≡ least own
    → r ≡ least (own ++ faults s category (first_token (phrase y)) (phrase y))
with_operand s category own x y e f g = e
    ∙ ap (λ z. earlier z (least (faults s category (first_token (phrase x)) (phrase x)))) g
    ∙ sym (least-append own (faults s category (first_token (phrase x)) (phrase x)))
    ∙ ap (λ z. least (own ++ faults s category (first_token (phrase z)) (phrase z))) f

-- the least of two lists, where the least of each is known
pub least_of_two : (a b : List TypeRefusal) {r k l : Option TypeRefusal} → r ≡ earlier k l → k ≡ least a → l ≡ least b → r ≡ least (a ++ b)
least_of_two a b {r} {k} {l} e f g = e ∙ ap (λ z. earlier z l) f ∙ ap (earlier (least a)) g ∙ sym (least-append a b)

-- the least of three lists
pub least-three : (a b c : List TypeRefusal) → least (a ++ b ++ c) ≡ earlier (earlier (least a) (least b)) (least c)
least-three a b c = least-append (a ++ b) c ∙ ap (λ z. earlier z (least c)) (least-append a b)

-- the least of some faults and those of two more operands
pub with_operands : (s : Scope) (category : Category) (own : List TypeRefusal) (x y z w : Expr) {r k : Option TypeRefusal}
    → r ≡ earlier (earlier k (least (operand_faults s category x))) (least (operand_faults s category z)) → x ≡ y → z ≡ w → k ≡ least own
    → r ≡ least (own ++ operand_faults s category y ++ operand_faults s category w)
with_operands s category own x y z w e f g h = with_operand s category (own ++ operand_faults s category y) z w e g (with_operand s category own x y refl f h)

pub ruleset faulting = (least-append, first_token_is, count_is, all_faults-take, addend_faults-take)
