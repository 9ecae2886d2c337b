-- Marks of symbols.
use Rattle.std.proofs.Common.{◌≡◌, ℕ, Bool, List, [], ◌∷◌, ◌++◌, refl, sym, ◌∙◌, ap}
use Rattle.form_typed.specs.declared.typed.Relation.{Relation}
use Rattle.form_typed.specs.declared.typed.Typed.{Typed}
use Rattle.form_typed.specs.declared.typed.Typed.TheVariants as f
use Rattle.form_typed.specs.declared.typed.TypedTerm.TheVariants as e
use Rattle.form_typed.specs.declared.typed.TypedTerm.{TypedTerm}
use Rattle.form_typed.specs.Formula.{formula, formulas_of, expression, expressions_of}
use Rattle.form_typed.proofs.Folds.{formula-Iff, formula-Implies, formula-Rel, expression-If, expression-Max, expression-Min, expression-Product}
use Rattle.itp_sides.specs.Symbols.{symbols_in, symbols_in_all, symbols_in_term, symbols_in_terms}
use Rattle.function_encoding.specs.Marks.{with_mark}
use Rattle.pred_interpolant.specs.Marks.{noted, symbol_place}

pub noted-append : (marks : List Bool) (xs ys : List (Bool × ℕ)) → noted marks (xs ++ ys) ≡ noted (noted marks xs) ys
noted-append marks [] ys = refl
noted-append marks (x ∷ xs) ys = noted-append (with_mark marks (symbol_place x)) xs ys

pub ruleset marking = (noted-append)

-- one member of a list, and then the others
pub formulas_next : (fs rest : List Typed) (g : Typed) (old new : List Bool) → fs ≡ g ∷ rest → new ≡ noted old (symbols_in (formula g)) → noted new (symbols_in_all (formulas_of rest)) ≡ noted old (symbols_in_all (formulas_of fs))
formulas_next fs rest g old new item is =
    ap (λ ms. noted ms (symbols_in_all (formulas_of rest))) is ∙ sym (noted-append old (symbols_in (formula g)) (symbols_in_all (formulas_of rest))) ∙ ap (λ l. noted old (symbols_in_all (formulas_of l))) (sym item)

pub terms_next : (ts rest : List TypedTerm) (t : TypedTerm) (old new : List Bool) → ts ≡ t ∷ rest → new ≡ noted old (symbols_in_term (expression t)) → noted new (symbols_in_terms (expressions_of rest)) ≡ noted old (symbols_in_terms (expressions_of ts))
terms_next ts rest t old new item is =
    ap (λ ms. noted ms (symbols_in_terms (expressions_of rest))) is ∙ sym (noted-append old (symbols_in_term (expression t)) (symbols_in_terms (expressions_of rest))) ∙ ap (λ l. noted old (symbols_in_terms (expressions_of l))) (sym item)

-- one call after the other
mark_two : (old between new : List Bool) (xs ys zs : List (Bool × ℕ)) → between ≡ noted old xs → new ≡ noted between ys → zs ≡ xs ++ ys → new ≡ noted old zs
mark_two old between new xs ys zs first second all = second ∙ ap (λ ms. noted ms ys) first ∙ sym (noted-append old xs ys) ∙ ap (noted old) (sym all)

names_Rel : (g : Typed) (r : Relation) (s t : TypedTerm) → g ≡ f.Rel r s t → symbols_in (formula g) ≡ symbols_in_term (expression s) ++ symbols_in_term (expression t)
names_Rel g r s t is = ap symbols_in (ap formula is ∙ formula-Rel r s t)

both_formulas : (a b c d : Typed) → a ≡ c → b ≡ d → symbols_in (formula c) ++ symbols_in (formula d) ≡ symbols_in (formula a) ++ symbols_in (formula b)
both_formulas a b c d p q = λ i. symbols_in (formula (sym p i)) ++ symbols_in (formula (sym q i))

both_terms : (a b c d : TypedTerm) → a ≡ c → b ≡ d → symbols_in_term (expression c) ++ symbols_in_term (expression d) ≡ symbols_in_term (expression a) ++ symbols_in_term (expression b)
both_terms a b c d p q = λ i. symbols_in_term (expression (sym p i)) ++ symbols_in_term (expression (sym q i))

names_Implies : (k a b g h : Typed) → k ≡ f.Implies g h → a ≡ g → b ≡ h → symbols_in (formula k) ≡ symbols_in (formula a) ++ symbols_in (formula b)
names_Implies k a b g h is p q = ap symbols_in (ap formula is ∙ formula-Implies g h) ∙ both_formulas a b g h p q

names_Iff : (k a b g h : Typed) → k ≡ f.Iff g h → a ≡ g → b ≡ h → symbols_in (formula k) ≡ symbols_in (formula a) ++ symbols_in (formula b)
names_Iff k a b g h is p q = ap symbols_in (ap formula is ∙ formula-Iff g h) ∙ both_formulas a b g h p q

names_Product : (k a b s t : TypedTerm) → k ≡ e.Product s t → a ≡ s → b ≡ t → symbols_in_term (expression k) ≡ symbols_in_term (expression a) ++ symbols_in_term (expression b)
names_Product k a b s t is p q = ap symbols_in_term (ap expression is ∙ expression-Product s t) ∙ both_terms a b s t p q

names_Min : (k a b s t : TypedTerm) → k ≡ e.Min s t → a ≡ s → b ≡ t → symbols_in_term (expression k) ≡ symbols_in_term (expression a) ++ symbols_in_term (expression b)
names_Min k a b s t is p q = ap symbols_in_term (ap expression is ∙ expression-Min s t) ∙ both_terms a b s t p q

names_Max : (k a b s t : TypedTerm) → k ≡ e.Max s t → a ≡ s → b ≡ t → symbols_in_term (expression k) ≡ symbols_in_term (expression a) ++ symbols_in_term (expression b)
names_Max k a b s t is p q = ap symbols_in_term (ap expression is ∙ expression-Max s t) ∙ both_terms a b s t p q

names_If : (k : TypedTerm) (c : Typed) (a b : TypedTerm) (g : Typed) (s t : TypedTerm) → k ≡ e.If g s t → c ≡ g → a ≡ s → b ≡ t
    → symbols_in_term (expression k) ≡ symbols_in (formula c) ++ (symbols_in_term (expression a) ++ symbols_in_term (expression b))
names_If k c a b g s t is o p q =
    ap symbols_in_term (ap expression is ∙ expression-If g s t) ∙ (λ i. symbols_in (formula (sym o i)) ++ both_terms a b s t p q i)

pub mark_Rel : (old between new : List Bool) (g : Typed) (r : Relation) (s t : TypedTerm) → g ≡ f.Rel r s t → between ≡ noted old (symbols_in_term (expression s)) → new ≡ noted between (symbols_in_term (expression t))
    → new ≡ noted old (symbols_in (formula g))
mark_Rel old between new g r s t is first second = mark_two old between new (symbols_in_term (expression s)) (symbols_in_term (expression t)) (symbols_in (formula g)) first second (names_Rel g r s t is)

pub mark_Implies : (old between new : List Bool) (k a b g h : Typed) → k ≡ f.Implies g h → a ≡ g → b ≡ h → between ≡ noted old (symbols_in (formula a)) → new ≡ noted between (symbols_in (formula b))
    → new ≡ noted old (symbols_in (formula k))
mark_Implies old between new k a b g h is p q first second = mark_two old between new (symbols_in (formula a)) (symbols_in (formula b)) (symbols_in (formula k)) first second (names_Implies k a b g h is p q)

pub mark_Iff : (old between new : List Bool) (k a b g h : Typed) → k ≡ f.Iff g h → a ≡ g → b ≡ h → between ≡ noted old (symbols_in (formula a)) → new ≡ noted between (symbols_in (formula b))
    → new ≡ noted old (symbols_in (formula k))
mark_Iff old between new k a b g h is p q first second = mark_two old between new (symbols_in (formula a)) (symbols_in (formula b)) (symbols_in (formula k)) first second (names_Iff k a b g h is p q)

pub mark_Product : (old between new : List Bool) (k a b g h : TypedTerm) → k ≡ e.Product g h → a ≡ g → b ≡ h → between ≡ noted old (symbols_in_term (expression a)) → new ≡ noted between (symbols_in_term (expression b))
    → new ≡ noted old (symbols_in_term (expression k))
mark_Product old between new k a b g h is p q first second = mark_two old between new (symbols_in_term (expression a)) (symbols_in_term (expression b)) (symbols_in_term (expression k)) first second (names_Product k a b g h is p q)

pub mark_Min : (old between new : List Bool) (k a b g h : TypedTerm) → k ≡ e.Min g h → a ≡ g → b ≡ h → between ≡ noted old (symbols_in_term (expression a)) → new ≡ noted between (symbols_in_term (expression b))
    → new ≡ noted old (symbols_in_term (expression k))
mark_Min old between new k a b g h is p q first second = mark_two old between new (symbols_in_term (expression a)) (symbols_in_term (expression b)) (symbols_in_term (expression k)) first second (names_Min k a b g h is p q)

pub mark_Max : (old between new : List Bool) (k a b g h : TypedTerm) → k ≡ e.Max g h → a ≡ g → b ≡ h → between ≡ noted old (symbols_in_term (expression a)) → new ≡ noted between (symbols_in_term (expression b))
    → new ≡ noted old (symbols_in_term (expression k))
mark_Max old between new k a b g h is p q first second = mark_two old between new (symbols_in_term (expression a)) (symbols_in_term (expression b)) (symbols_in_term (expression k)) first second (names_Max k a b g h is p q)

pub mark_If : (old one two new : List Bool) (k : TypedTerm) (c : Typed) (a b : TypedTerm) (g : Typed) (s t : TypedTerm) → k ≡ e.If g s t → c ≡ g → a ≡ s → b ≡ t → one ≡ noted old (symbols_in (formula c))
    → two ≡ noted one (symbols_in_term (expression a)) → new ≡ noted two (symbols_in_term (expression b)) → new ≡ noted old (symbols_in_term (expression k))
mark_If old one two new k c a b g s t is o p q first second third =
    let both = symbols_in_term (expression a) ++ symbols_in_term (expression b) in
    mark_two old one new (symbols_in (formula c)) both (symbols_in_term (expression k)) first (mark_two one two new (symbols_in_term (expression a)) (symbols_in_term (expression b)) both second third refl) (names_If k c a b g s t is o p q)
