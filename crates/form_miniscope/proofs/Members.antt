-- Formulas made member by member.
use Rattle.std.proofs.Common.{◌≡◌, ℕ, Bool, true, false, List, [], ◌∷◌, ◌++◌, map, refl, sym, ap, ◌∙◌}
use Rattle.std.proofs.lemmas.Bool.{cond-true, cond-false}
use Rattle.std.proofs.lemmas.List.{map-append}
use Rattle.formula.specs.declared.calculus.Core.{Core}
use Rattle.formula.specs.declared.calculus.Core.TheVariants as c
use Rattle.formula.specs.Form.{Form, Forms, conjunction, disjunction, no_form, and_form, forms}
use Rattle.formula.specs.Tree.{form, forms_of}
use Rattle.formula.proofs.Building.{form-And, form-Or}
use Rattle.form_miniscope.specs.Lowering.{occurs, freed}
use Rattle.form_miniscope.specs.Miniscope.{beside, bound, outer}

-- formulas before others
abbrev pub before : List Form → Forms → Forms
before [] gs = gs
before (f ∷ fs) gs = and_form f (before fs gs)

before-one : (fs : List Form) (g : Form) (gs : Forms) → before fs (and_form g gs) ≡ before (fs ++ g ∷ []) gs
before-one [] g gs = refl
before-one (f ∷ fs) g gs = ap (and_form f) (before-one fs g gs)

before-none : (fs : List Form) → before fs no_form ≡ forms fs
before-none [] = refl
before-none (f ∷ fs) = ap (and_form f) (before-none fs)

-- one more member that was put after the others
pub member_put : (out more : List Core) (g : Core) (left rest all : Forms) → left ≡ and_form (form g) rest → more ≡ out ++ g ∷ [] → before (map form out) left ≡ all → before (map form more) rest ≡ all
member_put out more g left rest all is pushed inv =
    ap (λ l. before (map form l) rest) pushed ∙ ap (λ l. before l rest) (map-append form out (g ∷ [])) ∙ sym (before-one (map form out) (form g) rest) ∙ ap (before (map form out)) (sym is) ∙ inv

-- no member is left
pub members_end : (out : List Core) (left all : Forms) → left ≡ no_form → before (map form out) left ≡ all → forms_of out ≡ all
members_end out left all none inv = sym (before-none (map form out)) ∙ ap (before (map form out)) (sym none) ∙ inv

-- a member that was passed over
pub member_skipped : (out more : List Core) (left rest all : Forms) → left ≡ rest → more ≡ out → before (map form out) left ≡ all → before (map form more) rest ≡ all
member_skipped out more left rest all is same inv = ap (λ l. before (map form l) rest) same ∙ ap (before (map form out)) (sym is) ∙ inv

-- ---- members with the name, and without

pub bound_put : (n : ℕ) (f g : Core) (fs rest : List Core) (b : Bool) → fs ≡ f ∷ rest → b ≡ occurs n (form f) → b ≡ true → g ≡ f → bound n (forms_of fs) ≡ and_form (form g) (bound n (forms_of rest))
bound_put n f g fs rest b is test t same =
    ap (λ l. bound n (forms_of l)) is ∙ cond-true _ _ _ (sym test ∙ t) ∙ ap (λ z. and_form (form z) (bound n (forms_of rest))) (sym same)

pub bound_skipped : (n : ℕ) (f : Core) (fs rest : List Core) (b : Bool) → fs ≡ f ∷ rest → b ≡ occurs n (form f) → b ≡ false → bound n (forms_of fs) ≡ bound n (forms_of rest)
bound_skipped n f fs rest b is test t = ap (λ l. bound n (forms_of l)) is ∙ cond-false _ _ _ (sym test ∙ t)

pub outer_put : (n : ℕ) (f g : Core) (fs rest : List Core) (b : Bool) → fs ≡ f ∷ rest → b ≡ occurs n (form f) → b ≡ false → form g ≡ freed n (form f) → outer n (forms_of fs) ≡ and_form (form g) (outer n (forms_of rest))
outer_put n f g fs rest b is test t same =
    ap (λ l. outer n (forms_of l)) is ∙ cond-false _ _ _ (sym test ∙ t) ∙ ap (λ z. and_form z (outer n (forms_of rest))) (sym same)

pub outer_skipped : (n : ℕ) (f : Core) (fs rest : List Core) (b : Bool) → fs ≡ f ∷ rest → b ≡ occurs n (form f) → b ≡ true → outer n (forms_of fs) ≡ outer n (forms_of rest)
outer_skipped n f fs rest b is test t = ap (λ l. outer n (forms_of l)) is ∙ cond-true _ _ _ (sym test ∙ t)

-- ---- a first member with others

first_and_others : (first : Core) (others none one members : List Core) → none ≡ [] → one ≡ none ++ first ∷ [] → members ≡ one ++ others → members ≡ first ∷ others
first_and_others first others none one members hn ho hm = hm ∙ ap (λ l. l ++ others) (ho ∙ ap (λ l. l ++ first ∷ []) hn)

pub beside_and_is : (first : Core) (others none one members : List Core) → (others ≡ [] → ⊥) → none ≡ [] → one ≡ none ++ first ∷ [] → members ≡ one ++ others → form (c.And members) ≡ beside conjunction (form first) (forms_of others)
beside_and_is first [] none one members some hn ho hm = absurd (some refl)
beside_and_is first (f ∷ fs) none one members some hn ho hm = form-And members ∙ ap (λ l. conjunction (forms_of l)) (first_and_others first (f ∷ fs) none one members hn ho hm)

pub beside_or_is : (first : Core) (others none one members : List Core) → (others ≡ [] → ⊥) → none ≡ [] → one ≡ none ++ first ∷ [] → members ≡ one ++ others → form (c.Or members) ≡ beside disjunction (form first) (forms_of others)
beside_or_is first [] none one members some hn ho hm = absurd (some refl)
beside_or_is first (f ∷ fs) none one members some hn ho hm = form-Or members ∙ ap (λ l. disjunction (forms_of l)) (first_and_others first (f ∷ fs) none one members hn ho hm)
