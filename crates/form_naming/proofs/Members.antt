-- Named formulas, built member by member.
use Rattle.std.proofs.Common.{◌≡◌, ℕ, ◌+◌, ◌-◌, ◌≤◌, List, [], ◌∷◌, ◌++◌, map, refl, sym, ap, ◌∙◌, arith}
use Rattle.std.proofs.lemmas.List.{map-append}
use Rattle.formula.specs.declared.calculus.Core.{Core}
use Rattle.formula.specs.Form.{Form, Forms, no_form, and_form, forms, IsFormOver}
use Rattle.formula.specs.Shifts.{IsBelow}
use Rattle.formula.specs.Sizes.{depth}
use Rattle.formula.specs.Tree.{form, forms_of}
use Rattle.formula.proofs.Depths.{below_depth}
use Rattle.linear_term.specs.Linear.{Linear}
use Rattle.form_naming.specs.Naming.{named, all_named}

-- formulas before others
abbrev pub before : List Form → Forms → Forms
before [] gs = gs
before (f ∷ fs) gs = and_form f (before fs gs)

before-one : (fs : List Form) (g : Form) (gs : Forms) → before fs (and_form g gs) ≡ before (fs ++ g ∷ []) gs
before-one [] g gs = refl
before-one (f ∷ fs) g gs = ap (and_form f) (before-one fs g gs)

before-none : (fs : List Form) → before fs no_form ≡ forms fs
before-none [] = refl
before-none (f ∷ fs) = ap (and_form f) (before-none fs)

-- one more formula that was named
pub one_named : (n f : ℕ) (ss : List Linear) (out more : List Core) (g h : Core) (gs rest : List Core) (all : Forms) → gs ≡ g ∷ rest → more ≡ out ++ h ∷ [] → form h ≡ named n f ss (form g)
    → before (map form out) (all_named n f ss (forms_of gs)) ≡ all → before (map form more) (all_named n f ss (forms_of rest)) ≡ all
one_named n f ss out more g h gs rest all is pushed made inv =
    ap (λ l. before (map form l) (all_named n f ss (forms_of rest))) pushed
    ∙ ap (λ l. before l (all_named n f ss (forms_of rest))) (map-append form out (h ∷ []))
    ∙ sym (before-one (map form out) (form h) (all_named n f ss (forms_of rest)))
    ∙ ap (λ z. before (map form out) (and_form z (all_named n f ss (forms_of rest)))) made
    ∙ ap (λ l. before (map form out) (all_named n f ss (forms_of l))) (sym is)
    ∙ inv

pub none_left : (n f : ℕ) (ss : List Linear) (out rest : List Core) (all : Forms) → rest ≡ [] → before (map form out) (all_named n f ss (forms_of rest)) ≡ all → forms_of out ≡ all
none_left n f ss out rest all none inv =
    sym (before-none (map form out)) ∙ ap (λ l. before (map form out) (all_named n f ss (forms_of l))) (sym none) ∙ inv

pub below_one : (n b : ℕ) (f : Form) → n + depth f + 1 ≤ b → IsFormOver n f → IsBelow (b - (n + 1 - n)) f
below_one n b f room over = below_depth n (b - (n + 1 - n)) f (omega (arith, room)) over

pub ruleset below = (below_one)
