-- Prepared formulas, built member by member.
use Rattle.std.proofs.Common.{◌≡◌, ℕ, zero, suc, ◌+◌, ◌<◌, max, ◌&&◌, Bool, true, false, nat_eq, Result, Ok, Err, List, [], ◌∷◌, ◌++◌, map, Some, None, refl, sym, ap, ◌∙◌, subst, arith}
use Rattle.std.proofs.lemmas.List.{map-append}
use Rattle.std.proofs.lemmas.Bool.{cond-true, cond-false}
use Rattle.std.specs.Prelude.{IfOk}
use Rattle.linear_term.proofs.Totals.{by_test}
use Rattle.linear_term.specs.Linear.{Linear}
use Rattle.formula.specs.declared.calculus.Core.{Core}
use Rattle.formula.specs.Form.{Form, Forms, equal, unequal, at_least, holds, fails, differs, conjunction, disjunction, universal, existential, no_form, and_form, forms, AreFormsOver, IsFormOver}
use Rattle.formula.specs.Sizes.{depth, depths}
use Rattle.formula.specs.Tree.{form, forms_of}
use Rattle.formula.proofs.Sameness.{depth_shifted}
use Rattle.formula.specs.Shifts.{shifted}
use Rattle.form_naming.specs.Naming.{application, is_above, is_pure_but, less_name, named, all_named, renamed, reading, same_terms}
use Rattle.form_naming.proofs.Keeping.{renamed_over}
use Rattle.clause_root_laws.specs.Prepared.{attempted_pure, by_application, before_rest, most_names, under, unquantified, prepared, all_prepared}

-- formulas before others
abbrev pub before : List Form → Forms → Forms
before [] gs = gs
before (f ∷ fs) gs = and_form f (before fs gs)

-- formulas before what was prepared
abbrev pub behind : List Form → Forms × ℕ → Forms × ℕ
behind out r = (before out r.0, r.1)

before-one : (fs : List Form) (g : Form) (gs : Forms) → before fs (and_form g gs) ≡ before (fs ++ g ∷ []) gs
before-one [] g gs = refl
before-one (f ∷ fs) g gs = ap (and_form f) (before-one fs g gs)

before-none : (fs : List Form) → before fs no_form ≡ forms fs
before-none [] = refl
before-none (f ∷ fs) = ap (and_form f) (before-none fs)

-- one more formula that was prepared
pub one_prepared : (b : Bool) (n left now : ℕ) (out more : List Core) (f g : Core) (fs rest : List Core) (all : Forms × ℕ) → fs ≡ f ∷ rest → more ≡ out ++ g ∷ [] → (form g, now) ≡ prepared b n (form f) left
    → behind (map form out) (all_prepared b n (forms_of fs) left) ≡ all → behind (map form more) (all_prepared b n (forms_of rest) now) ≡ all
one_prepared b n left now out more f g fs rest all is pushed made inv =
    ap (λ l. behind (map form l) (all_prepared b n (forms_of rest) now)) pushed
    ∙ ap (λ l. behind l (all_prepared b n (forms_of rest) now)) (map-append form out (g ∷ []))
    ∙ (λ i. (sym (before-one (map form out) (form g) (all_prepared b n (forms_of rest) now).0) i, (all_prepared b n (forms_of rest) now).1))
    ∙ ap (λ z. behind (map form out) (before_rest z (all_prepared b n (forms_of rest)))) made
    ∙ ap (λ l. behind (map form out) (all_prepared b n (forms_of l) left)) (sym is)
    ∙ inv

pub none_left : (b : Bool) (n left : ℕ) (out rest : List Core) (all : Forms × ℕ) → rest ≡ [] → behind (map form out) (all_prepared b n (forms_of rest) left) ≡ all → (forms_of out, left) ≡ all
none_left b n left out rest all none inv =
    (λ i. (sym (before-none (map form out)) i, left)) ∙ ap (λ l. behind (map form out) (all_prepared b n (forms_of l) left)) (sym none) ∙ inv

pub first_over : (n : ℕ) (f : Core) (fs rest : List Core) → fs ≡ f ∷ rest → AreFormsOver n (forms_of fs) → IsFormOver n (form f) × AreFormsOver n (forms_of rest)
first_over n f fs rest is h = subst (λ l. AreFormsOver n (forms_of l)) is h

pub first_depth : (f : Core) (fs rest : List Core) → fs ≡ f ∷ rest → max (depth (form f)) (depths (forms_of rest)) ≡ depths (forms_of fs)
first_depth f fs rest is = sym (ap (λ l. depths (forms_of l)) is)

-- ---- one quantified formula

pub if_ok : {A E : Type 0} (r : Result A E) (P Q : A → Type 0) → ((x : A) → P x → Q x) → IfOk r P → IfOk r Q
if_ok (Ok x) P Q h k = h x k
if_ok (Err e) P Q h k = tt

-- the same of an equal value
pub if_same : {E : Type 0} (r : Result Core E) (now : ℕ) (x y : Form × ℕ) → x ≡ y → IfOk r (λ g. (form g, now) ≡ x) → IfOk r (λ g. (form g, now) ≡ y)
if_same r now x y is h = subst (λ z. IfOk r (λ g. (form g, now) ≡ z)) is h

pub forall_attempted : (b : Bool) (n left : ℕ) (f body : Form) → f ≡ universal body → (b && is_pure_but n body) ≡ true → unquantified most_names n f left ≡ prepared b n f left
forall_attempted b n left f body is test = subst (λ z. unquantified most_names n z left ≡ prepared b n z left) (sym is) (sym (cond-true _ _ _ test))

pub exists_attempted : (b : Bool) (n left : ℕ) (f body : Form) → f ≡ existential body → is_pure_but n body ≡ true → unquantified most_names n f left ≡ prepared b n f left
exists_attempted b n left f body is test = subst (λ z. unquantified most_names n z left ≡ prepared b n z left) (sym is) (sym (cond-true _ _ _ test))

up : (n : ℕ) → n + 1 ≡ suc n
up n = omega arith

pub forall_kept : (b : Bool) (n left now : ℕ) (f body g : Form) → f ≡ universal body → (b && is_pure_but n body) ≡ false → (g, now) ≡ prepared b (n + 1) body left → (universal g, now) ≡ prepared b n f left
forall_kept b n left now f body g is test made =
    subst (λ z. (universal g, now) ≡ prepared b n z left) (sym is)
    (ap (under universal) made ∙ (λ i. under universal (prepared b (up n i) body left)) ∙ sym (cond-false _ _ _ test))

pub exists_kept : (b : Bool) (n left now : ℕ) (f body g : Form) → f ≡ existential body → is_pure_but n body ≡ false → (g, now) ≡ prepared true (n + 1) body left → (existential g, now) ≡ prepared b n f left
exists_kept b n left now f body g is test made =
    subst (λ z. (existential g, now) ≡ prepared b n z left) (sym is)
    (ap (under existential) made ∙ (λ i. under existential (prepared true (up n i) body left)) ∙ sym (cond-false _ _ _ test))

-- ---- names for applications

pub no_name : (k n left : ℕ) (f : Form) → 0 < k → application n f ≡ None → attempted_pure n f left ≡ unquantified k n f left
no_name zero n left f some none = absurd (omega (arith, some))
no_name (suc k) n left f some none = sym (ap (by_application (attempted_pure n f left) (λ g ss. under (reading n g ss) (unquantified k (suc n) (renamed n g ss f) left))) none)

one_name : (k n left now : ℕ) (f below body h : Form) (g : ℕ) (ss : List Linear) → application n f ≡ Some (g, ss) → below ≡ renamed n g ss f → (body, now) ≡ unquantified k (suc n) below left → h ≡ reading n g ss body
    → (h, now) ≡ unquantified (suc k) n f left
one_name k n left now f below body h g ss is under_is made whole =
    (λ i. (whole i, now))
    ∙ ap (under (reading n g ss)) (made ∙ ap (λ z. unquantified k (suc n) z left) under_is)
    ∙ sym (ap (by_application (attempted_pure n f left) (λ p ts. under (reading n p ts) (unquantified k (suc n) (renamed n p ts f) left))) is)

pub next_name : (k j n m left now : ℕ) (f below body h : Form) (g : ℕ) (ss : List Linear) → suc j ≡ k → m ≡ suc n → application n f ≡ Some (g, ss) → below ≡ renamed n g ss f → (body, now) ≡ unquantified j m below left
    → h ≡ reading n g ss body → (h, now) ≡ unquantified k n f left
next_name k j n m left now f below body h g ss is next found under_is made whole =
    subst (λ l. (h, now) ≡ unquantified l n f left) is (one_name j n left now f below body h g ss found under_is (made ∙ ap (λ l. unquantified j l below left) next) whole)

mutual
  depth_named : (n f : ℕ) (ss : List Linear) (g : Form) → depth (named n f ss g) ≡ depth g
  depth_named n f ss (equal t) = refl
  depth_named n f ss (unequal t) = refl
  depth_named n f ss (at_least t) = refl
  depth_named n f ss (holds p ts) = refl
  depth_named n f ss (fails p ts) = refl
  depth_named n f ss (differs g ts u) = by_test (λ z. depth z ≡ 1) (nat_eq f g && (same_terms ss ts && is_above n u)) (unequal (less_name n u)) (differs g ts u) (λ t. refl) (λ t. refl)
  depth_named n f ss (conjunction gs) = ap (λ z. 1 + z) (depths_named n f ss gs)
  depth_named n f ss (disjunction gs) = ap (λ z. 1 + z) (depths_named n f ss gs)
  depth_named n f ss (universal g) = ap (λ z. 1 + z) (depth_named n f ss g)
  depth_named n f ss (existential g) = ap (λ z. 1 + z) (depth_named n f ss g)

  depths_named : (n f : ℕ) (ss : List Linear) (gs : Forms) → depths (all_named n f ss gs) ≡ depths gs
  depths_named n f ss no_form = refl
  depths_named n f ss (and_form g gs) = λ i. max (depth_named n f ss g i) (depths_named n f ss gs i)

pub below_depth_is : (n f : ℕ) (ss : List Linear) (g below : Form) → below ≡ renamed n f ss g → depth below ≡ depth g
below_depth_is n f ss g below is = ap depth is ∙ depth_named n f ss (shifted n 1 g) ∙ depth_shifted n 1 g

pub below_over_is : (n f : ℕ) (ss : List Linear) (g below : Form) → below ≡ renamed n f ss g → IsFormOver n g → IsFormOver (n + 1) below
below_over_is n f ss g below is h = subst (IsFormOver (n + 1)) (sym is) (renamed_over n f ss g h)
