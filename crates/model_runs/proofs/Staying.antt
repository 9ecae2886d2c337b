-- A formula brought to as many names as it is over stays as it is, and so do the premises of a sequent of such formulas.
use Rattle.std.proofs.Common.{◌≡◌, ℕ, ◌+◌, ◌-◌, nat_lt, ℤ, List, [], ◌∷◌, ◌++◌, map, refl, ◌∙◌, ap, arith}
use Rattle.linear_term.specs.Linear.{Linear}
use Rattle.linear_term.proofs.Totals.{by_test}
use Rattle.formula.specs.Form.{Form, Forms, equal, unequal, at_least, holds, fails, differs, conjunction, disjunction, universal, existential, no_form, and_form, forms}
use Rattle.formula.specs.Shifts.{raised_name, raised, shifted, all_shifted}
use Rattle.sequent.specs.Rules.{brought, new_members, one_each}
use Rattle.sequent.specs.Sequent.{Member, Sequent, member, sequent}

name_stays : (n x : ℕ) → raised_name n 0 x ≡ x
name_stays n x = by_test (λ y. y ≡ x) (nat_lt x n) x (x + 0) (λ h. refl) (λ h. none x)
  where
    none : (x : ℕ) → x + 0 ≡ x
    none x = omega arith

pairs_stay : (n : ℕ) (ps : List (ℕ × ℤ)) → map (λ (p : ℕ × ℤ). (raised_name n 0 p.0, p.1)) ps ≡ ps
pairs_stay n [] = refl
pairs_stay n (p ∷ ps) = λ i. (name_stays n (p.0) i, p.1) ∷ pairs_stay n ps i

term_stays : (n : ℕ) (t : Linear) → raised n 0 t ≡ t
unfolding raised
term_stays n t = λ i. record { pairs = pairs_stay n t.pairs i; constant = t.constant }

terms_stay : (n : ℕ) (ts : List Linear) → map (raised n 0) ts ≡ ts
terms_stay n [] = refl
terms_stay n (t ∷ ts) = λ i. term_stays n t i ∷ terms_stay n ts i

mutual
  shifted_stays : (n : ℕ) (f : Form) → shifted n 0 f ≡ f
  shifted_stays n (equal t) = ap (λ u. equal u) (term_stays n t)
  shifted_stays n (unequal t) = ap (λ u. unequal u) (term_stays n t)
  shifted_stays n (at_least t) = ap (λ u. at_least u) (term_stays n t)
  shifted_stays n (holds p ts) = ap (λ us. holds p us) (terms_stay n ts)
  shifted_stays n (fails p ts) = ap (λ us. fails p us) (terms_stay n ts)
  shifted_stays n (differs f ts u) = λ i. differs f (terms_stay n ts i) (term_stays n u i)
  shifted_stays n (conjunction fs) = ap (λ gs. conjunction gs) (all_shifted_stay n fs)
  shifted_stays n (disjunction fs) = ap (λ gs. disjunction gs) (all_shifted_stay n fs)
  shifted_stays n (universal f) = ap (λ g. universal g) (shifted_stays n f)
  shifted_stays n (existential f) = ap (λ g. existential g) (shifted_stays n f)

  all_shifted_stay : (n : ℕ) (fs : Forms) → all_shifted n 0 fs ≡ fs
  all_shifted_stay n no_form = refl
  all_shifted_stay n (and_form f fs) = λ i. and_form (shifted_stays n f i) (all_shifted_stay n fs i)

pub brought_stays : (n : ℕ) (f : Form) → brought n n f ≡ f
brought_stays n f = ap (λ k. shifted n k f) (none n) ∙ shifted_stays n f
  where
    none : (n : ℕ) → n - n ≡ 0
    none n = omega arith

-- each formula of a list as a member over n names
abbrev pub members_of : ℕ → List Form → List Member
members_of n [] = []
members_of n (f ∷ fs) = member f n 0 ∷ members_of n fs

pub new_stay : (n : ℕ) (fs : List Form) → new_members n n (forms fs) ≡ members_of n fs
new_stay n [] = refl
new_stay n (f ∷ fs) = λ i. member (brought_stays n f i) n 0 ∷ new_stay n fs i

pub members_append : (n : ℕ) (fs gs : List Form) → members_of n (fs ++ gs) ≡ members_of n fs ++ members_of n gs
members_append n [] gs = refl
members_append n (f ∷ fs) gs = ap (λ ms. member f n 0 ∷ ms) (members_append n fs gs)

-- each formula of a list as a sequent
abbrev pub starts : ℕ → List Form → List Sequent
starts n [] = []
starts n (f ∷ fs) = sequent (member f n 0 ∷ []) n ∷ starts n fs

pub each_stays : (n : ℕ) (fs : List Form) → map (λ new. sequent ([] ++ new) n) (one_each (new_members n n (forms fs))) ≡ starts n fs
each_stays n [] = refl
each_stays n (f ∷ fs) = λ i. sequent (member (brought_stays n f i) n 0 ∷ []) n ∷ each_stays n fs i
