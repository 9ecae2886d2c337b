-- A miniscoped formula has reduced terms where the formula has.
use Rattle.std.proofs.Common.{ℕ, suc, ◌≡◌, ◌≢◌, ◌+◌, ◌-◌, ◌≤◌, ◌<◌, ℤ, pos, true, false, nat_eq, nat_lt, List, [], ◌∷◌, map, arith}
use Rattle.std.specs.List.{AllByRecursion, list_any}
use Rattle.std.proofs.lemmas.Bool.Decides.{nat_tests}
use Rattle.std.proofs.lemmas.List.Elements.{All-map}
use Rattle.linear_term.specs.Linear.{Linear, IsReduced, IsRisingFrom}
use Rattle.linear_term.proofs.Totals.{by_test}
use Rattle.formula.specs.Form.{Form, Forms, equal, unequal, at_least, holds, fails, differs, conjunction, disjunction, universal, existential, no_form, and_form}
use Rattle.formula.specs.Reduced.{HasReducedTerms, HaveReducedTerms}
use Rattle.form_miniscope.specs.Lowering.{has, some_has, occurs, occurs_in, lowered_name, lowered, freed, all_freed}
use Rattle.form_miniscope.specs.Miniscope.{bound, outer, beside, over_name, every, all_every, some, all_some, miniscoped, all_miniscoped, scoped_below}
use Rattle.form_miniscope.proofs.Lowering.{neither}

-- ---- terms

-- names other than n stay in their order
name_falls : (n x y : ℕ) → nat_eq x n ≡ false → nat_eq y n ≡ false → x < y → lowered_name n x < lowered_name n y
name_falls n x y ox oy lt =
    by_test (λ a. a < lowered_name n y) (nat_lt n x) (x - 1) x
    (λ s. by_test (λ b. x - 1 < b) (nat_lt n y) (y - 1) y (λ t. one s t) (λ t. two s t))
    (λ s. by_test (λ b. x < b) (nat_lt n y) (y - 1) y (λ t. three s t) (λ t. lt))
  where
    one : nat_lt n x ≡ true → nat_lt n y ≡ true → x - 1 < y - 1
    one s t = grind (arith, nat_tests)

    two : nat_lt n x ≡ true → nat_lt n y ≡ false → x - 1 < y
    two s t = omega (arith, lt)

    three : nat_lt n x ≡ false → nat_lt n y ≡ true → x < y - 1
    three s t = grind (arith, nat_tests)

rising_lowered : (n m l : ℕ) (ps : List (ℕ × ℤ)) → ((x : ℕ) → m ≤ x → nat_eq x n ≡ false → l ≤ lowered_name n x) → list_any (λ (p : ℕ × ℤ). nat_eq p.0 n) ps ≡ false → IsRisingFrom m ps
    → IsRisingFrom l (map (λ (p : ℕ × ℤ). (lowered_name n p.0, p.1)) ps)
rising_lowered n m l [] h free r = tt
rising_lowered n m l (p ∷ ps) h free r =
    let two = neither (nat_eq p.0 n) (list_any (λ (q : ℕ × ℤ). nat_eq q.0 n) ps) free in
    let at : l ≤ lowered_name n p.0 = h p.0 (omega (arith, r.0)) two.0 in
    (omega (arith, at), rising_lowered n (p.0 + 1) (lowered_name n p.0 + 1) ps (λ x le other. up x (name_falls n p.0 x two.0 other (omega (arith, le)))) two.1 r.1)
  where
    up : (x : ℕ) → lowered_name n p.0 < lowered_name n x → lowered_name n p.0 + 1 ≤ lowered_name n x
    up x lt = omega (arith, lt)

term_lowered : (n : ℕ) (t : Linear) → has n t ≡ false → IsReduced t → IsReduced (lowered n t)
term_lowered n t free h = record {
  rising = rising_lowered n 0 0 t.pairs (λ x le other. omega arith) free h.rising;
  not_zero = All-map (λ (q : ℕ × ℤ). q.1 ≢ pos 0) (λ (q : ℕ × ℤ). (lowered_name n q.0, q.1)) t.pairs h.not_zero;
}

terms_lowered : (n : ℕ) (ts : List Linear) → some_has n ts ≡ false → AllByRecursion IsReduced ts → AllByRecursion IsReduced (map (lowered n) ts)
terms_lowered n [] free h = tt
terms_lowered n (t ∷ ts) free h = let two = neither (has n t) (some_has n ts) free in (term_lowered n t two.0 h.0, terms_lowered n ts two.1 h.1)

-- ---- a formula without the place of a name

mutual
  freed_reduced : (n : ℕ) (f : Form) → occurs n f ≡ false → HasReducedTerms f → HasReducedTerms (freed n f)
  freed_reduced n (equal t) free h = term_lowered n t free h
  freed_reduced n (unequal t) free h = term_lowered n t free h
  freed_reduced n (at_least t) free h = term_lowered n t free h
  freed_reduced n (holds p ts) free h = terms_lowered n ts free h
  freed_reduced n (fails p ts) free h = terms_lowered n ts free h
  freed_reduced n (differs f ts u) free h = let two = neither (has n u) (some_has n ts) free in (terms_lowered n ts two.1 h.0, term_lowered n u two.0 h.1)
  freed_reduced n (conjunction fs) free h = all_freed_reduced n fs free h
  freed_reduced n (disjunction fs) free h = all_freed_reduced n fs free h
  freed_reduced n (universal f) free h = freed_reduced n f free h
  freed_reduced n (existential f) free h = freed_reduced n f free h

  all_freed_reduced : (n : ℕ) (fs : Forms) → occurs_in n fs ≡ false → HaveReducedTerms fs → HaveReducedTerms (all_freed n fs)
  all_freed_reduced n no_form free h = tt
  all_freed_reduced n (and_form f fs) free h = let two = neither (occurs n f) (occurs_in n fs) free in (freed_reduced n f two.0 h.0, all_freed_reduced n fs two.1 h.1)

-- ---- members with the name, and without

bound_reduced : (n : ℕ) (fs : Forms) → HaveReducedTerms fs → HaveReducedTerms (bound n fs)
bound_reduced n no_form h = tt
bound_reduced n (and_form f fs) h = by_test HaveReducedTerms (occurs n f) (and_form f (bound n fs)) (bound n fs) (λ t. (h.0, bound_reduced n fs h.1)) (λ t. bound_reduced n fs h.1)

outer_reduced : (n : ℕ) (fs : Forms) → HaveReducedTerms fs → HaveReducedTerms (outer n fs)
outer_reduced n no_form h = tt
outer_reduced n (and_form f fs) h = by_test HaveReducedTerms (occurs n f) (outer n fs) (and_form (freed n f) (outer n fs)) (λ t. outer_reduced n fs h.1) (λ t. (freed_reduced n f t h.0, outer_reduced n fs h.1))

beside_all : (g : Form) (fs : Forms) → HasReducedTerms g → HaveReducedTerms fs → HasReducedTerms (beside conjunction g fs)
beside_all g no_form h k = h
beside_all g (and_form f fs) h k = (h, k)

beside_any : (g : Form) (fs : Forms) → HasReducedTerms g → HaveReducedTerms fs → HasReducedTerms (beside disjunction g fs)
beside_any g no_form h k = h
beside_any g (and_form f fs) h k = (h, k)

-- ---- quantifiers

every_name : (n : ℕ) (f : Form) → HasReducedTerms f → HasReducedTerms (over_name universal n f)
every_name n f h = by_test HasReducedTerms (occurs n f) (universal f) (freed n f) (λ t. h) (λ t. freed_reduced n f t h)

some_name : (n : ℕ) (f : Form) → HasReducedTerms f → HasReducedTerms (over_name existential n f)
some_name n f h = by_test HasReducedTerms (occurs n f) (existential f) (freed n f) (λ t. h) (λ t. freed_reduced n f t h)

mutual
  every_reduced : (n : ℕ) (f : Form) → HasReducedTerms f → HasReducedTerms (every n f)
  every_reduced n (conjunction fs) h = all_every_reduced n fs h
  every_reduced n (disjunction fs) h =
      by_test HasReducedTerms (occurs_in n fs) (beside disjunction (universal (disjunction (bound n fs))) (outer n fs)) (disjunction (all_freed n fs))
      (λ t. beside_any (universal (disjunction (bound n fs))) (outer n fs) (bound_reduced n fs h) (outer_reduced n fs h)) (λ t. all_freed_reduced n fs t h)
  every_reduced n (equal t) h = every_name n (equal t) h
  every_reduced n (unequal t) h = every_name n (unequal t) h
  every_reduced n (at_least t) h = every_name n (at_least t) h
  every_reduced n (holds p ts) h = every_name n (holds p ts) h
  every_reduced n (fails p ts) h = every_name n (fails p ts) h
  every_reduced n (differs f ts u) h = every_name n (differs f ts u) h
  every_reduced n (universal f) h = every_name n (universal f) h
  every_reduced n (existential f) h = every_name n (existential f) h

  all_every_reduced : (n : ℕ) (fs : Forms) → HaveReducedTerms fs → HaveReducedTerms (all_every n fs)
  all_every_reduced n no_form h = tt
  all_every_reduced n (and_form f fs) h = (every_reduced n f h.0, all_every_reduced n fs h.1)

mutual
  some_reduced : (n : ℕ) (f : Form) → HasReducedTerms f → HasReducedTerms (some n f)
  some_reduced n (conjunction fs) h =
      by_test HasReducedTerms (occurs_in n fs) (beside conjunction (existential (conjunction (bound n fs))) (outer n fs)) (conjunction (all_freed n fs))
      (λ t. beside_all (existential (conjunction (bound n fs))) (outer n fs) (bound_reduced n fs h) (outer_reduced n fs h)) (λ t. all_freed_reduced n fs t h)
  some_reduced n (disjunction fs) h = all_some_reduced n fs h
  some_reduced n (equal t) h = some_name n (equal t) h
  some_reduced n (unequal t) h = some_name n (unequal t) h
  some_reduced n (at_least t) h = some_name n (at_least t) h
  some_reduced n (holds p ts) h = some_name n (holds p ts) h
  some_reduced n (fails p ts) h = some_name n (fails p ts) h
  some_reduced n (differs f ts u) h = some_name n (differs f ts u) h
  some_reduced n (universal f) h = some_name n (universal f) h
  some_reduced n (existential f) h = some_name n (existential f) h

  all_some_reduced : (n : ℕ) (fs : Forms) → HaveReducedTerms fs → HaveReducedTerms (all_some n fs)
  all_some_reduced n no_form h = tt
  all_some_reduced n (and_form f fs) h = (some_reduced n f h.0, all_some_reduced n fs h.1)

-- ---- the whole formula

mutual
  miniscoped_reduced : (n : ℕ) (f : Form) → HasReducedTerms f → HasReducedTerms (miniscoped n f)
  miniscoped_reduced n (equal t) h = h
  miniscoped_reduced n (unequal t) h = h
  miniscoped_reduced n (at_least t) h = h
  miniscoped_reduced n (holds p ts) h = h
  miniscoped_reduced n (fails p ts) h = h
  miniscoped_reduced n (differs f ts u) h = h
  miniscoped_reduced n (conjunction fs) h = all_miniscoped_reduced n fs h
  miniscoped_reduced n (disjunction fs) h = all_miniscoped_reduced n fs h
  miniscoped_reduced n (universal f) h = every_reduced n (miniscoped (suc n) f) (miniscoped_reduced (suc n) f h)
  miniscoped_reduced n (existential f) h = some_reduced n (miniscoped (suc n) f) (miniscoped_reduced (suc n) f h)

  all_miniscoped_reduced : (n : ℕ) (fs : Forms) → HaveReducedTerms fs → HaveReducedTerms (all_miniscoped n fs)
  all_miniscoped_reduced n no_form h = tt
  all_miniscoped_reduced n (and_form f fs) h = (miniscoped_reduced n f h.0, all_miniscoped_reduced n fs h.1)

pub scoped_below_reduced : (n : ℕ) (f : Form) → HasReducedTerms f → HasReducedTerms (scoped_below n f)
scoped_below_reduced n (universal f) h = scoped_below_reduced (suc n) f h
scoped_below_reduced n f h = miniscoped_reduced n f h
