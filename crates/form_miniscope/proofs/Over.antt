-- A miniscoped formula is over the names of the formula.
use Rattle.std.proofs.Common.{ℕ, suc, ◌≡◌, ◌-◌, ◌<◌, ◌≤◌, true, false, nat_eq, nat_lt, List, [], ◌∷◌, map, All, arith, ℤ}
use Rattle.std.specs.List.{list_any}
use Rattle.std.proofs.lemmas.Bool.Decides.{nat_tests}
use Rattle.std.proofs.lemmas.List.Elements.{All-nil, All-cons, All-head, All-tail}
use Rattle.linear_term.specs.Linear.{Linear, IsOver}
use Rattle.linear_term.proofs.Totals.{by_test}
use Rattle.formula.specs.Form.{Form, Forms, equal, unequal, at_least, holds, fails, differs, conjunction, disjunction, universal, existential, no_form, and_form, IsFormOver, AreFormsOver}
use Rattle.form_miniscope.specs.Lowering.{has, some_has, occurs, occurs_in, lowered_name, lowered, freed, all_freed}
use Rattle.form_miniscope.specs.Miniscope.{bound, outer, beside, over_name, every, all_every, some, all_some, miniscoped, all_miniscoped, scoped_below}
use Rattle.form_miniscope.proofs.Lowering.{neither}

name_over : (n m x : ℕ) → n ≤ m → nat_eq x n ≡ false → x < suc m → lowered_name n x < m
name_over n m x le other lt = by_test (λ y. y < m) (nat_lt n x) (x - 1) x (λ t. above t) (λ t. at t)
  where
    above : nat_lt n x ≡ true → x - 1 < m
    above t = grind (arith, nat_tests)

    at : nat_lt n x ≡ false → x < m
    at t = grind (arith, nat_tests)

pairs_over : (n m : ℕ) (ps : List (ℕ × ℤ)) → n ≤ m → list_any (λ (p : ℕ × ℤ). nat_eq p.0 n) ps ≡ false → All (λ (p : ℕ × ℤ). p.0 < suc m) ps → All (λ (p : ℕ × ℤ). p.0 < m) (map (λ (p : ℕ × ℤ). (lowered_name n p.0, p.1)) ps)
pairs_over n m [] le h o = All-nil (λ (p : ℕ × ℤ). p.0 < m)
pairs_over n m (p ∷ ps) le h o =
    let two = neither (nat_eq p.0 n) (list_any (λ (q : ℕ × ℤ). nat_eq q.0 n) ps) h in
    All-cons (λ (q : ℕ × ℤ). q.0 < m) (lowered_name n p.0, p.1) (map (λ (q : ℕ × ℤ). (lowered_name n q.0, q.1)) ps)
    (name_over n m p.0 le two.0 (All-head (λ (q : ℕ × ℤ). q.0 < suc m) p ps o)) (pairs_over n m ps le two.1 (All-tail (λ (q : ℕ × ℤ). q.0 < suc m) p ps o))

terms_over : (n m : ℕ) (ts : List Linear) → n ≤ m → some_has n ts ≡ false → All (IsOver (suc m)) ts → All (IsOver m) (map (lowered n) ts)
terms_over n m [] le h o = All-nil (IsOver m)
terms_over n m (t ∷ ts) le h o =
    let two = neither (has n t) (some_has n ts) h in
    All-cons (IsOver m) (lowered n t) (map (lowered n) ts) (pairs_over n m t.pairs le two.0 (All-head (IsOver (suc m)) t ts o)) (terms_over n m ts le two.1 (All-tail (IsOver (suc m)) t ts o))

mutual
  freed_over : (n m : ℕ) (f : Form) → n ≤ m → occurs n f ≡ false → IsFormOver (suc m) f → IsFormOver m (freed n f)
  freed_over n m (equal t) le h o = pairs_over n m t.pairs le h o
  freed_over n m (unequal t) le h o = pairs_over n m t.pairs le h o
  freed_over n m (at_least t) le h o = pairs_over n m t.pairs le h o
  freed_over n m (holds p ts) le h o = terms_over n m ts le h o
  freed_over n m (fails p ts) le h o = terms_over n m ts le h o
  freed_over n m (differs f ts u) le h o = let two = neither (has n u) (some_has n ts) h in (terms_over n m ts le two.1 o.0, pairs_over n m u.pairs le two.0 o.1)
  freed_over n m (conjunction fs) le h o = all_freed_over n m fs le h o
  freed_over n m (disjunction fs) le h o = all_freed_over n m fs le h o
  freed_over n m (universal f) le h o = freed_over n (suc m) f (omega (arith, le)) h o
  freed_over n m (existential f) le h o = freed_over n (suc m) f (omega (arith, le)) h o

  all_freed_over : (n m : ℕ) (fs : Forms) → n ≤ m → occurs_in n fs ≡ false → AreFormsOver (suc m) fs → AreFormsOver m (all_freed n fs)
  all_freed_over n m no_form le h o = tt
  all_freed_over n m (and_form f fs) le h o = let two = neither (occurs n f) (occurs_in n fs) h in (freed_over n m f le two.0 o.0, all_freed_over n m fs le two.1 o.1)

bound_over : (n m : ℕ) (fs : Forms) → AreFormsOver m fs → AreFormsOver m (bound n fs)
bound_over n m no_form o = tt
bound_over n m (and_form f fs) o = by_test (AreFormsOver m) (occurs n f) (and_form f (bound n fs)) (bound n fs) (λ t. (o.0, bound_over n m fs o.1)) (λ t. bound_over n m fs o.1)

outer_over : (n : ℕ) (fs : Forms) → AreFormsOver (suc n) fs → AreFormsOver n (outer n fs)
outer_over n no_form o = tt
outer_over n (and_form f fs) o = by_test (AreFormsOver n) (occurs n f) (outer n fs) (and_form (freed n f) (outer n fs)) (λ t. outer_over n fs o.1) (λ t. (freed_over n n f (omega arith) t o.0, outer_over n fs o.1))

beside_all : (n : ℕ) (g : Form) (fs : Forms) → IsFormOver n g → AreFormsOver n fs → IsFormOver n (beside conjunction g fs)
beside_all n g no_form h o = h
beside_all n g (and_form f fs) h o = (h, o)

beside_any : (n : ℕ) (g : Form) (fs : Forms) → IsFormOver n g → AreFormsOver n fs → IsFormOver n (beside disjunction g fs)
beside_any n g no_form h o = h
beside_any n g (and_form f fs) h o = (h, o)

every_name : (n : ℕ) (f : Form) → IsFormOver (suc n) f → IsFormOver n (over_name universal n f)
every_name n f o = by_test (IsFormOver n) (occurs n f) (universal f) (freed n f) (λ t. o) (λ t. freed_over n n f (omega arith) t o)

some_name : (n : ℕ) (f : Form) → IsFormOver (suc n) f → IsFormOver n (over_name existential n f)
some_name n f o = by_test (IsFormOver n) (occurs n f) (existential f) (freed n f) (λ t. o) (λ t. freed_over n n f (omega arith) t o)

mutual
  every_over : (n : ℕ) (f : Form) → IsFormOver (suc n) f → IsFormOver n (every n f)
  every_over n (conjunction fs) o = all_every_over n fs o
  every_over n (disjunction fs) o =
      by_test (IsFormOver n) (occurs_in n fs) _ (freed n (disjunction fs)) (λ t. beside_any n (universal (disjunction (bound n fs))) (outer n fs) (bound_over n (suc n) fs o) (outer_over n fs o)) (λ t. freed_over n n (disjunction fs) (omega arith) t o)
  every_over n (equal t) o = every_name n (equal t) o
  every_over n (unequal t) o = every_name n (unequal t) o
  every_over n (at_least t) o = every_name n (at_least t) o
  every_over n (holds p ts) o = every_name n (holds p ts) o
  every_over n (fails p ts) o = every_name n (fails p ts) o
  every_over n (differs f ts u) o = every_name n (differs f ts u) o
  every_over n (universal f) o = every_name n (universal f) o
  every_over n (existential f) o = every_name n (existential f) o

  all_every_over : (n : ℕ) (fs : Forms) → AreFormsOver (suc n) fs → AreFormsOver n (all_every n fs)
  all_every_over n no_form o = tt
  all_every_over n (and_form f fs) o = (every_over n f o.0, all_every_over n fs o.1)

mutual
  some_over : (n : ℕ) (f : Form) → IsFormOver (suc n) f → IsFormOver n (some n f)
  some_over n (conjunction fs) o =
      by_test (IsFormOver n) (occurs_in n fs) _ (freed n (conjunction fs)) (λ t. beside_all n (existential (conjunction (bound n fs))) (outer n fs) (bound_over n (suc n) fs o) (outer_over n fs o)) (λ t. freed_over n n (conjunction fs) (omega arith) t o)
  some_over n (disjunction fs) o = all_some_over n fs o
  some_over n (equal t) o = some_name n (equal t) o
  some_over n (unequal t) o = some_name n (unequal t) o
  some_over n (at_least t) o = some_name n (at_least t) o
  some_over n (holds p ts) o = some_name n (holds p ts) o
  some_over n (fails p ts) o = some_name n (fails p ts) o
  some_over n (differs f ts u) o = some_name n (differs f ts u) o
  some_over n (universal f) o = some_name n (universal f) o
  some_over n (existential f) o = some_name n (existential f) o

  all_some_over : (n : ℕ) (fs : Forms) → AreFormsOver (suc n) fs → AreFormsOver n (all_some n fs)
  all_some_over n no_form o = tt
  all_some_over n (and_form f fs) o = (some_over n f o.0, all_some_over n fs o.1)

mutual
  pub miniscoped_over : (n : ℕ) (f : Form) → IsFormOver n f → IsFormOver n (miniscoped n f)
  miniscoped_over n (equal t) o = o
  miniscoped_over n (unequal t) o = o
  miniscoped_over n (at_least t) o = o
  miniscoped_over n (holds p ts) o = o
  miniscoped_over n (fails p ts) o = o
  miniscoped_over n (differs f ts u) o = o
  miniscoped_over n (conjunction fs) o = all_miniscoped_over n fs o
  miniscoped_over n (disjunction fs) o = all_miniscoped_over n fs o
  miniscoped_over n (universal f) o = every_over n (miniscoped (suc n) f) (miniscoped_over (suc n) f o)
  miniscoped_over n (existential f) o = some_over n (miniscoped (suc n) f) (miniscoped_over (suc n) f o)

  all_miniscoped_over : (n : ℕ) (fs : Forms) → AreFormsOver n fs → AreFormsOver n (all_miniscoped n fs)
  all_miniscoped_over n no_form o = tt
  all_miniscoped_over n (and_form f fs) o = (miniscoped_over n f o.0, all_miniscoped_over n fs o.1)

pub scoped_below_over : (n : ℕ) (f : Form) → IsFormOver n f → IsFormOver n (scoped_below n f)
scoped_below_over n (universal f) o = scoped_below_over (suc n) f o
scoped_below_over n f o = miniscoped_over n f o
