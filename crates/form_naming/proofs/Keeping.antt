-- A renamed formula is over one name more, and reduced.
use Rattle.std.proofs.Common.{ℕ, suc, ◌≡◌, ◌≢◌, ◌+◌, ◌<◌, ◌≤◌, ◌&&◌, true, nat_eq, nat_lt, List, [], ◌∷◌, map, All, sym, subst, arith, ℤ, pos, negsuc}
use Rattle.std.specs.List.{AllByRecursion, list_all}
use Rattle.std.proofs.lemmas.Bool.{and_parts}
use Rattle.std.proofs.lemmas.Bool.Decides.{nat_tests}
use Rattle.std.proofs.lemmas.Int.{ints}
use Rattle.std.proofs.lemmas.List.Elements.{All-nil, All-cons, All-head, All-tail, All-map}
use Rattle.linear_term.specs.Linear.{Linear, IsOver, IsReduced, IsRisingFrom}
use Rattle.linear_term.proofs.Totals.{by_test}
use Rattle.formula.specs.Form.{Form, Forms, equal, unequal, at_least, holds, fails, differs, conjunction, disjunction, universal, existential, no_form, and_form, IsFormOver, AreFormsOver}
use Rattle.formula.specs.Reduced.{HasReducedTerms, HaveReducedTerms}
use Rattle.formula.specs.Shifts.{raised_name, raised, shifted, all_shifted}
use Rattle.formula.proofs.Extending.{over_more, over_name}
use Rattle.formula.proofs.Overs.{form_over}
use Rattle.formula.proofs.Raising.{rising_raised}
use Rattle.form_naming.specs.Naming.{are_over, is_above, same_terms, less_name, named, all_named, renamed, reading}
use Rattle.form_naming.proofs.Naming.{terms_over}

-- ---- names

less_name_over : (n m : ℕ) (t : Linear) → n < m → IsOver m t → IsOver m (less_name n t)
less_name_over n m t lt h = All-cons (λ (p : ℕ × ℤ). p.0 < m) (n, negsuc 0) t.pairs lt h

mutual
  named_over : (n m f : ℕ) (ss : List Linear) (g : Form) → n < m → IsFormOver m g → IsFormOver m (named n f ss g)
  named_over n m f ss (equal t) lt h = h
  named_over n m f ss (unequal t) lt h = h
  named_over n m f ss (at_least t) lt h = h
  named_over n m f ss (holds p ts) lt h = h
  named_over n m f ss (fails p ts) lt h = h
  named_over n m f ss (differs g ts u) lt h =
      by_test (IsFormOver m) (nat_eq f g && (same_terms ss ts && is_above n u)) (unequal (less_name n u)) (differs g ts u) (λ t. less_name_over n m u lt h.1) (λ t. h)
  named_over n m f ss (conjunction gs) lt h = all_named_over n m f ss gs lt h
  named_over n m f ss (disjunction gs) lt h = all_named_over n m f ss gs lt h
  named_over n m f ss (universal g) lt h = named_over n (suc m) f ss g (omega (arith, lt)) h
  named_over n m f ss (existential g) lt h = named_over n (suc m) f ss g (omega (arith, lt)) h

  all_named_over : (n m f : ℕ) (ss : List Linear) (gs : Forms) → n < m → AreFormsOver m gs → AreFormsOver m (all_named n f ss gs)
  all_named_over n m f ss no_form lt h = tt
  all_named_over n m f ss (and_form g gs) lt h = (named_over n m f ss g lt h.0, all_named_over n m f ss gs lt h.1)

pub renamed_over : (n f : ℕ) (ss : List Linear) (g : Form) → IsFormOver n g → IsFormOver (n + 1) (renamed n f ss g)
renamed_over n f ss g h =
    let none : n + 0 ≡ n = omega arith in
    let one : (n + 1) + 0 ≡ n + 1 = omega arith in
    named_over n (n + 1) f ss (shifted n 1 g) (omega arith)
    (subst (λ m. IsFormOver m (shifted n 1 g)) one (form_over n 1 0 g (subst (λ m. IsFormOver m g) (sym none) h)))

terms_more : (n m : ℕ) (ts : List Linear) → n ≤ m → All (IsOver n) ts → All (IsOver m) ts
terms_more n m [] le h = All-nil (IsOver m)
terms_more n m (t ∷ ts) le h = All-cons (IsOver m) t ts (over_more n m t le (All-head (IsOver n) t ts h)) (terms_more n m ts le (All-tail (IsOver n) t ts h))

pub reading_over : (n f : ℕ) (ss : List Linear) (body : Form) → are_over n ss ≡ true → IsFormOver (n + 1) body → IsFormOver n (reading n f ss body)
reading_over n f ss body test h =
    let up : n + 1 ≡ suc n = omega arith in
    ((terms_more n (suc n) ss (omega arith) (terms_over n ss test), over_name (suc n) n (omega arith)), (subst (λ m. IsFormOver m body) up h, tt))

-- ---- reduced terms

raised_reduced : (n k : ℕ) (t : Linear) → IsReduced t → IsReduced (raised n k t)
unfolding raised
raised_reduced n k t h = record {
  rising = rising_raised n k 0 0 t.pairs (λ x le. omega arith) h.rising;
  not_zero = All-map (λ (q : ℕ × ℤ). q.1 ≢ pos 0) (λ (q : ℕ × ℤ). (raised_name n k q.0, q.1)) t.pairs h.not_zero;
}

all_raised_reduced : (n k : ℕ) (ts : List Linear) → AllByRecursion IsReduced ts → AllByRecursion IsReduced (map (raised n k) ts)
all_raised_reduced n k [] h = tt
all_raised_reduced n k (t ∷ ts) h = (raised_reduced n k t h.0, all_raised_reduced n k ts h.1)

mutual
  shifted_reduced : (n k : ℕ) (f : Form) → HasReducedTerms f → HasReducedTerms (shifted n k f)
  shifted_reduced n k (equal t) h = raised_reduced n k t h
  shifted_reduced n k (unequal t) h = raised_reduced n k t h
  shifted_reduced n k (at_least t) h = raised_reduced n k t h
  shifted_reduced n k (holds p ts) h = all_raised_reduced n k ts h
  shifted_reduced n k (fails p ts) h = all_raised_reduced n k ts h
  shifted_reduced n k (differs f ts u) h = (all_raised_reduced n k ts h.0, raised_reduced n k u h.1)
  shifted_reduced n k (conjunction fs) h = all_shifted_reduced n k fs h
  shifted_reduced n k (disjunction fs) h = all_shifted_reduced n k fs h
  shifted_reduced n k (universal f) h = shifted_reduced n k f h
  shifted_reduced n k (existential f) h = shifted_reduced n k f h

  all_shifted_reduced : (n k : ℕ) (fs : Forms) → HaveReducedTerms fs → HaveReducedTerms (all_shifted n k fs)
  all_shifted_reduced n k no_form h = tt
  all_shifted_reduced n k (and_form f fs) h = (shifted_reduced n k f h.0, all_shifted_reduced n k fs h.1)

above : (n x : ℕ) → nat_lt n x ≡ true → n < x
above n x h = grind (arith, nat_tests)

pub rising_above : (n k : ℕ) (ps : List (ℕ × ℤ)) → list_all (λ (p : ℕ × ℤ). nat_lt n p.0) ps ≡ true → IsRisingFrom k ps → IsRisingFrom (n + 1) ps
rising_above n k [] h r = tt
rising_above n k (p ∷ ps) h r =
    let two = and_parts (nat_lt n p.0) (list_all (λ (q : ℕ × ℤ). nat_lt n q.0) ps) h in
    (omega (arith, above n p.0 two.0), r.1)

minus_one : negsuc 0 ≢ pos 0
minus_one h = omega (arith, ints, h)

less_name_reduced : (n : ℕ) (t : Linear) → is_above n t ≡ true → IsReduced t → IsReduced (less_name n t)
less_name_reduced n t test h = record {
  rising = (omega arith, rising_above n 0 t.pairs test h.rising);
  not_zero = All-cons (λ (q : ℕ × ℤ). q.1 ≢ pos 0) (n, negsuc 0) t.pairs minus_one h.not_zero;
}

mutual
  named_reduced : (n f : ℕ) (ss : List Linear) (g : Form) → HasReducedTerms g → HasReducedTerms (named n f ss g)
  named_reduced n f ss (equal t) h = h
  named_reduced n f ss (unequal t) h = h
  named_reduced n f ss (at_least t) h = h
  named_reduced n f ss (holds p ts) h = h
  named_reduced n f ss (fails p ts) h = h
  named_reduced n f ss (differs g ts u) h =
      by_test HasReducedTerms (nat_eq f g && (same_terms ss ts && is_above n u)) (unequal (less_name n u)) (differs g ts u)
      (λ t. less_name_reduced n u (and_parts (same_terms ss ts) (is_above n u) (and_parts (nat_eq f g) (same_terms ss ts && is_above n u) t).1).1 h.1)
      (λ t. h)
  named_reduced n f ss (conjunction gs) h = all_named_reduced n f ss gs h
  named_reduced n f ss (disjunction gs) h = all_named_reduced n f ss gs h
  named_reduced n f ss (universal g) h = named_reduced n f ss g h
  named_reduced n f ss (existential g) h = named_reduced n f ss g h

  all_named_reduced : (n f : ℕ) (ss : List Linear) (gs : Forms) → HaveReducedTerms gs → HaveReducedTerms (all_named n f ss gs)
  all_named_reduced n f ss no_form h = tt
  all_named_reduced n f ss (and_form g gs) h = (named_reduced n f ss g h.0, all_named_reduced n f ss gs h.1)

pub renamed_reduced : (n f : ℕ) (ss : List Linear) (g : Form) → HasReducedTerms g → HasReducedTerms (renamed n f ss g)
renamed_reduced n f ss g h = named_reduced n f ss (shifted n 1 g) (shifted_reduced n 1 g h)
