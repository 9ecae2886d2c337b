-- A shifted formula speaks of the names of the formula, raised.
use Rattle.std.proofs.Common.{◌≡◌, ℕ, suc, ◌+◌, ◌<◌, ℤ, nat_lt, List, [], ◌∷◌, map, All, sym, subst, arith}
use Rattle.std.proofs.lemmas.List.Elements.{All-nil, All-cons, All-head, All-tail}
use Rattle.linear_term.specs.Linear.{Linear, IsOver}
use Rattle.linear_term.proofs.Totals.{by_test}
use Rattle.formula.specs.Form.{Form, Forms, equal, unequal, at_least, holds, fails, differs, conjunction, disjunction, universal, existential, no_form, and_form, IsFormOver, AreFormsOver}
use Rattle.formula.specs.Shifts.{raised_name, raised, shifted, all_shifted}

-- b names after n, raised by k
name_over : (n k b x : ℕ) → x < n + b → raised_name n k x < (n + k) + b
name_over n k b x lt = by_test (λ y. y < (n + k) + b) (nat_lt x n) x (x + k) (λ t. omega (arith, lt)) (λ t. omega (arith, lt))

pairs_over : (n k b : ℕ) (ps : List (ℕ × ℤ)) → All (λ (p : ℕ × ℤ). p.0 < n + b) ps → All (λ (p : ℕ × ℤ). p.0 < (n + k) + b) (map (λ (p : ℕ × ℤ). (raised_name n k p.0, p.1)) ps)
pairs_over n k b [] h = All-nil (λ (q : ℕ × ℤ). q.0 < (n + k) + b)
pairs_over n k b (p ∷ ps) h =
    All-cons (λ (q : ℕ × ℤ). q.0 < (n + k) + b) (raised_name n k p.0, p.1) (map (λ (q : ℕ × ℤ). (raised_name n k q.0, q.1)) ps)
    (name_over n k b p.0 (All-head (λ (q : ℕ × ℤ). q.0 < n + b) p ps h)) (pairs_over n k b ps (All-tail (λ (q : ℕ × ℤ). q.0 < n + b) p ps h))

term_over : (n k b : ℕ) (t : Linear) → IsOver (n + b) t → IsOver ((n + k) + b) (raised n k t)
unfolding raised
term_over n k b t h = pairs_over n k b t.pairs h

terms_over : (n k b : ℕ) (ts : List Linear) → All (IsOver (n + b)) ts → All (IsOver ((n + k) + b)) (map (raised n k) ts)
terms_over n k b [] h = All-nil (IsOver ((n + k) + b))
terms_over n k b (t ∷ ts) h =
    All-cons (IsOver ((n + k) + b)) (raised n k t) (map (raised n k) ts) (term_over n k b t (All-head (IsOver (n + b)) t ts h)) (terms_over n k b ts (All-tail (IsOver (n + b)) t ts h))

one_up : (n b : ℕ) → n + suc b ≡ suc (n + b)
one_up n b = omega arith

mutual
  pub form_over : (n k b : ℕ) (f : Form) → IsFormOver (n + b) f → IsFormOver ((n + k) + b) (shifted n k f)
  form_over n k b (equal t) h = term_over n k b t h
  form_over n k b (unequal t) h = term_over n k b t h
  form_over n k b (at_least t) h = term_over n k b t h
  form_over n k b (holds p ts) h = terms_over n k b ts h
  form_over n k b (fails p ts) h = terms_over n k b ts h
  form_over n k b (differs f ts u) h = (terms_over n k b ts h.0, term_over n k b u h.1)
  form_over n k b (conjunction fs) h = forms_over n k b fs h
  form_over n k b (disjunction fs) h = forms_over n k b fs h
  form_over n k b (universal f) h = subst (λ m. IsFormOver m (shifted n k f)) (one_up (n + k) b) (form_over n k (suc b) f (subst (λ m. IsFormOver m f) (sym (one_up n b)) h))
  form_over n k b (existential f) h = subst (λ m. IsFormOver m (shifted n k f)) (one_up (n + k) b) (form_over n k (suc b) f (subst (λ m. IsFormOver m f) (sym (one_up n b)) h))

  pub forms_over : (n k b : ℕ) (fs : Forms) → AreFormsOver (n + b) fs → AreFormsOver ((n + k) + b) (all_shifted n k fs)
  forms_over n k b no_form h = tt
  forms_over n k b (and_form f fs) h = (form_over n k b f h.0, forms_over n k b fs h.1)
