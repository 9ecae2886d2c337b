-- An application of a function at arguments over the outer names, and a name for its value.
use Rattle.std.specs.Prelude.{ℕ, negsuc, Bool, true, false, ◌&&◌, cond, nat_eq, nat_le, nat_lt, List, ◌∷◌, Option, Some, None}
use Rattle.std.specs.List.{list_all}
use Rattle.std.specs.Ordering.{is_eq}
use Rattle.std.specs.Cmp.Lexicographic.{pointwise}
use Rattle.linear_term.specs.Linear.{Linear, name}
use Rattle.linear_term.specs.Order.{linear_cmp}
use Rattle.formula.specs.Form.{Form, Forms, equal, unequal, at_least, holds, fails, differs, conjunction, disjunction, universal, existential, no_form, and_form}
use Rattle.formula.specs.Shifts.{shifted}

-- the names of the term are below n
abbrev pub is_over : ℕ → Linear → Bool
is_over n t = list_all (λ p. nat_lt p.0 n) t.pairs

-- the names of the terms are
abbrev pub are_over : ℕ → List Linear → Bool
are_over n ts = list_all (is_over n) ts

-- the names of the term are n and above, above n
abbrev pub is_from : ℕ → Linear → Bool
is_from n t = list_all (λ p. nat_le n p.0) t.pairs

abbrev pub is_above : ℕ → Linear → Bool
is_above n t = list_all (λ p. nat_lt n p.0) t.pairs

-- the terms are equal
abbrev pub same_term : Linear → Linear → Bool
same_term s t = is_eq (linear_cmp s t)

abbrev pub same_terms : List Linear → List Linear → Bool
same_terms ss ts = pointwise same_term ss ts

-- t less the name n, for a term whose names are above n
abbrev pub less_name : ℕ → Linear → Linear
less_name n t = record { pairs = (n, negsuc 0) ∷ t.pairs; constant = t.constant }

abbrev pub either : {A : Type 0} → Option A → Option A → Option A
either None y = y
either (Some x) y = Some x

abbrev mutual
  -- without predicates, and with functions only at arguments over n, with values of other names
  pub is_pure_but : ℕ → Form → Bool
  is_pure_but n (equal t) = true
  is_pure_but n (unequal t) = true
  is_pure_but n (at_least t) = true
  is_pure_but n (holds p ts) = false
  is_pure_but n (fails p ts) = false
  is_pure_but n (differs f ts u) = are_over n ts && is_from n u
  is_pure_but n (conjunction fs) = are_pure_but n fs
  is_pure_but n (disjunction fs) = are_pure_but n fs
  is_pure_but n (universal f) = is_pure_but n f
  is_pure_but n (existential f) = is_pure_but n f

  pub are_pure_but : ℕ → Forms → Bool
  are_pure_but n no_form = true
  are_pure_but n (and_form f fs) = is_pure_but n f && are_pure_but n fs

abbrev mutual
  -- the first application at arguments over n
  pub application : ℕ → Form → Option (ℕ × List Linear)
  application n (equal t) = None
  application n (unequal t) = None
  application n (at_least t) = None
  application n (holds p ts) = None
  application n (fails p ts) = None
  application n (differs f ts u) = cond (are_over n ts) (Some (f, ts)) None
  application n (conjunction fs) = application_in n fs
  application n (disjunction fs) = application_in n fs
  application n (universal f) = application n f
  application n (existential f) = application n f

  pub application_in : ℕ → Forms → Option (ℕ × List Linear)
  application_in n no_form = None
  application_in n (and_form f fs) = either (application n f) (application_in n fs)

-- the atom that u is not the value of g at ts, with the name n for the application of f at ss
abbrev pub atom : ℕ → ℕ → List Linear → ℕ → List Linear → Linear → Form
atom n f ss g ts u = cond (nat_eq f g && (same_terms ss ts && is_above n u)) (unequal (less_name n u)) (differs g ts u)

abbrev mutual
  -- the formula with the name n for the application of f at ss
  pub named : ℕ → ℕ → List Linear → Form → Form
  named n f ss (equal t) = equal t
  named n f ss (unequal t) = unequal t
  named n f ss (at_least t) = at_least t
  named n f ss (holds p ts) = holds p ts
  named n f ss (fails p ts) = fails p ts
  named n f ss (differs g ts u) = atom n f ss g ts u
  named n f ss (conjunction fs) = conjunction (all_named n f ss fs)
  named n f ss (disjunction fs) = disjunction (all_named n f ss fs)
  named n f ss (universal g) = universal (named n f ss g)
  named n f ss (existential g) = existential (named n f ss g)

  pub all_named : ℕ → ℕ → List Linear → Forms → Forms
  all_named n f ss no_form = no_form
  all_named n f ss (and_form g gs) = and_form (named n f ss g) (all_named n f ss gs)

-- the formula over n brought under a new name n, which stands for the application of f at ss
abbrev pub renamed : ℕ → ℕ → List Linear → Form → Form
renamed n f ss g = named n f ss (shifted n 1 g)

-- for all values of the name n: it is not the value of f at ss, or the body is true
abbrev pub reading : ℕ → ℕ → List Linear → Form → Form
reading n f ss body = universal (disjunction (and_form (differs f ss (name n)) (and_form body no_form)))
