-- The negation of a formula without predicates and functions, in negation normal form.
use Rattle.std.specs.Prelude.{pos, negsuc}
use Rattle.linear_term.specs.Linear.{number}
use Rattle.base_budget.specs.Trace.{Traced, just, next, combining}
use Rattle.formula.specs.Form.{Form, Forms, equal, unequal, at_least, holds, fails, differs, conjunction, disjunction, universal, existential, no_form, and_form}

abbrev mutual
  -- the negation in negation normal form: t >= 0 becomes -t - 1 >= 0, with its raw numbers; and and or, for-all and
  -- for-some, and each atom and its negation change places
  pub dual : Form → Traced Form
  dual (equal t) = just (unequal t)
  dual (unequal t) = just (equal t)
  dual (at_least t) = next (combining (negsuc 0) t (pos 1) (number (negsuc 0))) (λ u. just (at_least u))
  dual (holds p ts) = just (fails p ts)
  dual (fails p ts) = just (holds p ts)
  dual (differs f ts u) = just (differs f ts u)
  dual (conjunction fs) = next (duals fs) (λ gs. just (disjunction gs))
  dual (disjunction fs) = next (duals fs) (λ gs. just (conjunction gs))
  dual (universal f) = next (dual f) (λ g. just (existential g))
  dual (existential f) = next (dual f) (λ g. just (universal g))

  pub duals : Forms → Traced Forms
  duals no_form = just no_form
  duals (and_form f fs) = next (dual f) (λ g. next (duals fs) (λ gs. just (and_form g gs)))
