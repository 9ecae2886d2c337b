-- Comparisons of numbers under connectives.
use Rattle.formula.specs.Form.{Form, Forms, equal, unequal, at_least, holds, fails, differs, conjunction, disjunction, universal, existential, no_form, and_form}

abbrev mutual
  -- the formula has no quantifier, predicate or function
  pub IsClosed : Form → Type 0
  IsClosed (equal t) = Unit {0}
  IsClosed (unequal t) = Unit {0}
  IsClosed (at_least t) = Unit {0}
  IsClosed (holds p ts) = ⊥
  IsClosed (fails p ts) = ⊥
  IsClosed (differs f ts u) = ⊥
  IsClosed (conjunction fs) = AreClosed fs
  IsClosed (disjunction fs) = AreClosed fs
  IsClosed (universal f) = ⊥
  IsClosed (existential f) = ⊥

  pub AreClosed : Forms → Type 0
  AreClosed no_form = Unit {0}
  AreClosed (and_form f fs) = IsClosed f × AreClosed fs
