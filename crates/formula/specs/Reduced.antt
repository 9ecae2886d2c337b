-- Formulas whose terms are reduced, as those of the code are.
use Rattle.std.specs.List.{AllByRecursion}
use Rattle.linear_term.specs.Linear.{IsReduced}
use Rattle.formula.specs.Form.{Form, Forms, equal, unequal, at_least, holds, fails, differs, conjunction, disjunction, universal, existential, no_form, and_form}

abbrev mutual
  -- the names of each term rise, and no coefficient is 0
  pub HasReducedTerms : Form → Type 0
  HasReducedTerms (equal t) = IsReduced t
  HasReducedTerms (unequal t) = IsReduced t
  HasReducedTerms (at_least t) = IsReduced t
  HasReducedTerms (holds p ts) = AllByRecursion IsReduced ts
  HasReducedTerms (fails p ts) = AllByRecursion IsReduced ts
  HasReducedTerms (differs f ts u) = AllByRecursion IsReduced ts × IsReduced u
  HasReducedTerms (conjunction fs) = HaveReducedTerms fs
  HasReducedTerms (disjunction fs) = HaveReducedTerms fs
  HasReducedTerms (universal f) = HasReducedTerms f
  HasReducedTerms (existential f) = HasReducedTerms f

  pub HaveReducedTerms : Forms → Type 0
  HaveReducedTerms no_form = Unit {0}
  HaveReducedTerms (and_form f fs) = HasReducedTerms f × HaveReducedTerms fs
