-- Quantifiers moved inwards, to the members that have their name.
use Rattle.std.specs.Prelude.{ℕ, suc, cond}
use Rattle.formula.specs.Form.{Form, Forms, equal, unequal, at_least, holds, fails, differs, conjunction, disjunction, universal, existential, no_form, and_form}
use Rattle.form_miniscope.specs.Lowering.{occurs, occurs_in, freed, all_freed}

-- the members that have the name n
abbrev pub bound : ℕ → Forms → Forms
bound n no_form = no_form
bound n (and_form f fs) = cond (occurs n f) (and_form f (bound n fs)) (bound n fs)

-- the other members, without the place of n
abbrev pub outer : ℕ → Forms → Forms
outer n no_form = no_form
outer n (and_form f fs) = cond (occurs n f) (outer n fs) (and_form (freed n f) (outer n fs))

-- g with the members fs; alone where there are none
abbrev pub beside : (Forms → Form) → Form → Forms → Form
beside c g no_form = g
beside c g (and_form f fs) = c (and_form g (and_form f fs))

-- a quantifier over a formula; without it where the name n does not occur
abbrev pub over_name : (Form → Form) → ℕ → Form → Form
over_name q n f = cond (occurs n f) (q f) (freed n f)

abbrev mutual
  -- every value of the name n makes f true: for-all goes to the members of "and", and leaves those of "or" that lack the name
  pub every : ℕ → Form → Form
  every n (conjunction fs) = conjunction (all_every n fs)
  every n (disjunction fs) = cond (occurs_in n fs) (beside disjunction (universal (disjunction (bound n fs))) (outer n fs)) (disjunction (all_freed n fs))
  every n (equal t) = over_name universal n (equal t)
  every n (unequal t) = over_name universal n (unequal t)
  every n (at_least t) = over_name universal n (at_least t)
  every n (holds p ts) = over_name universal n (holds p ts)
  every n (fails p ts) = over_name universal n (fails p ts)
  every n (differs f ts u) = over_name universal n (differs f ts u)
  every n (universal f) = over_name universal n (universal f)
  every n (existential f) = over_name universal n (existential f)

  pub all_every : ℕ → Forms → Forms
  all_every n no_form = no_form
  all_every n (and_form f fs) = and_form (every n f) (all_every n fs)

abbrev mutual
  -- some value of the name n makes f true: for-some goes to the members of "or", and leaves those of "and" that lack the name
  pub some : ℕ → Form → Form
  some n (conjunction fs) = cond (occurs_in n fs) (beside conjunction (existential (conjunction (bound n fs))) (outer n fs)) (conjunction (all_freed n fs))
  some n (disjunction fs) = disjunction (all_some n fs)
  some n (equal t) = over_name existential n (equal t)
  some n (unequal t) = over_name existential n (unequal t)
  some n (at_least t) = over_name existential n (at_least t)
  some n (holds p ts) = over_name existential n (holds p ts)
  some n (fails p ts) = over_name existential n (fails p ts)
  some n (differs f ts u) = over_name existential n (differs f ts u)
  some n (universal f) = over_name existential n (universal f)
  some n (existential f) = over_name existential n (existential f)

  pub all_some : ℕ → Forms → Forms
  all_some n no_form = no_form
  all_some n (and_form f fs) = and_form (some n f) (all_some n fs)

abbrev mutual
  -- the formula over n with each quantifier moved inwards, innermost first
  pub miniscoped : ℕ → Form → Form
  miniscoped n (equal t) = equal t
  miniscoped n (unequal t) = unequal t
  miniscoped n (at_least t) = at_least t
  miniscoped n (holds p ts) = holds p ts
  miniscoped n (fails p ts) = fails p ts
  miniscoped n (differs f ts u) = differs f ts u
  miniscoped n (conjunction fs) = conjunction (all_miniscoped n fs)
  miniscoped n (disjunction fs) = disjunction (all_miniscoped n fs)
  miniscoped n (universal f) = every n (miniscoped (suc n) f)
  miniscoped n (existential f) = some n (miniscoped (suc n) f)

  pub all_miniscoped : ℕ → Forms → Forms
  all_miniscoped n no_form = no_form
  all_miniscoped n (and_form f fs) = and_form (miniscoped n f) (all_miniscoped n fs)

-- the formula over n with its first for-alls as they are, and what stands below them miniscoped
abbrev pub scoped_below : ℕ → Form → Form
scoped_below n (universal f) = universal (scoped_below (suc n) f)
scoped_below n f = miniscoped n f
