-- How large a formula of the calculus is.
use Rattle.std.specs.Prelude.{ℕ, ◌+◌, max}
use Rattle.formula.specs.Form.{Form, Forms, conjunction, disjunction, universal, existential, no_form, and_form}

abbrev mutual
  -- the number of nodes: of connectives, quantifiers and atoms
  pub size : Form → ℕ
  size (conjunction fs) = 1 + sizes fs
  size (disjunction fs) = 1 + sizes fs
  size (universal f) = 1 + size f
  size (existential f) = 1 + size f
  size _ = 1

  pub sizes : Forms → ℕ
  sizes no_form = 0
  sizes (and_form f fs) = size f + sizes fs

abbrev mutual
  -- the most nodes on one way from the root to an atom or to an empty connective
  pub depth : Form → ℕ
  depth (conjunction fs) = 1 + depths fs
  depth (disjunction fs) = 1 + depths fs
  depth (universal f) = 1 + depth f
  depth (existential f) = 1 + depth f
  depth _ = 1

  pub depths : Forms → ℕ
  depths no_form = 0
  depths (and_form f fs) = max (depth f) (depths fs)
