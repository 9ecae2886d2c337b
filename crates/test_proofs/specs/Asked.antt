-- The formulas of the rows, and over how many constants each of them is.
use Rattle.std.specs.Prelude.{ℕ, [], ◌∷◌}
use Rattle.linear_term.specs.Linear.{name}
use Rattle.formula.specs.Form.{Form, and_form, conjunction, disjunction, existential, holds, no_form}
use Rattle.test_proofs.specs.declared.asked.Asked.{Asked}
use Rattle.test_proofs.specs.declared.asked.Asked.TheVariants as asked

-- the formula that is asked about
abbrev pub asked_form : Asked → Form
asked_form asked.Somewhere = existential (disjunction (and_form (holds 0 (name 0 ∷ [])) no_form))
asked_form asked.Truth = conjunction no_form

-- how many constants it has
abbrev pub asked_constants : Asked → ℕ
asked_constants _ = 0
