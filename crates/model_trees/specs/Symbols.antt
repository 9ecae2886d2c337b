-- Which predicates and functions formulas and tables speak of, and with how many arguments.
use Rattle.std.specs.Prelude.{ℕ, length}
use Rattle.std.specs.List.{AllByRecursion}
use Rattle.form_typed.specs.declared.world.Table.{Table}
use Rattle.formula.specs.Form.{Form, Forms, equal, unequal, at_least, holds, fails, differs, conjunction, disjunction, universal, existential, no_form, and_form}

-- the predicates and the functions that there are, by number, with this many arguments
pub record Vocabulary : Type 1 where
  pub predicate : ℕ → ℕ → Type 0
  pub function : ℕ → ℕ → Type 0

abbrev mutual
  -- the formula speaks of these alone
  pub SpeaksIn : Vocabulary → Form → Type 0
  SpeaksIn y (equal t) = Unit {0}
  SpeaksIn y (unequal t) = Unit {0}
  SpeaksIn y (at_least t) = Unit {0}
  SpeaksIn y (holds p ts) = y.predicate p (length ts)
  SpeaksIn y (fails p ts) = y.predicate p (length ts)
  SpeaksIn y (differs f ts u) = y.function f (length ts)
  SpeaksIn y (conjunction fs) = AllSpeakIn y fs
  SpeaksIn y (disjunction fs) = AllSpeakIn y fs
  SpeaksIn y (universal f) = SpeaksIn y f
  SpeaksIn y (existential f) = SpeaksIn y f

  pub AllSpeakIn : Vocabulary → Forms → Type 0
  AllSpeakIn y no_form = Unit {0}
  AllSpeakIn y (and_form f fs) = SpeaksIn y f × AllSpeakIn y fs

-- each row of the table is one of these
pub record TableSpeaksIn (y : Vocabulary) (t : Table) : Type 0 where
  pub truths : AllByRecursion (λ r. y.predicate r.id (length r.at)) t.truths
  pub values : AllByRecursion (λ r. y.function r.id (length r.at)) t.values
