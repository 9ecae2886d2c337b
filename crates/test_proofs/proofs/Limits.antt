-- The formulas of the rows keep to the limits of a check.
use Rattle.std.proofs.Common.{◌≡◌, sym, subst, ◌<◌, ◌≤◌, ℕ, zero, suc, [], ◌∷◌, length, arith}
use Rattle.std.specs.Prelude.{slice_index_or}
use Rattle.base_limits.specs.Limits.{most_constants, most_levels, most_nodes}
use Rattle.formula.specs.Form.{Form, IsFormOver}
use Rattle.formula.specs.Searchable.{IsSearchable}
use Rattle.formula.specs.Sizes.{depth, size}
use Rattle.formula.proofs.Extending.{over_name}
use Rattle.linear_term.specs.Linear.{IsOver, Linear, name}
use Rattle.test_proofs.specs.Asked.{asked_constants, asked_form}
use Rattle.test_proofs.specs.declared.asked.Asked.{Asked}
use Rattle.test_proofs.specs.declared.asked.Asked.TheVariants as asked

-- a list of one term that is over n names
one_over : (n : ℕ) (t : Linear) → IsOver n t → (k : ℕ) (d : Linear) → k < length (t ∷ []) → IsOver n (slice_index_or (t ∷ []) k d)
one_over n t h zero d lt = h
one_over n t h (suc k) d lt = absurd (omega (arith, lt))

pub asked_over : (a : Asked) → IsFormOver (asked_constants a) (asked_form a)
asked_over asked.Somewhere = (one_over 1 (name 0) (over_name 1 0 (omega arith)), tt)
asked_over asked.Truth = tt

pub asked_size : (a : Asked) → size (asked_form a) ≤ most_nodes
asked_size asked.Somewhere = omega arith
asked_size asked.Truth = omega arith

pub asked_depth : (a : Asked) → depth (asked_form a) ≤ most_levels
asked_depth asked.Somewhere = omega arith
asked_depth asked.Truth = omega arith

pub few_constants : (a : Asked) → asked_constants a ≤ most_constants
few_constants _ = omega arith

-- whatever formula it is that a row asks of
pub asked_searchable : (a : Asked) (f : Form) (n : ℕ) → f ≡ asked_form a → n ≡ asked_constants a → IsSearchable f n
asked_searchable a f n form constants =
    subst (λ g. IsSearchable g n) (sym form)
    (subst (IsSearchable (asked_form a)) (sym constants) (record { over = asked_over a; size = asked_size a; depth = asked_depth a; constants = few_constants a }))

pub ruleset limits = (asked_searchable)
