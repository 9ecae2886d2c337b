-- Where the work on an atom binds a name, makes two cases, or ends.
use Rattle.std.specs.Prelude.{ℕ, ◌+◌, suc, ◌≤◌, ◌≡◌, Bool, cond, List, ◌∷◌, reverse, Result}
use Rattle.linear_term.specs.Linear as linear
use Rattle.linear_term.specs.Linear.{Linear}
use Rattle.form_typed.specs.Formula.{formula}
use Rattle.base_budget.specs.declared.fault.StepFault.{StepFault}
use Rattle.base_budget.specs.Trace.{Traced, just, next}
use Rattle.base_budget.specs.Work.{Worked}
use Rattle.formula.specs.Form.{Form, holds, fails, conjunction, no_form}
use Rattle.form_encoding.specs.Encoding.{related, signed_relation, encoded}
use Rattle.form_encoding.specs.Extent as extents
use Rattle.form_encoding.specs.Extent.{leaf, in_both, above, above_two, extent}
use Rattle.function_encoding.specs.Actions.{Action, parted, behind, ran}
use Rattle.function_encoding.specs.Ranged.{HasRangedNumbers}
use Rattle.function_encoding.specs.Room.{extent_left, AreActionsRanged}
use Rattle.function_encoding.specs.Weight.{weight, weight_left}
use Rattle.function_encoding.specs.declared.stop.Stop.{Stop}
use Rattle.function_encoding.specs.declared.stop.Stop.TheVariants as stop
use Rattle.function_encoding.specs.declared.stop.Test.{Test}
use Rattle.function_encoding.specs.declared.stop.Test.TheVariants as test

-- the test, with a sign
abbrev pub tested : List ℕ → ℕ → Test → Bool → Traced Form
tested at n (test.Formula g) plus = encoded at n plus (formula g.now)
tested at n (test.Relation r a b) plus = related (signed_relation plus r) a b

-- the formula that a stop makes, with the actions after it
abbrev pub stopped : List ℕ → ℕ → List Action → Stop → Traced Form
stopped at n c stop.Nothing = just (conjunction no_form)
stopped at n c (stop.Related r a b) = related r a b
stopped at n c (stop.Predicate plus p ts) = just (cond plus (holds p ts) (fails p ts))
stopped at n c (stop.Graph f ts vs) = next (ran at c (suc n) (linear.name n ∷ reverse vs)) (λ g. just (behind f ts n g))
stopped at n c (stop.Cases b first turned second) = parted (tested at n b) (reverse first) turned (reverse second) (ran at c n)

abbrev pub test_extent : Test → extents.Extent
test_extent (test.Formula g) = extent (formula g.now)
test_extent (test.Relation r a b) = leaf

abbrev pub stop_extent : Stop → extents.Extent → extents.Extent
stop_extent stop.Nothing e = leaf
stop_extent (stop.Related r a b) e = leaf
stop_extent (stop.Predicate plus p ts) e = leaf
stop_extent (stop.Graph f ts vs) e = above (above_two leaf e)
stop_extent (stop.Cases b first turned second) e = in_both (test_extent b) e

abbrev pub IsTestRanged : Test → Type 0
IsTestRanged (test.Formula g) = HasRangedNumbers (formula g.now)
IsTestRanged (test.Relation r a b) = Unit {0}

abbrev pub IsStopRanged : Stop → Type 0
IsStopRanged (stop.Cases b first turned second) = IsTestRanged b
IsStopRanged _ = Unit {0}

-- how much work is left: a measure of recursions
abbrev pub test_weight : Test → ℕ
test_weight (test.Formula g) = weight (formula g.now)
test_weight (test.Relation r a b) = 0

abbrev pub stop_weight : Stop → ℕ → ℕ
stop_weight (stop.Graph f ts vs) w = w + 2
stop_weight (stop.Cases b first turned second) w = test_weight b + w + 2
stop_weight _ w = 0

-- the stop is what this action is over this stack
pub record IsStopOf (a : Action) (vs : List Linear) (s : Stop) : Type 0 where
  pub is : (at : List ℕ) (n : ℕ) (c : List Action) → stopped at n c s ≡ ran at (a ∷ c) n vs
  pub extent : (c : List Action) → stop_extent s (extent_left c) ≡ extent_left (a ∷ c)
  pub ranged : (c : List Action) → AreActionsRanged (a ∷ c) → IsStopRanged s × AreActionsRanged c
  pub weight : (c : List Action) → stop_weight s (weight_left c) ≤ weight_left (a ∷ c)

-- the stop and what is after it are what the actions come to over this stack
pub record Halts (at : List ℕ) (c : List Action) (vs : List Linear) (s : Stop) (more : List Action) : Type 0 where
  pub works : (n : ℕ) (r : Result Form StepFault) → Worked (stopped at n more s) r → Worked (ran at c n vs) r
  pub extent : stop_extent s (extent_left more) ≡ extent_left c
  pub ranged : IsStopRanged s × AreActionsRanged more
  pub weight : stop_weight s (weight_left more) ≤ weight_left c
