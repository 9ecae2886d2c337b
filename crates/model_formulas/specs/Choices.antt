-- The values that a function has at terms, each where a formula is true.
use Rattle.std.specs.Prelude.{◌≡◌, ℤ, Bool, true, false, List, [], ◌∷◌, Option, None, Some, if◌then◌else◌}
use Rattle.std.specs.List.{AllByRecursion}
use Rattle.linear_term.specs.Linear.{Linear}
use Rattle.form_typed.specs.Truth.{Meaning}
use Rattle.formula.specs.Form.{FormTruth, is_pure, values_of}
use Rattle.formula.specs.Tree.{form}
use Rattle.formula.specs.declared.calculus.Core.{Core}
use Rattle.model_table.specs.declared.model.ValueEntry.{ValueEntry}
use Rattle.model_table.specs.Models.{is_at}
use Rattle.model_formulas.specs.declared.choosing.Guard.{Guard}
use Rattle.model_formulas.specs.Expansions.{Tells}

-- where a guard is true, the value is its own; and at no place are all guards false
pub record AreChoices (gs : List Guard) (V : List ℤ → ℤ) : Type 0 where
  pub pure : AllByRecursion (λ g. is_pure (form g.when) ≡ true) gs
  pub only : (w : Meaning) (e : List ℤ) → AllByRecursion (λ g. FormTruth w (form g.when) e → g.value ≡ V e) gs
  pub some : (w : Meaning) (e : List ℤ) → ¬ (AllByRecursion (λ g. ¬ (FormTruth w (form g.when) e)) gs)

-- some row is at xs
abbrev pub is_met : List ValueEntry → List ℤ → Bool
is_met [] xs = false
is_met (row ∷ rows) xs = if is_at row.at xs then true else is_met rows xs

-- the formula is true where the arguments have the values xs, and no earlier row is at xs; or there is no such place
abbrev pub IsGuard : List Linear → List ValueEntry → List ℤ → Option Core → Type 0
IsGuard arguments before xs None = (e : List ℤ) → values_of arguments e ≡ xs → is_met before xs ≡ true
IsGuard arguments before xs (Some when) = Tells (form when) (λ e. values_of arguments e ≡ xs) × (is_met before xs ≡ false)
