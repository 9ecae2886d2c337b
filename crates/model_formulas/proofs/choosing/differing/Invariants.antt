use Rattle.std.proofs.Common.{◌≡◌, ℕ, ℤ, List, drop}
use Rattle.form_typed.specs.Truth.{Meaning}
use Rattle.linear_term.specs.Linear.{value_of}
use Rattle.model_formulas.specs.Choices.{AreChoices}
use Rattle.model_formulas.proofs.Chosen.{CasesSo}
use Rattle.model_formulas.proofs.choosing.differing.Given as goal

abbrev pub invariant-loop-guard : goal.invariant-loop-guard
invariant-loop-guard l = (V : List ℤ → ℤ) → AreChoices l.guards V → (w : Meaning) (n : ℕ) → CasesSo w n (λ e v. ¬ (v ≡ value_of l.u e)) l.guards (drop l.guard-index l.guards) l.out
