-- Problems of numbers alone.
use Rattle.std.specs.Prelude.{◌≡◌, ◌≤◌, ◌+◌, ◌*◌, ℕ, List}
use Rattle.base_budget.specs.Ending.{IsOutOfSteps}
use Rattle.form_typed.specs.Formula.{Formula, formula, applies, for_all, for_some}
use Rattle.pri_typing.specs.declared.problem.Problem.{Problem}
use Rattle.pri_typing.specs.Everywhere.{Everywhere}
use Rattle.pri_typing.specs.Problems.{IsNoCall}
use Rattle.formula.specs.Sizes.{size}
use Rattle.form_encoding.specs.Problems.{constants, problem_root}
use Rattle.pri_problem.specs.Answers.{Poses}
use Rattle.pri_problem.specs.Encoded.{Fits}
use Rattle.job_solve.specs.Solved.{run_end}

-- neither a predicate nor a quantifier
abbrev pub IsGroundFormula : ℕ → Formula → Type 0
IsGroundFormula n (applies p ts) = ⊥
IsGroundFormula n (for_all s f) = ⊥
IsGroundFormula n (for_some s f) = ⊥
IsGroundFormula n _ = Unit {0}

-- the problem has no constant, quantifier, predicate or function
pub record IsGround (p : Problem) : Type 0 where
  pub alone : constants p ≡ 0
  pub plain : Everywhere (record { of_formula = IsGroundFormula; of_term = IsNoCall }) 0 (formula p.formula)

-- seven steps a node of its encoding, and three more, are enough for such a problem
abbrev pub IsEnough : ℕ → List ℕ → Type 0
IsEnough budget bytes = (p : Problem) → Poses bytes p → Fits p → IsGround p → 7 * size (problem_root p).value + 3 ≤ budget → ¬ (IsOutOfSteps (run_end budget p))
