-- What a file poses, where a job takes no applications.
use Rattle.std.specs.Prelude.{◌≡◌, ℕ, List, Some, None, codes}
use Rattle.pri_typing.specs.declared.problem.Problem.{Problem}
use Rattle.base_answers.specs.Answer.{placed}
use Rattle.pri_problem.specs.Answers.{PosesOne}

-- the bytes pose a problem without applications that is so
abbrev pub PosesPure : List ℕ → (Problem → Type 0) → Type 0
PosesPure bytes Is = PosesOne bytes (λ p. (p.first_application ≡ None) × Is p)

-- they pose a problem with an application, and first there
abbrev pub PosesImpure : List ℕ → ℕ → Type 0
PosesImpure bytes at = PosesOne bytes (λ p. p.first_application ≡ Some at)

-- they pose such a problem, and the place of its first application is written as `at` is
abbrev pub ComesOfImpure : List ℕ → ℕ → Type 0
ComesOfImpure bytes at = (first : ℕ) × PosesImpure bytes first × (placed (codes "Impure") first ≡ placed (codes "Impure") at)
