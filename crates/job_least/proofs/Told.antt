-- The line of the best values.
use Rattle.std.proofs.Common.{◌≡◌, ◌≢◌, ℕ, ℤ, List, [], ◌∷◌, ◌++◌, length, refl, codes, arith}
use Rattle.pri_typing.specs.declared.problem.Problem.{Problem}
use Rattle.pri_printer.specs.Printed.{solution_text}
use Rattle.base_answers.specs.Answer.{line}
use Rattle.job_least.specs.Leasts.{values_line}

pub none_line : (p : Problem) (names : List (List ℕ)) (vs : List ℤ) → length names ≡ 0 → [] ≡ values_line p names vs
none_line p [] vs h = refl
none_line p (name ∷ names) vs h = absurd (omega (arith, h))

pub some_line : (p : Problem) (names : List (List ℕ)) (vs : List ℤ) → length names ≢ 0 → values_line p names vs ≡ line (codes "at: " ++ solution_text p vs)
some_line p [] vs h = absurd (h refl)
some_line p (name ∷ names) vs h = refl
