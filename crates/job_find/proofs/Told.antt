-- The line with the values, and the proof after it.
use Rattle.std.proofs.Common.{◌≡◌, ◌≢◌, ℕ, ℤ, Bool, true, false, List, [], ◌∷◌, ◌++◌, length, refl, sym, append-nil, codes, arith}
use Rattle.base_answers.specs.Answer.{line}
use Rattle.job_find.specs.Found.{found_line, found_part}
use Rattle.pri_printer.specs.Printed.{solution_text}
use Rattle.pri_typing.specs.declared.problem.Problem.{Problem}

pub valid_line : (p : Problem) (names : List (List ℕ)) (vs : List ℤ) → length names ≡ 0 → line (codes "VALID") ≡ found_line names p vs
valid_line p [] vs h = refl
valid_line p (name ∷ names) vs h = absurd (omega (arith, h))

pub values_line : (p : Problem) (names : List (List ℕ)) (vs : List ℤ) → length names ≢ 0 → found_line names p vs ≡ line (codes "solution: " ++ solution_text p vs)
values_line p [] vs h = absurd (h refl)
values_line p (name ∷ names) vs h = refl

pub part_left_out : (text file : List ℕ) (proves : Bool) → proves ≡ false → text ≡ text ++ found_part proves file
part_left_out text file true off = absurd cc
part_left_out text file false off = sym (append-nil text)

pub part_told : (file : List ℕ) (proves : Bool) → proves ≡ true → found_part proves file ≡ codes "proof:\n" ++ file
part_told file true on = refl
part_told file false on = absurd cc
