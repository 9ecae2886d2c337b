-- An answer whose first line is told is that of `drill`.
use Rattle.std.proofs.Common.{◌≡◌, ℕ, false, List, None, Result, Ok, Err, IfOk, subst}
use Rattle.linear_term.specs.declared.range.Memory.{Memory}
use Rattle.problem_gen.specs.Drills.{drill_text}
use Rattle.base_answers.specs.Answer.{Answer, answer_of}
use Rattle.base_answers.specs.declared.output.Output.{Output}
use Rattle.job_decide.specs.Decided.{IsDecidedAs}
use Rattle.job_decide.specs.Drilled.{IsDrilled, drill_answer}

pub drilled_so : (budget count : ℕ) (solved : Answer) (bytes : List ℕ) (r : Result Output Memory) → bytes ≡ drill_text count → IsDecidedAs false false None budget bytes solved
    → IfOk r (λ o. answer_of o ≡ drill_answer count solved) → IfOk r (λ o. IsDrilled budget count (answer_of o))
drilled_so budget count solved bytes (Ok o) text solves drilled = record { solved = solved; solves = subst (λ t. IsDecidedAs false false None budget t solved) text solves; drilled = drilled }
drilled_so budget count solved bytes (Err e) text solves drilled = tt
