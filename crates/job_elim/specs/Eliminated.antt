-- What `elim` answers: one row for each end of the elimination of all quantifiers of the encoded problem.
use Rattle.std.specs.Prelude.{◌≡◌, ℕ, List, [], length, codes}
use Rattle.linear_term.specs.declared.range.Place.{Place}
use Rattle.base_budget.specs.Trace.{At, at}
use Rattle.clause_set.specs.declared.literal.Literal.{Literal}
use Rattle.elim_laws.specs.Whole.{eliminating}
use Rattle.base_budget.specs.Ending.{Ending, ending, ends_with, out_of_steps, overflows}
use Rattle.pri_typing.specs.declared.problem.Problem.{Problem}
use Rattle.form_encoding.specs.Problems.{problem_root}
use Rattle.base_answers.specs.Answer.{Answer, unknown_answer}
use Rattle.pri_lines.specs.Constraint.{IsTextOf, constraint_line}
use Rattle.pri_problem.specs.Answers.{AnswersFile}
use Rattle.pri_problem.specs.Encoded.{AnswersEncoded, AnswersPure}

-- the answer with a constraint
abbrev pub made_answer : List ℕ → Answer
made_answer x = record { status = 0; text = constraint_line x }

-- the answer to a problem whose elimination ends so
pub data AnswersElimEnd (p : Problem) (end : Ending (List (List Literal))) (answer : Answer) : Type 0 where
  made : (d : List (List Literal)) (stands : At) (x : List ℕ) → end ≡ ends_with d stands → IsTextOf p d x → answer ≡ made_answer x → AnswersElimEnd p end answer
  steps : (stands : At) → end ≡ out_of_steps stands → answer ≡ unknown_answer (codes "steps") → AnswersElimEnd p end answer
  overflow : (numbers : List Place) (stands : At) → end ≡ overflows numbers stands → answer ≡ unknown_answer (codes "overflow") → AnswersElimEnd p end answer

-- how the elimination of the encoded problem, over its existential constants, ends with this budget
abbrev pub elimination_end : ℕ → Problem → Ending (List (List Literal))
elimination_end budget p = ending (eliminating (length p.existentials) (problem_root p).value) (at (record { budget = budget; spent = 0 }) [])

-- the answer to a problem whose encoding fits
abbrev pub AnswersElimination : ℕ → Problem → Answer → Type 0
AnswersElimination budget p answer = AnswersElimEnd p (elimination_end budget p) answer

-- the answer of `elim` with this budget to the bytes of a file
abbrev pub IsEliminated : ℕ → List ℕ → Answer → Type 0
IsEliminated budget = AnswersFile (AnswersPure (AnswersEncoded (AnswersElimination budget)))
