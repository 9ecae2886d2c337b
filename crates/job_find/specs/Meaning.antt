-- What the answers of `find` mean.
use Rattle.std.specs.Prelude.{◌≡◌, ◌⊎◌, ℕ, ℤ, Bool, true, false, List, [], ◌++◌}
use Rattle.base_answers.specs.Answer.{Answer}
use Rattle.base_answers.specs.declared.form.ProofForm.TheVariants.{Whole}
use Rattle.form_typed.specs.Truth.{Meaning}
use Rattle.job_find.specs.Found.{found_answer, found_part}
use Rattle.job_seeking.specs.Sought.{IsClauseFileAt}
use Rattle.job_solve.specs.Headline.{Refutes, Validates}
use Rattle.job_solve.specs.Proved.{ProvesInvalid, ProvesValid}
use Rattle.pri_problem.specs.Answers.{Poses}
use Rattle.pri_problem.specs.Encoded.{Fits}
use Rattle.pri_typing.specs.Problems.{Holds}
use Rattle.pri_typing.specs.declared.problem.Problem.{Problem}

-- the bytes pose a problem that holds at the values of the text, in every interpretation; the part has a clause proof of that, where one
-- is asked for
pub record Solves (proves : Bool) (bytes text part : List ℕ) : Type 0 where
  pub problem : Problem
  pub poses : Poses bytes problem
  pub fits : Fits problem
  pub values : List ℤ
  pub holds : (w : Meaning) → Holds w problem values
  pub told : text ≡ (found_answer problem values).text
  pub file : List ℕ
  pub proof : IsClauseFileAt problem values file
  pub part_is : part ≡ found_part proves file

-- the bytes read as a problem of which the text says that it is valid, as `solve` does; the part has a proof tree, where a proof is asked for
pub record SolvesByRun (w : Meaning) (proves : Bool) (bytes text part : List ℕ) : Type 0 where
  pub valid : Validates w bytes text
  pub proved : proves ≡ true → ProvesValid Whole bytes text part

-- What an answer to a file of these bytes means: a text, and after it a part with the proof, if one is asked for. At status 0 the bytes read
-- as a problem that holds at the values of the text, or that is valid as the text says; at status 1 as one that is refuted, with a
-- counterexample where it has predicates or functions.
pub record FindMeans (w : Meaning) (proves : Bool) (bytes : List ℕ) (answer : Answer) : Type 0 where
  pub text : List ℕ
  pub part : List ℕ
  pub whole : answer.text ≡ text ++ part
  pub none : proves ≡ false → part ≡ []
  pub found : answer.status ≡ 0 → Solves proves bytes text part ⊎ SolvesByRun w proves bytes text part
  pub refuted : answer.status ≡ 1 → Refutes bytes text
  pub disproved : answer.status ≡ 1 → (part ≡ []) ⊎ ProvesInvalid Whole bytes part
