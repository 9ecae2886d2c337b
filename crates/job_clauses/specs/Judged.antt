-- What the clause search finds of a problem, judged.
use Rattle.std.specs.Prelude.{◌≡◌, ℕ, List, []}
use Rattle.clause_file.specs.Verdicts.{HoldsClauseProof}
use Rattle.form_encoding.specs.Problems.{problem_root}
use Rattle.job_clauses.specs.declared.judging.Judged.{Judged}
use Rattle.job_clauses.specs.declared.judging.Judged.TheVariants.{Proof, Refuted, Nothing}
use Rattle.model_refuting.specs.Refuting.{IsModelCounterexample}
use Rattle.pri_typing.specs.declared.problem.Problem.{Problem}
use Rattle.proof_file.specs.Body.{body}

-- the file holds a clause proof of the problem, which has no existential constants, and nothing else
pub record IsClauseFile (p : Problem) (file : List ℕ) : Type 0 where
  pub holds : HoldsClauseProof (problem_root p).value 0 file []
  pub own : body file ≡ file

-- a proof is one of the problem, and a model with values of the universal constants is a counterexample
abbrev pub IsJudged : Problem → Judged → Type 0
IsJudged p (Proof text) = IsClauseFile p text.items
IsJudged p (Refuted model universals) = IsModelCounterexample p [] model universals.items
IsJudged p Nothing = Unit {0}
