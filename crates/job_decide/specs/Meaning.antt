-- What the answers of `solve` mean.
use Rattle.std.specs.Prelude.{◌≡◌, ◌⊎◌, ℕ, ℤ, Bool, List, [], ◌++◌, codes, Option, Some, None}
use Rattle.base_answers.specs.Answer.{Answer, line}
use Rattle.base_answers.specs.declared.form.ProofForm.{ProofForm}
use Rattle.form_typed.specs.Formula.{formula}
use Rattle.form_typed.specs.Truth.{Meaning, Truth}
use Rattle.job_clauses.specs.Judged.{IsClauseFile}
use Rattle.job_decide.specs.Decided.{model_answer}
use Rattle.job_solve.specs.Headline.{Refutes, Validates}
use Rattle.job_solve.specs.Proved.{ProvesInvalid, ProvesValid}
use Rattle.model_refuting.specs.Refuting.{IsModelCounterexample}
use Rattle.model_table.specs.declared.model.Model.{Model}
use Rattle.pri_problem.specs.Answers.{Poses}
use Rattle.pri_problem.specs.Encoded.{Fits}
use Rattle.pri_problem.specs.Reads.{Reads}
use Rattle.pri_typing.specs.Problems.{IsPure, IsRefuted}
use Rattle.pri_typing.specs.declared.problem.Problem.{Problem}

-- the part is the line `proof:`, and after it a clause proof of the problem that the bytes pose
pub record PrintsClauses (bytes part : List ℕ) : Type 0 where
  pub problem : Problem
  pub poses : Poses bytes problem
  pub fits : Fits problem
  pub alone : problem.existentials ≡ []
  pub file : List ℕ
  pub line : part ≡ line (codes "proof:") ++ file
  pub proof : IsClauseFile problem file

-- the part has a proof of just what the text says: by a tree, or by clauses
abbrev pub ProvesValidBy : ProofForm → List ℕ → List ℕ → List ℕ → Type 0
ProvesValidBy form bytes text part = ProvesValid form bytes text part ⊎ PrintsClauses bytes part

-- The bytes read as a problem that is refuted, and the text says so by a finite model and values of the universal constants. Without
-- predicates and functions the formula is false at these values in every interpretation.
pub record RefutesInModel (shows : Bool) (bytes text : List ℕ) : Type 0 where
  pub problem : Problem
  pub reads : Reads bytes problem
  pub refuted : IsRefuted problem
  pub model : Model
  pub universals : List ℤ
  pub is : IsModelCounterexample problem [] model universals
  pub everywhere : IsPure problem → (w : Meaning) → ¬ (Truth w (formula problem.formula) universals)
  pub told : text ≡ (model_answer shows problem universals model).text

-- the bytes read as a problem that is refuted, and the text says why, as the canonical run does or by a model
abbrev pub RefutesBy : Bool → List ℕ → List ℕ → Type 0
RefutesBy shows bytes text = Refutes bytes text ⊎ RefutesInModel shows bytes text

-- the part has a proof that the problem is invalid; there is none where what is printed is a counterexample, or the search found a model
abbrev pub ProvesInvalidBy : Bool → ProofForm → List ℕ → List ℕ → List ℕ → Type 0
ProvesInvalidBy shows form bytes text part = ProvesInvalid form bytes part ⊎ ((part ≡ []) × RefutesInModel shows bytes text)

-- What an answer to a file of these bytes means: a text, and after it a part with the proof, if one is asked for. At VALID the bytes
-- read as a problem of which the text says that it is valid, and the part proves that; at INVALID as one that is refuted.
pub record Means (w : Meaning) (shows : Bool) (asked : Option ProofForm) (bytes : List ℕ) (answer : Answer) : Type 0 where
  pub text : List ℕ
  pub part : List ℕ
  pub whole : answer.text ≡ text ++ part
  pub none : asked ≡ None → part ≡ []
  pub valid : answer.status ≡ 0 → Validates w bytes text
  pub invalid : answer.status ≡ 1 → RefutesBy shows bytes text
  pub proved : (form : ProofForm) → asked ≡ Some form → answer.status ≡ 0 → ProvesValidBy form bytes text part
  pub disproved : (form : ProofForm) → asked ≡ Some form → answer.status ≡ 1 → ProvesInvalidBy shows form bytes text part
