-- What the lines of the answer to a script mean (SMT-LIB 2.6, section 4.2.6).
use Rattle.std.specs.Prelude.{◌≡◌, ℕ, ℤ, List, [], ◌∷◌, ◌++◌, length, None, map, Option, Some}
use Rattle.smt_lists.specs.declared.tree.Sexp.{Sexp}
use Rattle.form_typed.specs.Truth.{Meaning}
use Rattle.smt_terms.specs.Scripts.{IsSatisfied, State}
use Rattle.model_table.specs.Models.{meaning_of}
use Rattle.model_table.specs.declared.model.Model.{Model}
use Rattle.pri_typing.specs.declared.problem.Problem.{Problem}
use Rattle.smt_models.specs.Models.{model_text}
use Rattle.smt_models.specs.Values.{symbol_values}
use Rattle.smt_reader.specs.Posed.{IsCheckPosed, IsSatisfiable}
use Rattle.job_smt.specs.declared.checking.CheckAnswer.{CheckAnswer}
use Rattle.job_smt.specs.declared.models.Checked.{Checked}
use Rattle.job_smt.specs.declared.models.Shown.{Shown}
use Rattle.job_smt.specs.declared.checking.CheckAnswer.TheVariants.{Unsat, Sat, Unknown}
use Rattle.base_answers.specs.Answer.{refused_answer}
use Rattle.job_smt.specs.Answers.{replied}
use Rattle.smt_reader.specs.Read.{read_as}
use Rattle.smt_lists.specs.Grammar.{IsScriptText}
use Rattle.smt_commands.specs.Faults.{refusal_of}
use Rattle.smt_reader.specs.Commands.{script_terms}
use Rattle.smt_reader.specs.Poses.{checks_in}
use Rattle.smt_reader.specs.Replies.{replies}

-- Unsat says that no integers of the Int constants satisfy the assertions of the check, in the interpretation; Sat says that some
-- do, in a finite one
abbrev pub Means : Meaning → State → CheckAnswer → Type 0
Means w s Unsat = (u : List ℤ) → length u ≡ length s.constants → ¬ (IsSatisfied w u s)
Means w s Sat = IsSatisfiable s
Means w s (Unknown cause) = Unit {0}

-- What is shown is the text of a model of the check, and the values of symbols there: with its tables and its integers of the Int
-- constants each assertion is true.
pub record ShowsModel (s : State) (x : Shown) : Type 0 where
  pub problem : Problem
  pub model : Model
  pub constants : List ℤ
  pub posed : IsCheckPosed s problem
  pub fit : length constants ≡ length s.constants
  pub satisfies : IsSatisfied (meaning_of model) constants s
  pub shown : x.text ≡ model_text problem model constants
  pub values : x.values ≡ symbol_values problem model constants

-- so it is where something is shown
abbrev pub ShowsModels : State → Option Shown → Type 0
ShowsModels s None = Unit {0}
ShowsModels s (Some x) = ShowsModel s x

-- the answer says so of its check, and the model is one of it
abbrev pub MeansAll : Meaning → State → Checked → Type 0
MeansAll w s a = Means w s a.answer × ShowsModels s a.model

-- each answer says so of its check
abbrev pub AllMean : Meaning → List State → List Checked → Type 0
AllMean w [] [] = Unit {0}
AllMean w [] (a ∷ xs) = ⊥
AllMean w (s ∷ ss) [] = ⊥
AllMean w (s ∷ ss) (a ∷ xs) = MeansAll w s a × AllMean w ss xs

-- so does each answer, to the first checks
abbrev pub FirstMean : Meaning → List State → List Checked → Type 0
FirstMean w ss [] = Unit {0}
FirstMean w [] (a ∷ xs) = ⊥
FirstMean w (s ∷ ss) (a ∷ xs) = MeansAll w s a × FirstMean w ss xs

-- the bytes are a script without faults, the text tells answers to its checks and what its other commands say, and each answer says what
-- is so
pub record Scripted (w : Meaning) (bytes text : List ℕ) : Type 0 where
  pub lists : List Sexp
  pub said : IsScriptText bytes lists
  pub fits : refusal_of script_terms (read_as lists) ≡ None
  pub answers : List Checked
  pub lines : text ≡ replied (replies (read_as lists)) answers
  pub mean : AllMean w (checks_in (read_as lists)) answers

-- a beginning of the bytes is a script without faults, the text tells answers to its first checks and what its other commands say, each
-- answer says what is so, and a refusal stands after them
pub record ScriptedBefore (w : Meaning) (bytes text : List ℕ) : Type 0 where
  pub kept : List ℕ
  pub rest : List ℕ
  pub parts : bytes ≡ kept ++ rest
  pub lists : List Sexp
  pub said : IsScriptText kept lists
  pub fits : refusal_of script_terms (read_as lists) ≡ None
  pub answers : List Checked
  pub name : List ℕ
  pub lines : text ≡ replied (replies (read_as lists)) answers ++ (refused_answer name).text
  pub mean : FirstMean w (checks_in (read_as lists)) answers
