-- What a run answers to its words over a source of named bytes, and what its end means.
use Rattle.std.specs.Prelude.{◌≡◌, ◌⊎◌, ◌+◌, ◌≤◌, ◌<◌, ◌^◌, ℕ, Bool, true, false, List, [], ◌∷◌, ◌++◌, length, map, Option, Some, None, Contains, String, string_bytes}
use Rattle.std.specs.declared.alloc.Global.{Global}
use Rattle.base_limits.specs.Limits.{most_budget, most_count}
use Rattle.form_typed.specs.Truth.{Meaning}
use Rattle.form_typed.specs.Formula.{Expression}
use Rattle.pri_typing.specs.declared.problem.Problem.{Problem}
use Rattle.prover_io.specs.Outside.{Broke, IsLonger, IsWhole}
use Rattle.base_answers.specs.Answer.{Answer}
use Rattle.base_answers.specs.Files.{AnswersSource, most_of_file, most_of_proof}
use Rattle.base_answers.specs.Outside.{Meets, PutsAll}
use Rattle.job_words.specs.Jobs.{Task, solve, eliminate, find_values, run_script, minimise, check, drill, files_of, NamesJob}
use Rattle.job_decide.specs.Causes.{IsCausedAs, IsRefutedByModel}
use Rattle.job_solve.specs.Proved.{IsImpure, ProvesInvalid}
use Rattle.pri_problem.specs.Answers.{PosesOne}
use Rattle.job_decide.specs.Decided.{IsDecidedAs}
use Rattle.job_decide.specs.Meaning.{Means, ProvesInvalidBy, ProvesValidBy, RefutesBy}
use Rattle.base_answers.specs.declared.form.ProofForm.{ProofForm}
use Rattle.base_answers.specs.declared.form.ProofForm.TheVariants.{Whole}
use Rattle.job_check.specs.Checked.{IsChecked}
use Rattle.job_check.specs.Meaning.{Confirms}
use Rattle.job_check.specs.Causes as check_causes
use Rattle.problem_gen.specs.Drills.{drill_text}
use Rattle.job_find.specs.Found.{IsFoundIn}
use Rattle.job_find.specs.Meaning.{Solves, SolvesByRun}
use Rattle.job_solve.specs.Headline.{Refutes, Validates}
use Rattle.job_decide.specs.Drilled.{IsDrilled, drill_answer}
use Rattle.job_elim.specs.Eliminated.{IsEliminated}
use Rattle.job_elim.specs.Causes as elim_causes
use Rattle.job_elim.specs.Meaning.{Constrained}
use Rattle.job_smt.specs.Answered.{IsSmtAnswer}
use Rattle.job_smt.specs.Meaning.{Scripted, ScriptedBefore}
use Rattle.job_least.specs.Causes as least_causes
use Rattle.job_least.specs.Decides as least_decides
use Rattle.job_least.specs.Leasts.{IsLeastAnswer}
use Rattle.job_least.specs.Meaning.{Minimised, Unsatisfied}

-- the words ask for this job
abbrev pub AskFor : List (String Global) → Task → Type 0
AskFor words = NamesJob (map string_bytes words)

-- the words ask for no job
abbrev pub AskForNothing : List (String Global) → Type 0
AskForNothing words = (task : Task) → ¬ (AskFor words task)

-- the words ask for no job that reads a file
abbrev pub AskForNoFile : List (String Global) → Type 0
AskForNoFile words = (task : Task) → AskFor words task → files_of task ≡ []

-- the status and what was put are those of an answer to a problem's file, of the bytes that are told, of which this holds
abbrev pub MeetsFile : (List ℕ → Answer → Type 0) → Option (List ℕ) → ℕ → Option (List ℕ) → Option (List ℕ) → Type 0
MeetsFile P told = Meets (AnswersSource most_of_file P told)

-- the numbers of a job are small enough for its work
abbrev pub IsSmallTask : Task → Type 0
IsSmallTask (solve file budget asked calculus shows) = budget ≤ most_budget
IsSmallTask (eliminate file budget) = budget < 2 ^ 32
IsSmallTask (find_values file budget proves) = budget ≤ most_budget
IsSmallTask (run_script file budget) = budget ≤ most_budget
IsSmallTask (minimise file term budget) = budget < 2 ^ 32
IsSmallTask (check file proof) = Unit {0}
IsSmallTask (drill count budget) = (count ≤ most_count) × (budget ≤ most_budget)

-- the answer of `check` to the bytes of a problem's file, and to the proof's file of the bytes that are told
abbrev pub AnswersWithProof : Option (List ℕ) → List ℕ → Answer → Type 0
AnswersWithProof told bytes = AnswersSource most_of_proof (λ proof. IsChecked proof bytes) told

-- the answer of each job
abbrev pub AnswersTask : (List ℕ → Option (List ℕ)) → Task → Answer → Type 0
AnswersTask bytes_of (solve file budget asked calculus shows) = AnswersSource most_of_file (IsDecidedAs calculus shows asked budget) (bytes_of file)
AnswersTask bytes_of (eliminate file budget) = AnswersSource most_of_file (IsEliminated budget) (bytes_of file)
AnswersTask bytes_of (find_values file budget proves) = AnswersSource most_of_file (IsFoundIn proves budget) (bytes_of file)
AnswersTask bytes_of (run_script file budget) = AnswersSource most_of_file (IsSmtAnswer budget) (bytes_of file)
AnswersTask bytes_of (minimise file term budget) = AnswersSource most_of_file (IsLeastAnswer term budget) (bytes_of file)
AnswersTask bytes_of (check file proof) = AnswersSource most_of_file (AnswersWithProof (bytes_of proof)) (bytes_of file)
AnswersTask bytes_of (drill count budget) = IsDrilled budget count

-- the name is that of a file of the job
abbrev pub IsJobFile : Task → Option (List ℕ) → Type 0
IsJobFile task name = (file : List ℕ) × Contains (files_of task) file × (name ≡ Some file)

-- how many bytes a job moves at most: of each of its files one past what such a file has at most
abbrev pub most_moved : Task → ℕ
most_moved (solve file budget asked calculus shows) = most_of_file + 1
most_moved (eliminate file budget) = most_of_file + 1
most_moved (find_values file budget proves) = most_of_file + 1
most_moved (run_script file budget) = most_of_file + 1
most_moved (minimise file term budget) = most_of_file + 1
most_moved (check file proof) = (most_of_file + 1) + (most_of_proof + 1)
most_moved (drill count budget) = 0

-- a problem's file whose bytes are told so is not longer than such a file may be
abbrev pub IsHeld : Option (List ℕ) → Type 0
IsHeld told = (bytes : List ℕ) × IsWhole told bytes × (length bytes ≤ most_of_file)

-- the names that a job begins which is answered: those of its files, in their order; but `check` begins the proof's file only where
-- the problem's is held, and none where that is too long
abbrev pub AreBegun : (List ℕ → Option (List ℕ)) → Task → List (List ℕ) → List (List ℕ) → Type 0
AreBegun bytes_of (check file proof) before after =
    (IsLonger (bytes_of file) most_of_file × (after ≡ before ++ file ∷ [])) ⊎ (IsHeld (bytes_of file) × (after ≡ before ++ file ∷ proof ∷ []))
AreBegun bytes_of task before after = after ≡ before ++ files_of task

-- the source is broken at a file of the job
abbrev pub BrokeAt : Task → Option (List ℕ) → Bool → Type 0
BrokeAt task name broken = (file : List ℕ) × Contains (files_of task) file × Broke (Some file) name broken

-- the bytes of a file, where they are told, read as a problem of which the text put says that it is valid; after it comes nothing,
-- or the part with a proof of that, in the form that is asked for
pub record SaysValid (w : Meaning) (asked : Option ProofForm) (told before after : Option (List ℕ)) : Type 0 where
  pub bytes : List ℕ
  pub whole : IsWhole told bytes
  pub text : List ℕ
  pub part : List ℕ
  pub put : PutsAll before after (text ++ part)
  pub valid : Validates w bytes text
  pub none : asked ≡ None → part ≡ []
  pub proved : (form : ProofForm) → asked ≡ Some form → ProvesValidBy form bytes text part

-- the bytes of a file, where they are told, read as a problem of which the text put says what is so
pub record SaysChecked (w : Meaning) (told before after : Option (List ℕ)) : Type 0 where
  pub bytes : List ℕ
  pub whole : IsWhole told bytes
  pub text : List ℕ
  pub put : PutsAll before after text
  pub confirms : Confirms w bytes text

-- the bytes of a file, where they are told, read as a problem that is refuted; the text put shows a counterexample where the problem
-- has predicates or functions, or where one is asked for and values are found, and after it comes nothing, or the part with a proof, in the
-- form that is asked for
pub record SaysRefuted (shows : Bool) (asked : Option ProofForm) (told before after : Option (List ℕ)) : Type 0 where
  pub bytes : List ℕ
  pub whole : IsWhole told bytes
  pub text : List ℕ
  pub part : List ℕ
  pub put : PutsAll before after (text ++ part)
  pub refuted : RefutesBy shows bytes text
  pub none : asked ≡ None → part ≡ []
  pub proved : (form : ProofForm) → asked ≡ Some form → ProvesInvalidBy shows form bytes text part

-- the bytes of a file, where they are told, read as a problem, and the text put is a constraint that is true exactly where it holds
pub record SaysConstraint (w : Meaning) (told before after : Option (List ℕ)) : Type 0 where
  pub bytes : List ℕ
  pub whole : IsWhole told bytes
  pub text : List ℕ
  pub put : PutsAll before after text
  pub constrained : Constrained w bytes text

-- the bytes of a file, where they are told, read as a problem, and the text put tells the least value of the term where it holds
pub record SaysLeast (w : Meaning) (term : List ℕ) (told before after : Option (List ℕ)) : Type 0 where
  pub bytes : List ℕ
  pub whole : IsWhole told bytes
  pub text : List ℕ
  pub put : PutsAll before after text
  pub minimised : Minimised w term bytes text

-- the bytes of a file, where they are told, read as a problem that holds at no values of its existential constants
pub record SaysNowhere (w : Meaning) (told : Option (List ℕ)) : Type 0 where
  pub bytes : List ℕ
  pub whole : IsWhole told bytes
  pub unsatisfied : Unsatisfied w bytes

-- the bytes of a file, where they are told, read as a problem that holds at the values of the text put, in every interpretation, or that is
-- valid as that says; after it comes nothing, or the part with a proof of that, where one is asked for
pub record SaysFound (w : Meaning) (proves : Bool) (told before after : Option (List ℕ)) : Type 0 where
  pub bytes : List ℕ
  pub whole : IsWhole told bytes
  pub text : List ℕ
  pub part : List ℕ
  pub put : PutsAll before after (text ++ part)
  pub found : Solves proves bytes text part ⊎ SolvesByRun w proves bytes text part
  pub none : proves ≡ false → part ≡ []

-- the bytes of a file, where they are told, read as a problem that is refuted; the text put shows a counterexample where it has predicates
-- or functions, and after it comes nothing, or the part with a proof tree
pub record SaysUnfound (proves : Bool) (told before after : Option (List ℕ)) : Type 0 where
  pub bytes : List ℕ
  pub whole : IsWhole told bytes
  pub text : List ℕ
  pub part : List ℕ
  pub put : PutsAll before after (text ++ part)
  pub refuted : Refutes bytes text
  pub none : proves ≡ false → part ≡ []
  pub disproved : (part ≡ []) ⊎ ProvesInvalid Whole bytes part

-- the bytes of a file, where they are told, are a script, and the text put has the lines of its checks and its other commands, which say
-- what is so
pub record SaysScript (w : Meaning) (told before after : Option (List ℕ)) : Type 0 where
  pub bytes : List ℕ
  pub whole : IsWhole told bytes
  pub text : List ℕ
  pub put : PutsAll before after text
  pub scripted : Scripted w bytes text

-- the bytes of a file, where they are told, are refused as a script, or a check is too large; before that the text put has lines of the checks
-- and the other commands of a beginning of it, which say what is so
pub record SaysScriptBefore (w : Meaning) (told before after : Option (List ℕ)) : Type 0 where
  pub bytes : List ℕ
  pub whole : IsWhole told bytes
  pub text : List ℕ
  pub put : PutsAll before after text
  pub scripted : ScriptedBefore w bytes text

-- an answer of `elim` that comes exactly where its row says, and decides what it has to
pub record IsElimCaused (budget : ℕ) (bytes : List ℕ) (answer : Answer) : Type 0 where
  pub causes : elim_causes.ElimCauses budget bytes answer
  pub decides : elim_causes.ElimDecides budget bytes answer

-- the same of `least`; with its values in an interpretation
pub record IsLeastCaused (w : Meaning) (term : List ℕ) (budget : ℕ) (bytes : List ℕ) (answer : Answer) : Type 0 where
  pub causes : least_causes.LeastCauses term budget bytes answer
  pub decides : (p : Problem) (x : Expression) → least_decides.IsLeastDecided term budget bytes p x → least_decides.LeastDecides w p x answer

-- an answer of `check`, to the bytes of a problem's file and the proof's file of the bytes that are told, that comes exactly where its
-- row says
abbrev pub IsCheckCaused : Option (List ℕ) → List ℕ → Answer → Type 0
IsCheckCaused told bytes = AnswersSource most_of_proof (λ proof. check_causes.CheckCauses proof bytes) told

-- an answer of `drill`: that of `solve` to the problem that the program makes, with its meaning and its causes
pub record IsDrillCaused (w : Meaning) (budget count : ℕ) (answer : Answer) : Type 0 where
  pub solved : Answer
  pub drilled : answer ≡ drill_answer count solved
  pub means : Means w false None (drill_text count) solved
  pub caused : IsCausedAs false false None budget (drill_text count) solved

-- A proof is printed with the answer, where one is asked for. The problem is valid, or it is invalid and has neither predicates nor
-- functions. It is not one that a model may refute where the canonical run leaves it open, unless the calculus alone is asked for.
abbrev pub HasProof : Bool → ℕ → List ℕ → Answer → Type 0
HasProof calculus budget bytes a = (a.status ≡ 0) ⊎ ((a.status ≡ 1) × ¬ (PosesOne bytes IsImpure) × ((calculus ≡ true) ⊎ ¬ (IsRefutedByModel budget bytes)))
