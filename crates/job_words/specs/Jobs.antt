-- The job that the words after the program's name ask for.
use Rattle.std.specs.Prelude.{◌≡◌, ◌≤◌, ℕ, Bool, true, false, List, [], ◌∷◌, Option, Some, None, codes, length, string_bytes}
use Rattle.std.specs.Str.Parse.{digits_value, IsNumeral}
use Rattle.base_limits.specs.Limits.{most_budget, most_count}
use Rattle.base_answers.specs.declared.form.ProofForm.{ProofForm}
use Rattle.base_answers.specs.declared.form.ProofForm.TheVariants.{Whole, Short}
use Rattle.job_words.specs.declared.jobs.Job.{Job}
use Rattle.job_words.specs.declared.jobs.Job.TheVariants as job
use Rattle.job_words.specs.Uses.{Text, Use, Options, Spells, operands, tally, times, values_of}

-- A job by the bytes of its words. It solves the problem in a file, with its proof in a form or without, by the calculus alone where that is
-- asked for, and with values that refute it where they are; gives its constraint; finds values at which it holds, with the proof or without; answers the checks of the script in a file; gives the least value of a term where a problem holds; checks the proof in a file; or solves the
-- problem of a size that the program makes. All but checking a proof have a budget, a script's checks one each.
pub data Task : Type 0 where
  solve : (file : Text) → (budget : ℕ) → (asked : Option ProofForm) → (calculus shows : Bool) → Task
  eliminate : (file : Text) → (budget : ℕ) → Task
  find_values : (file : Text) → (budget : ℕ) → (proves : Bool) → Task
  run_script : (file : Text) → (budget : ℕ) → Task
  minimise : (file term : Text) → (budget : ℕ) → Task
  check : (file proof : Text) → Task
  drill : (count budget : ℕ) → Task

-- a job as its words
abbrev pub task_of : Job → Task
task_of (job.Solve file budget asked calculus shows) = solve (string_bytes file) budget asked calculus shows
task_of (job.Elim file budget) = eliminate (string_bytes file) budget
task_of (job.Find file budget proves) = find_values (string_bytes file) budget proves
task_of (job.Smt file budget) = run_script (string_bytes file) budget
task_of (job.Least file term budget) = minimise (string_bytes file) (string_bytes term) budget
task_of (job.Check file proof) = check (string_bytes file) (string_bytes proof)
task_of (job.Drill count budget) = drill count budget

-- the files that a job reads, in their order
abbrev pub files_of : Task → List Text
files_of (solve file budget asked calculus shows) = file ∷ []
files_of (eliminate file budget) = file ∷ []
files_of (find_values file budget proves) = file ∷ []
files_of (run_script file budget) = file ∷ []
files_of (minimise file term budget) = file ∷ []
files_of (check file proof) = file ∷ proof ∷ []
files_of (drill count budget) = []

-- a text of 1 to 10 decimal digits writes the number, which lies from 1 to 'most'
pub record IsNumber (most : ℕ) (text : Text) (n : ℕ) : Type 0 where
  pub digits : IsNumeral 10 text
  pub few : length text ≤ 10
  pub value : digits_value 10 text ≡ n
  pub least : 1 ≤ n
  pub within : n ≤ most

-- a budget, by the values that its option is given: the usual one where there is none, and the number that one value writes
abbrev pub IsBudget : List Text → ℕ → Type 0
IsBudget [] n = n ≡ 50000000
IsBudget (text ∷ []) n = IsNumber most_budget text n
IsBudget (text ∷ more ∷ rest) n = ⊥

-- the option of a command with a budget
abbrev pub budget_option : Options
budget_option = (codes "budget", true) ∷ []

-- the options of `find`: a budget, and a flag for the proof
abbrev pub find_options : Options
find_options = (codes "budget", true) ∷ (codes "proof", false) ∷ []

-- a budget, and a flag for each form of the proof
abbrev pub proof_options : Options
proof_options = (codes "budget", true) ∷ (codes "proof", false) ∷ (codes "short", false) ∷ []

-- the options of `solve`: these, a flag for the calculus alone, and one for a counterexample wherever there is one
abbrev pub solve_options : Options
solve_options = (codes "budget", true) ∷ (codes "proof", false) ∷ (codes "short", false) ∷ (codes "calculus", false) ∷ (codes "counterexample", false) ∷ []

-- the proof is asked for in the first format
abbrev pub asks_whole : Option ProofForm → Bool
asks_whole None = false
asks_whole (Some Whole) = true
asks_whole (Some Short) = false

-- the proof is asked for in the second format
abbrev pub asks_short : Option ProofForm → Bool
asks_short None = false
asks_short (Some Whole) = false
asks_short (Some Short) = true

-- the words after `solve` name a file and a budget, and ask for the proof by the flag of its form, for the calculus alone by its flag, and
-- for a counterexample by its flag
pub record NamesSolve (line : List Text) (file : Text) (budget : ℕ) (asked : Option ProofForm) (calculus shows : Bool) : Type 0 where
  pub us : List Use
  pub spells : Spells solve_options line us
  pub file_is : operands us ≡ file ∷ []
  pub budget_is : IsBudget (values_of (codes "budget") us) budget
  pub proof_is : times (codes "proof") us ≡ tally (asks_whole asked)
  pub short_is : times (codes "short") us ≡ tally (asks_short asked)
  pub calculus_is : times (codes "calculus") us ≡ tally calculus
  pub shows_is : times (codes "counterexample") us ≡ tally shows

-- the words after `elim` or `smt` name a file and a budget
pub record NamesFile (line : List Text) (file : Text) (budget : ℕ) : Type 0 where
  pub us : List Use
  pub spells : Spells budget_option line us
  pub file_is : operands us ≡ file ∷ []
  pub budget_is : IsBudget (values_of (codes "budget") us) budget

-- the words after `find` name a file and a budget, and ask for the proof by its flag
pub record NamesFind (line : List Text) (file : Text) (budget : ℕ) (proves : Bool) : Type 0 where
  pub us : List Use
  pub spells : Spells find_options line us
  pub file_is : operands us ≡ file ∷ []
  pub budget_is : IsBudget (values_of (codes "budget") us) budget
  pub proof_is : times (codes "proof") us ≡ tally proves

-- the words after `least` name a file, a term and a budget
pub record NamesLeast (line : List Text) (file term : Text) (budget : ℕ) : Type 0 where
  pub us : List Use
  pub spells : Spells budget_option line us
  pub words_are : operands us ≡ file ∷ term ∷ []
  pub budget_is : IsBudget (values_of (codes "budget") us) budget

-- the words after `check` name two files
pub record NamesCheck (line : List Text) (file proof : Text) : Type 0 where
  pub us : List Use
  pub spells : Spells [] line us
  pub files_are : operands us ≡ file ∷ proof ∷ []

-- the words after `drill` name a size from 1 to 1,000 and a budget
pub record NamesDrill (line : List Text) (count budget : ℕ) : Type 0 where
  pub us : List Use
  pub spells : Spells budget_option line us
  pub text : Text
  pub text_is : operands us ≡ text ∷ []
  pub count_is : IsNumber most_count text count
  pub budget_is : IsBudget (values_of (codes "budget") us) budget

-- the words name the job
abbrev pub NamesJob : List Text → Task → Type 0
NamesJob [] task = ⊥
NamesJob (command ∷ line) (solve file budget asked calculus shows) = (command ≡ codes "solve") × NamesSolve line file budget asked calculus shows
NamesJob (command ∷ line) (eliminate file budget) = (command ≡ codes "elim") × NamesFile line file budget
NamesJob (command ∷ line) (find_values file budget proves) = (command ≡ codes "find") × NamesFind line file budget proves
NamesJob (command ∷ line) (run_script file budget) = (command ≡ codes "smt") × NamesFile line file budget
NamesJob (command ∷ line) (minimise file term budget) = (command ≡ codes "least") × NamesLeast line file term budget
NamesJob (command ∷ line) (check file proof) = (command ≡ codes "check") × NamesCheck line file proof
NamesJob (command ∷ line) (drill count budget) = (command ≡ codes "drill") × NamesDrill line count budget
