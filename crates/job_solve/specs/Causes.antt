-- Where each answer of `solve` comes.
use Rattle.std.specs.Prelude.{◌≡◌, ◌≢◌, ◌↔◌, ◌⊎◌, ℕ, ℤ, List, [], ◌++◌, codes, length, None}
use Rattle.std.specs.List.{concat}
use Rattle.base_budget.specs.declared.log.Entry.{Entry}
use Rattle.base_budget.specs.Trace.{Funds, At}
use Rattle.proof_tree.specs.Proof.{Proof}
use Rattle.search.specs.Run as run
use Rattle.base_budget.specs.Ending.{Ending, IsOutOfRange, IsOutOfSteps, ends_with}
use Rattle.search.specs.Run.{one_round}
use Rattle.form_encoding.specs.Problems.{problem_root}
use Rattle.pri_typing.specs.declared.problem.Problem.{Problem}
use Rattle.pri_typing.specs.Problems.{IsPure, IsUniversal}
use Rattle.base_answers.specs.Answer.{Answer, line, refused_answer, unknown_answer}
use Rattle.pri_problem.specs.Reads.{Refusal, FirstRefusal}
use Rattle.pri_problem.specs.Refusals.{refusal_name}
use Rattle.pri_problem.specs.Answers.{Poses, PosesOne}
use Rattle.pri_problem.specs.Encoded.{Fits, IsLarge, LeavesRange}
use Rattle.pri_problem.specs.Refused.{ComesOf, IsRefused}
use Rattle.itp_lines.specs.Causes.{AreBlocksCaused}
use Rattle.job_parts.specs.Parts.{IsTooLong}
use Rattle.job_solve.specs.Explained.{IsCutByRange, IsCutBySteps, IsWalked}
use Rattle.job_solve.specs.Solved.{run_end}

-- the ends of a run
abbrev pub IsValid : Ending run.RunAnswer → Type 0
IsValid end = (vs : List ℤ) × (x : Proof) × (stands : At) × (end ≡ ends_with (run.valid vs x) stands)

abbrev pub IsInvalid : Ending run.RunAnswer → Type 0
IsInvalid end = (log : List Entry) × (x : Proof) × (stands : At) × (end ≡ ends_with (run.invalid log x) stands)

-- the bytes pose a problem whose encoding fits and whose canonical run with this budget ends so
abbrev pub SolveEnds : ℕ → List ℕ → (Ending run.RunAnswer → Type 0) → Type 0
SolveEnds budget bytes Is = PosesOne bytes (λ p. Fits p × Is (run_end budget p))

-- the same of a run that ends saturated, with its tree and the purse as it left it
abbrev pub EndsSaturated : ℕ → List ℕ → (Problem → Proof → Funds → Type 0) → Type 0
EndsSaturated budget bytes Is =
    PosesOne bytes (λ p. Fits p × ((log : List Entry) × (x : Proof) × (stands : At) × (run_end budget p ≡ ends_with (run.saturated log x) stands) × Is p x stands.funds))

-- the text is that of a valid problem with the lines of its blocks, each exactly where its row says
pub record TellsBlocks (p : Problem) (left : Funds) (text : List ℕ) : Type 0 where
  pub lines : List (List ℕ)
  pub whole : text ≡ line (codes "VALID") ++ concat lines
  pub caused : AreBlocksCaused p left lines

-- each answer comes exactly where its row says, and a refusal with the name and the place; and so does each line of a block, on
-- the purse as the run and the lines before left it
pub record SolveCauses (budget : ℕ) (bytes : List ℕ) (answer : Answer) : Type 0 where
  pub valid : (answer.status ≡ 0) ↔ SolveEnds budget bytes IsValid
  pub invalid : (answer.status ≡ 1) ↔ (SolveEnds budget bytes IsInvalid ⊎ EndsSaturated budget bytes IsWalked)
  pub steps : (answer ≡ unknown_answer (codes "steps")) ↔ (SolveEnds budget bytes IsOutOfSteps ⊎ EndsSaturated budget bytes IsCutBySteps)
  pub overflow : (answer ≡ unknown_answer (codes "overflow")) ↔ (PosesOne bytes LeavesRange ⊎ (SolveEnds budget bytes IsOutOfRange ⊎ EndsSaturated budget bytes IsCutByRange))
  pub branch : (answer ≡ unknown_answer (codes "branch")) ↔ SolveEnds budget bytes IsTooLong
  pub refuses : (answer.status ≡ 3) ↔ IsRefused bytes
  pub refused : (r : Refusal) → FirstRefusal bytes r → answer ≡ refused_answer (refusal_name r)
  pub only : (r : Refusal) → answer ≡ refused_answer (refusal_name r) → ComesOf bytes r
  pub large : (answer ≡ refused_answer (codes "Large")) ↔ PosesOne bytes IsLarge
  pub blocks : (p : Problem) (vs : List ℤ) (x : Proof) (stands : At) → Poses bytes p → Fits p → p.existentials ≡ [] → run_end budget p ≡ ends_with (run.valid vs x) stands
      → TellsBlocks p stands.funds answer.text

-- the answer decides the problem, or says that the budget ends, a number leaves the range or a branch is too long
abbrev pub IsDecidedOrCut : Answer → Type 0
IsDecidedOrCut answer =
    (answer.status ≡ 0) ⊎ ((answer.status ≡ 1) ⊎ ((answer ≡ unknown_answer (codes "steps")) ⊎ ((answer ≡ unknown_answer (codes "overflow")) ⊎ (answer ≡ unknown_answer (codes "branch")))))

-- what is decided of problems whose encoding fits: one without predicates and functions, unless the budget ends or a number leaves the
-- range; and a universal one, whose run comes to its end in its first round, unless it is cut
pub record SolveDecides (budget : ℕ) (bytes : List ℕ) (answer : Answer) : Type 0 where
  pub pure : (p : Problem) → Poses bytes p → Fits p → IsPure p → ¬ (IsOutOfSteps (run_end budget p)) → ¬ (IsOutOfRange (run_end budget p)) → (answer.status ≡ 0) ⊎ (answer.status ≡ 1)
  pub universal : (p : Problem) → Poses bytes p → Fits p → IsUniversal p → ((one_round (problem_root p).value (length p.existentials) 0).value ≢ None) × IsDecidedOrCut answer
