-- Where each answer of `solve` comes, and its status.
use Rattle.std.proofs.Common.{◌≡◌, ◌≢◌, ◌∙◌, ℕ, Bool, List, [], Option, refl, sym, ap, subst}
use Rattle.base_answers.specs.Answer.{Answer, IsAnswerStatus}
use Rattle.base_answers.specs.declared.form.ProofForm.{ProofForm}
use Rattle.job_decide.specs.Causes.{IsCausedAs, IsSolveCaused, IsSolveCausedAs, by_problem, canonical as canonical_cause, elsewhere, nowhere as nowhere_cause, proved as proved_cause, refuted as refuted_cause}
use Rattle.job_decide.specs.Shown.{AnswersShown}
use Rattle.job_decide.proofs.Showing.{no_part, run_alone, unextended}
use Rattle.job_decide.specs.Decided.{IsDecidedAs, canonical, nowhere, proved, refuted}
use Rattle.job_solve.specs.Proved.{IsSolvedAs, extended}
use Rattle.job_solve.specs.Solved.{IsSolved, run_end}
use Rattle.job_solve.proofs.Causing as solve_causing
use Rattle.job_solve.proofs.Exactly.{solved_status}
use Rattle.job_solve.proofs.Grounded.{ground_enough}
use Rattle.job_solve.proofs.Printing.{parted}
use Rattle.pri_problem.specs.Answers.{Poses, posed, refused}
use Rattle.pri_problem.specs.Encoded.{Fits, large, leaves, runs}
use Rattle.pri_typing.specs.declared.problem.Problem.{Problem}

abbrev status_of : Answer → ℕ
status_of a = a.status

pub solve_so : (budget : ℕ) (bytes : List ℕ) (a : Answer) → IsSolved budget bytes a → IsSolveCaused budget bytes a
solve_so budget bytes a is = record { causes = solve_causing.causes budget bytes a is; decides = solve_causing.decides budget bytes a is; enough = ground_enough budget bytes }

-- an answer of the canonical run that is not invalid
silent_so : (shows : Bool) (asked : Option ProofForm) (budget : ℕ) (bytes : List ℕ) (a : Answer) → IsSolvedAs asked budget bytes a → a.status ≢ 1 → IsSolveCausedAs shows asked budget bytes a
silent_so shows asked budget bytes a is other =
    let s = parted asked budget bytes a is in
    record {
      plain = s.plain;
      lines = [];
      part = s.part;
      whole = s.whole ∙ ap (λ q. extended q s.part) (unextended s.plain);
      shown = elsewhere (λ z. other (ap status_of s.whole ∙ z)) refl;
      none = s.none;
      caused = solve_so budget bytes s.plain s.solved;
    }

-- an answer of the canonical run, with the values that are shown after it
shown_so : (shows : Bool) (asked : Option ProofForm) (budget : ℕ) (bytes : List ℕ) (p : Problem) (a : Answer) → Poses bytes p → Fits p → AnswersShown shows asked budget p a → IsSolveCausedAs shows asked budget bytes a
shown_so shows asked budget bytes p a h f k =
    record {
      plain = k.plain;
      lines = k.lines;
      part = k.part;
      whole = k.whole;
      shown = by_problem (p, h, (f, k.shown));
      none = no_part asked p (run_end budget p) k.part k.is_part;
      caused = solve_so budget bytes k.plain (posed p h (runs f k.answers));
    }

apart : (n : ℕ) (a : Answer) → a.status ≡ n → n ≢ 1 → a.status ≢ 1
apart n a e differ z = differ (sym e ∙ z)

pub causes : (calculus shows : Bool) (asked : Option ProofForm) (budget : ℕ) (bytes : List ℕ) (a : Answer) → IsDecidedAs calculus shows asked budget bytes a → IsCausedAs calculus shows asked budget bytes a
causes calculus shows asked budget bytes a (refused r h e) = canonical_cause (silent_so shows asked budget bytes a (refused r h e) (apart 3 a (ap status_of e) (λ z. cc)))
causes calculus shows asked budget bytes a (posed p h (large l e)) = canonical_cause (silent_so shows asked budget bytes a (posed p h (large l e)) (apart 3 a (ap status_of e) (λ z. cc)))
causes calculus shows asked budget bytes a (posed p h (leaves l e)) = canonical_cause (silent_so shows asked budget bytes a (posed p h (leaves l e)) (apart 2 a (ap status_of e) (λ z. cc)))
causes calculus shows asked budget bytes a (posed p h (runs f (canonical k))) = canonical_cause (shown_so shows asked budget bytes p a h f k)
causes calculus shows asked budget bytes a (posed p h (runs f (proved off k))) = proved_cause off (ap status_of k.whole) (p, h, (f, k.left_open, (k.file, k.proof)))
causes calculus shows asked budget bytes a (posed p h (runs f (refuted off k))) = refuted_cause off (ap status_of k.whole) (p, h, (f, k.left_open, (k.model, k.universals, k.is)))
causes calculus shows asked budget bytes a (posed p h (runs f (nowhere off none k))) = nowhere_cause off none (ap status_of k.whole) (p, h, (f, k.cut, k.nowhere))

solved_as_status : (asked : Option ProofForm) (budget : ℕ) (bytes : List ℕ) (a : Answer) → IsSolvedAs asked budget bytes a → IsAnswerStatus a.status
solved_as_status asked budget bytes a h = let s = parted asked budget bytes a h in subst (λ b. IsAnswerStatus b.status) (sym s.whole) (solved_status budget bytes s.plain s.solved)

pub decided_status : (calculus shows : Bool) (asked : Option ProofForm) (budget : ℕ) (bytes : List ℕ) (a : Answer) → IsDecidedAs calculus shows asked budget bytes a → IsAnswerStatus a.status
decided_status calculus shows asked budget bytes a (refused r h e) = solved_as_status asked budget bytes a (refused r h e)
decided_status calculus shows asked budget bytes a (posed p h (large l e)) = solved_as_status asked budget bytes a (posed p h (large l e))
decided_status calculus shows asked budget bytes a (posed p h (leaves l e)) = solved_as_status asked budget bytes a (posed p h (leaves l e))
decided_status calculus shows asked budget bytes a (posed p h (runs f (canonical k))) =
    subst IsAnswerStatus (sym (ap status_of k.whole)) (solved_as_status asked budget bytes (extended k.plain k.part) (posed p h (runs f (run_alone shows asked budget p a k))))
decided_status calculus shows asked budget bytes a (posed p h (runs f (proved off k))) = subst (λ b. IsAnswerStatus b.status) (sym k.whole) refl
decided_status calculus shows asked budget bytes a (posed p h (runs f (refuted off k))) = subst (λ b. IsAnswerStatus b.status) (sym k.whole) refl
decided_status calculus shows asked budget bytes a (posed p h (runs f (nowhere off none k))) = subst (λ b. IsAnswerStatus b.status) (sym k.whole) refl
