-- What the answers to checks mean.
use Rattle.std.proofs.Common.{◌≡◌, ℕ, [], length, refl, sym, ap}
use Rattle.form_typed.specs.Truth.{Meaning}
use Rattle.proof_tree.specs.Proof.{given}
use Rattle.search.specs.Run as run
use Rattle.base_budget.specs.Ending.{Ending, ends_with, out_of_steps, overflows}
use Rattle.form_encoding.specs.Problems.{problem_root}
use Rattle.form_encoding.proofs.Problems.{root_over}
use Rattle.pri_typing.specs.declared.problem.Problem.{Problem}
use Rattle.form_typed.specs.Table.{meaning_of}
use Rattle.pri_lines.proofs.Losing.{no_table}
use Rattle.pri_typing.specs.Problems.{Holds, IsRefuted, finite_meaning}
use Rattle.pri_typing.specs.WellFormed.{IsWellFormed}
use Rattle.pri_problem.proofs.Reduced.{problem_reduced}
use Rattle.pri_lines.proofs.Losing.{lost_refuted}
use Rattle.pri_lines.proofs.Supporting.{closed_holds}
use Rattle.model_runs.proofs.Ended.{saturated_says}
use Rattle.model_refuting.proofs.Refuted as refuting
use Rattle.model_runs.proofs.Problems as saturated
use Rattle.model_runs.specs.Ends.{run_end}
use Rattle.search.proofs.Telling.{answer_tells}
use Rattle.job_smt.specs.declared.checking.CheckAnswer.TheVariants.{Unsat, Sat}
use Rattle.job_clauses.proofs.Proving.{clauses_hold}
use Rattle.job_smt.specs.Answers.{IsCheckAnswer, ends, leaves, proved, refuted, told}

pub unsat_holds : (w : Meaning) (budget : ℕ) (p : Problem) → IsWellFormed p → p.existentials ≡ [] → IsCheckAnswer budget p Unsat → Holds w p []
unsat_holds w budget p formed none (leaves l e) = absurd cc
unsat_holds w budget p formed none (proved f early file h e) = clauses_hold w p file formed none h
unsat_holds w budget p formed none (refuted f early m us h e) = absurd cc
unsat_holds w budget p formed none (ends f e) = by (run_end budget p) refl e
  where
    by : (end : Ending run.RunAnswer) → run_end budget p ≡ end → Unsat ≡ told end → Holds w p []
    by (ends_with (run.valid vs x) stands) is e =
        let found = answer_tells (problem_root p).value (length p.existentials) (record { budget = budget; spent = 0 }) _ stands (root_over p formed) (problem_reduced p) is in
        closed_holds w p (given x) vs formed (record { over = found.over; covers = found.covers; many = found.best.names; satisfies = found.best.satisfies }) none
    by (ends_with (run.invalid log x) stands) is e = absurd cc
    by (ends_with (run.saturated log x) stands) is e = absurd cc
    by (ends_with run.too_long stands) is e = absurd cc
    by (out_of_steps stands) is e = absurd cc
    by (overflows numbers stands) is e = absurd cc

pub sat_refuted : (budget : ℕ) (p : Problem) → IsWellFormed p → IsCheckAnswer budget p Sat → IsRefuted p
sat_refuted budget p formed (leaves l e) = absurd cc
sat_refuted budget p formed (proved f early file h e) = absurd cc
sat_refuted budget p formed (refuted f early m us h e) = refuting.refuted p m us early.alone h
sat_refuted budget p formed (ends f e) = by (run_end budget p) refl e
  where
    by : (end : Ending run.RunAnswer) → run_end budget p ≡ end → Sat ≡ told end → IsRefuted p
    by (ends_with (run.valid vs x) stands) is e = absurd cc
    by (ends_with (run.invalid log x) stands) is e = let lost = answer_tells (problem_root p).value (length p.existentials) (record { budget = budget; spent = 0 }) _ stands (root_over p formed) (problem_reduced p) is in lost_refuted p formed lost.pure lost.fails
    by (ends_with (run.saturated log x) stands) is e =
        saturated.refuted p x formed (problem_reduced p) (saturated_says (problem_root p).value (length p.existentials) (record { budget = budget; spent = 0 }) log x stands (root_over p formed) (problem_reduced p) is).0
    by (ends_with run.too_long stands) is e = absurd cc
    by (out_of_steps stands) is e = absurd cc
    by (overflows numbers stands) is e = absurd cc

-- a problem that holds in every interpretation is not refuted
pub never_both : (p : Problem) → p.existentials ≡ [] → ((w : Meaning) → Holds w p []) → IsRefuted p → ⊥
never_both p none holds lost =
    let bad = lost [] (sym (ap length none)) (holds (meaning_of no_table)).typed in
    bad.fails ((holds (finite_meaning bad.interpretation)).is bad.universals bad.fit bad.typed)
