-- What a part of a run says of a check.
use Rattle.std.proofs.Common.{◌≡◌, ◌≤◌, ℕ, pos, [], min, refl, sym, ◌∙◌, ap, subst, arith}
use Rattle.base_budget.specs.Ending.{Ending, ends_with, out_of_steps, overflows}
use Rattle.job_parts.specs.Parts.{IsCut, IsCutEarly, first_part, longer_part}
use Rattle.job_parts.proofs.Raising.{run_raised}
use Rattle.job_smt.specs.declared.checking.CheckAnswer.{CheckAnswer}
use Rattle.job_smt.specs.declared.checking.Cause.{Cause}
use Rattle.job_smt.specs.declared.checking.CheckAnswer.TheVariants.{Unsat, Sat, Unknown}
use Rattle.job_smt.specs.Answers.{IsCheckAnswer, ends, told}
use Rattle.model_runs.specs.Ends.{run_end}
use Rattle.pri_problem.specs.Encoded.{Fits}
use Rattle.pri_typing.specs.declared.problem.Problem.{Problem}
use Rattle.proof_tree.specs.declared.run.Why.TheVariants as why
use Rattle.search.specs.Run as run

least : (m n : ℕ) → min m n ≤ m
least m n = grind (arith)

pub first_within : (budget limit : ℕ) → limit ≡ first_part budget → limit ≤ budget
first_within budget limit is = subst (λ n. n ≤ budget) (sym is) (least budget 100000)

pub longer_within : (budget limit : ℕ) → limit ≡ longer_part budget → limit ≤ budget
longer_within budget limit is = subst (λ n. n ≤ budget) (sym is) (least budget 1000000)

-- an end of a part that says Unsat or Sat is that of the whole
unsat_raised : (budget limit : ℕ) (p : Problem) (end : Ending run.RunAnswer) → limit ≤ budget → run_end limit p ≡ end → Unsat ≡ told end → Unsat ≡ told (run_end budget p)
unsat_raised budget limit p (ends_with (run.valid vs x) stands) h is e = sym (ap told (run_raised limit budget p (run.valid vs x) stands.funds stands.marks h is))
unsat_raised budget limit p (ends_with (run.invalid log x) stands) h is e = absurd cc
unsat_raised budget limit p (ends_with (run.saturated log x) stands) h is e = absurd cc
unsat_raised budget limit p (ends_with run.too_long stands) h is e = absurd cc
unsat_raised budget limit p (out_of_steps stands) h is e = absurd cc
unsat_raised budget limit p (overflows numbers stands) h is e = absurd cc

sat_raised : (budget limit : ℕ) (p : Problem) (end : Ending run.RunAnswer) → limit ≤ budget → run_end limit p ≡ end → Sat ≡ told end → Sat ≡ told (run_end budget p)
sat_raised budget limit p (ends_with (run.valid vs x) stands) h is e = absurd cc
sat_raised budget limit p (ends_with (run.invalid log x) stands) h is e = sym (ap told (run_raised limit budget p (run.invalid log x) stands.funds stands.marks h is))
sat_raised budget limit p (ends_with (run.saturated log x) stands) h is e = sym (ap told (run_raised limit budget p (run.saturated log x) stands.funds stands.marks h is))
sat_raised budget limit p (ends_with run.too_long stands) h is e = absurd cc
sat_raised budget limit p (out_of_steps stands) h is e = absurd cc
sat_raised budget limit p (overflows numbers stands) h is e = absurd cc

-- one that says nothing is a cut
cut_so : (cause : Cause) (p : Problem) (end : Ending run.RunAnswer) → Unknown cause ≡ told end → IsCut end
cut_so cause p (ends_with (run.valid vs x) stands) e = absurd cc
cut_so cause p (ends_with (run.invalid log x) stands) e = absurd cc
cut_so cause p (ends_with (run.saturated log x) stands) e = absurd cc
cut_so cause p (ends_with run.too_long stands) e = (why.Branch, (stands, refl))
cut_so cause p (out_of_steps stands) e = (why.Steps, (stands, refl))
cut_so cause p (overflows numbers stands) e = (why.Overflow (record { m = pos 0; a = pos 0; n = pos 0; b = pos 0 }), (numbers, stands, refl))

pub unsat_so : (budget limit : ℕ) (p : Problem) (a : CheckAnswer) → Fits p → limit ≤ budget → a ≡ told (run_end limit p) → a ≡ Unsat → IsCheckAnswer budget p Unsat
unsat_so budget limit p a f h told_so e = ends f (unsat_raised budget limit p (run_end limit p) h refl (sym e ∙ told_so))

pub sat_so : (budget limit : ℕ) (p : Problem) (a : CheckAnswer) → Fits p → limit ≤ budget → a ≡ told (run_end limit p) → a ≡ Sat → IsCheckAnswer budget p Sat
sat_so budget limit p a f h told_so e = ends f (sat_raised budget limit p (run_end limit p) h refl (sym e ∙ told_so))

pub early_so : (cause : Cause) (budget limit : ℕ) (p : Problem) (a : CheckAnswer) → p.existentials ≡ [] → limit ≡ first_part budget → a ≡ told (run_end limit p) → a ≡ Unknown cause → IsCutEarly budget p
early_so cause budget limit p a none is told_so e = record { alone = none; cut = cut_so cause p (run_end (first_part budget) p) (sym e ∙ told_so ∙ ap (λ n. told (run_end n p)) is) }
