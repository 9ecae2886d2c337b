-- What a decision says of a check is what the end of its run says.
use Rattle.std.proofs.Common.{◌≡◌, ℕ, [], Ok, Err, sym, ◌∙◌, ap, subst}
use Rattle.base_budget.specs.Trace.{Funds, at}
use Rattle.formula.specs.Form.{Form}
use Rattle.formula.specs.Tree.{form}
use Rattle.proof_tree.specs.declared.run.Why.TheVariants as why
use Rattle.search.specs.declared.judge.Decided.{Decided}
use Rattle.search.specs.declared.judge.Outcome.{Outcome}
use Rattle.search.specs.declared.judge.Outcome.TheVariants.{Valid, Invalid, Saturated, Unknown}
use Rattle.search.specs.Outcomes.{DecidesAs, EndsAs, bare}
use Rattle.search.specs.Run as run
use Rattle.base_budget.specs.Ending.{Ending, ending}
use Rattle.search.specs.Run.{canonical_run}
use Rattle.form_encoding.specs.Problems.{problem_root}
use Rattle.function_encoding.specs.declared.answer.Encoded.{Encoded}
use Rattle.pri_typing.specs.declared.problem.Problem.{Problem}
use Rattle.pri_problem.specs.Encoded.{IsEncoded}
use Rattle.model_runs.specs.Ends.{run_end}
use Rattle.job_smt.specs.Answers.{told, told_of}

abbrev pub start : ℕ → Funds
start budget = record { budget = budget; spent = 0 }

outcome_told : (f : Form) (n : ℕ) (old new : Funds) (o : Outcome) → EndsAs f n old (Ok o) new → told_of (bare o) ≡ told (ending (canonical_run f n old.budget) (at old []))
outcome_told f n old new (Valid d vs t) k = sym (ap told k.2)
outcome_told f n old new (Invalid d t) k = sym (ap told k.3)
outcome_told f n old new (Saturated d t) k = sym (ap told k.3)
outcome_told f n old new (Unknown why.Branch r) k = sym (ap told k.1)
outcome_told f n old new (Unknown why.Steps r) k = sym (ap told k.1)
outcome_told f n old new (Unknown (why.Overflow place) r) k = sym (ap told k.2)

decision_told : (f : Form) (n : ℕ) (old new : Funds) (d : Decided) → DecidesAs f n old (Ok d) new → told_of d ≡ told (ending (canonical_run f n old.budget) (at old []))
decision_told f n old new d (Ok o, k, e) = let same : d ≡ bare o = cc in ap told_of same ∙ outcome_told f n old new o k
decision_told f n old new d (Err m, k, e) = absurd cc

pub decided_told : (budget : ℕ) (p : Problem) (e : Encoded) → IsEncoded p e → (old new : Funds) (d : Decided) → old ≡ start budget → DecidesAs (form e.root) e.constants old (Ok d) new → told_of d ≡ told (run_end budget p)
decided_told budget p e h old new d from k =
    let end : Form → ℕ → Ending run.RunAnswer = λ f n. ending (canonical_run f n budget) (at (start budget) []) in
    decision_told (form e.root) e.constants (start budget) new d (subst (λ z. DecidesAs (form e.root) e.constants z (Ok d) new) from k)
    ∙ ap (λ f. told (end f e.constants)) h.root ∙ ap (λ n. told (end (problem_root p).value n)) h.constants
