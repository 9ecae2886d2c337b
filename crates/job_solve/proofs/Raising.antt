-- An outcome within a limit is one of the run with a greater budget.
use Rattle.std.proofs.Common.{◌≡◌, ◌≤◌, ◌<◌, ℕ, ℤ, List, [], sym, subst, Ok, arith}
use Rattle.base_budget.specs.Trace.{Funds}
use Rattle.clause_set.specs.declared.literal.Literal.{Literal}
use Rattle.formula.specs.Form.{Form}
use Rattle.proof_tree.specs.declared.node.Tree.{Tree}
use Rattle.proof_tree.specs.declared.run.Why.{Why}
use Rattle.proof_tree.specs.declared.run.Why.TheVariants as why
use Rattle.search.specs.declared.judge.Outcome.{Outcome}
use Rattle.search.specs.declared.judge.Outcome.TheVariants.{Valid, Invalid, Saturated, Unknown}
use Rattle.search.specs.declared.judge.Decided.{Decided}
use Rattle.search.specs.declared.judge.Decided.TheVariants as decided
use Rattle.search.specs.Outcomes.{EndsAs, DecidesAs}
use Rattle.search.specs.Run as run
use Rattle.job_parts.specs.Parts.{raised}
use Rattle.job_parts.proofs.Raising.{end_raised}
use Rattle.job_solve.proofs.Outcomes.{DecidedEnds, decided_at, ends_at, run_budget, start}

-- the outcome is no cut
abbrev pub IsEnded : Outcome → Type 0
IsEnded (Unknown y r) = ⊥
IsEnded _ = Unit {0}

ends_raised : (f : Form) (n limit budget : ℕ) (o : Outcome) (new : Funds) → limit ≤ budget → EndsAs f n (start limit) (Ok o) new → IsEnded o → EndsAs f n (start budget) (Ok o) (raised budget new)
ends_raised f n limit budget (Valid d vs t) new most k h = (k.0, k.1, end_raised f n limit budget (run.valid vs k.1) new k.0 most k.2, k.3, k.4)
ends_raised f n limit budget (Invalid d t) new most k h = (k.0, k.1, k.2, end_raised f n limit budget (run.invalid (k.1).entries k.2) new k.0 most k.3, k.4, k.5)
ends_raised f n limit budget (Saturated d t) new most k h = (k.0, k.1, k.2, end_raised f n limit budget (run.saturated (k.1).entries k.2) new k.0 most k.3, k.4, k.5)
ends_raised f n limit budget (Unknown y r) new most k h = absurd h

-- the outcome of the run with the whole budget, on the purse that is raised to it
pub raised_at : (f : Form) (n limit budget : ℕ) (mid new left : Funds) (o q : Outcome) → limit ≤ budget → new.spent ≤ new.budget → mid ≡ start limit → (new.spent ≤ budget → left ≡ raised budget new)
    → EndsAs f n mid (Ok o) new → o ≡ q → IsEnded q → EndsAs f n (start budget) (Ok q) left
raised_at f n limit budget mid new left o q most within from up k is h =
    let j = ends_at f n mid (start limit) new o q from k is in
    let same : new.budget ≡ limit = run_budget f n limit q new j in
    subst (EndsAs f n (start budget) (Ok q)) (sym (up (omega (arith, within, same, most)))) (ends_raised f n limit budget q new most j h)

abbrev pub IsDecidedEnd : Decided → Type 0
IsDecidedEnd (decided.Valid d vs) = Unit {0}
IsDecidedEnd (decided.Invalid d) = Unit {0}
IsDecidedEnd (decided.Saturated d) = ⊥
IsDecidedEnd (decided.Unknown y r) = ⊥

decision_raised : (f : Form) (n limit budget : ℕ) (q : Decided) (new : Funds) → limit ≤ budget → DecidedEnds f n (start limit) q new → IsDecidedEnd q → DecidedEnds f n (start budget) q (raised budget new)
decision_raised f n limit budget (decided.Valid d vs) new most (t, k) h = (t, ends_raised f n limit budget (Valid d vs t) new most k tt)
decision_raised f n limit budget (decided.Invalid d) new most (t, k) h = (t, ends_raised f n limit budget (Invalid d t) new most k tt)
decision_raised f n limit budget (decided.Saturated d) new most k h = absurd h
decision_raised f n limit budget (decided.Unknown y r) new most k h = absurd h

decision_budget : (f : Form) (n limit : ℕ) (q : Decided) (new : Funds) → DecidedEnds f n (start limit) q new → IsDecidedEnd q → new.budget ≡ limit
decision_budget f n limit (decided.Valid d vs) new (t, k) h = run_budget f n limit (Valid d vs t) new k
decision_budget f n limit (decided.Invalid d) new (t, k) h = run_budget f n limit (Invalid d t) new k
decision_budget f n limit (decided.Saturated d) new k h = absurd h
decision_budget f n limit (decided.Unknown y r) new k h = absurd h

pub decision_raised_at : (f : Form) (n limit budget : ℕ) (mid new left : Funds) (d q : Decided) → limit ≤ budget → new.spent ≤ new.budget → mid ≡ start limit → (new.spent ≤ budget → left ≡ raised budget new)
    → DecidesAs f n mid (Ok d) new → d ≡ q → IsDecidedEnd q → DecidedEnds f n (start budget) q left
decision_raised_at f n limit budget mid new left d q most within from up k is h =
    let j = decided_at f n mid (start limit) new d q from k is in
    let same : new.budget ≡ limit = decision_budget f n limit q new j h in
    subst (DecidedEnds f n (start budget) q) (sym (up (omega (arith, within, same, most)))) (decision_raised f n limit budget q new most j h)
