-- What the outcome of a search is for the problem, and what is told of it.
use Rattle.std.proofs.Common.{◌≡◌, ℕ, ℤ, ◌<◌, List, [], length, Ok, Err, refl, sym, ◌∙◌, ap, subst, codes}
use Rattle.base_budget.specs.declared.log.Entry.{Entry}
use Rattle.base_budget.specs.Trace.{Funds, Mark, At, at, End, done, refused, out_of_range, cut, stand}
use Rattle.formula.specs.Form.{Form, IsFormOver}
use Rattle.formula.specs.Tree.{form}
use Rattle.clause_set.specs.declared.literal.Literal.{Literal}
use Rattle.elim_laws.specs.Whole.{AreOver}
use Rattle.proof_tree.specs.declared.node.Tree.{Tree}
use Rattle.proof_tree.specs.declared.run.Run.{Run}
use Rattle.proof_tree.specs.declared.run.Why.{Why}
use Rattle.proof_tree.specs.declared.run.Why.TheVariants as why
use Rattle.proof_tree.specs.Views.{proof_of}
use Rattle.search.specs.declared.judge.Outcome.{Outcome}
use Rattle.search.specs.declared.judge.Outcome.TheVariants.{Valid, Invalid, Saturated, Unknown}
use Rattle.search.specs.declared.judge.Decided.{Decided}
use Rattle.search.specs.declared.judge.Decided.TheVariants as decided
use Rattle.search.specs.Outcomes.{DecidesAs, EndsAs, bare}
use Rattle.search.specs.Run as run
use Rattle.base_budget.specs.Ending.{Ending, ended, ending, ends_with, out_of_steps, overflows}
use Rattle.search.specs.Run.{canonical_run}
use Rattle.form_encoding.specs.Problems.{problem_root}
use Rattle.function_encoding.specs.declared.answer.Encoded.{Encoded}
use Rattle.pri_typing.specs.declared.problem.Problem.{Problem}
use Rattle.base_answers.specs.Answer.{Answer, says_line, unknown_answer}
use Rattle.pri_lines.specs.Constraint.{IsTextOf}
use Rattle.pri_problem.specs.Encoded.{IsEncoded}
use Rattle.itp_lines.proofs.Budgets.{cut_budget}
use Rattle.form_typed.specs.Truth.{Meaning}
use Rattle.pri_typing.specs.Problems.{Holds}
use Rattle.pri_typing.specs.WellFormed.{IsWellFormed}
use Rattle.pri_lines.proofs.Supporting.{closed_holds}
use Rattle.proof_tree.specs.Proof.{given}
use Rattle.job_solve.specs.Solved.{closed, valid, invalid, saturated, branch, steps, overflow, run_end, AnswersRun}
use Rattle.job_solve.specs.Explained.{AnswersSaturated}
use Rattle.job_parts.specs.Parts.{IsCutBy}
use Rattle.job_solve.specs.Told.{IsValidTold, alone, cause_text, lines}
use Rattle.job_solve.proofs.Meaning.{covers, tells}

-- ---- the run of the code is that of the problem

abbrev pub start : ℕ → Funds
start budget = record { budget = budget; spent = 0 }

pub run_is : (budget : ℕ) (p : Problem) (e : Encoded) → IsEncoded p e → ending (canonical_run (form e.root) e.constants budget) (at (start budget) []) ≡ run_end budget p
run_is budget p e h =
    let from : Form → ℕ → Ending run.RunAnswer = λ f n. ending (canonical_run f n budget) (at (start budget) []) in
    ap (λ f. from f e.constants) h.root ∙ ap (from (problem_root p).value) h.constants

-- what a decision says is an outcome with a tree; a saturated one is searched again
abbrev pub DecidedEnds : Form → ℕ → Funds → Decided → Funds → Type 0
DecidedEnds f n old (decided.Valid d vs) new = (t : Tree) × EndsAs f n old (Ok (Valid d vs t)) new
DecidedEnds f n old (decided.Invalid d) new = (t : Tree) × EndsAs f n old (Ok (Invalid d t)) new
DecidedEnds f n old (decided.Saturated d) new = Unit {0}
DecidedEnds f n old (decided.Unknown y r) new = EndsAs f n old (Ok (Unknown y r)) new

bare_ends : (f : Form) (n : ℕ) (old : Funds) (o : Outcome) (new : Funds) → EndsAs f n old (Ok o) new → DecidedEnds f n old (bare o) new
bare_ends f n old (Valid d vs t) new k = (t, k)
bare_ends f n old (Invalid d t) new k = (t, k)
bare_ends f n old (Saturated d t) new k = tt
bare_ends f n old (Unknown y r) new k = k

pub decided_ends : (f : Form) (n : ℕ) (old : Funds) (d : Decided) (new : Funds) → DecidesAs f n old (Ok d) new → DecidedEnds f n old d new
decided_ends f n old d new (Ok o, k, e) = let same : d ≡ bare o = cc in subst (λ z. DecidedEnds f n old z new) (sym same) (bare_ends f n old o new k)
decided_ends f n old d new (Err m, k, e) = absurd cc

-- the same end, where the outcome is known
pub ends_at : (f : Form) (n : ℕ) (old mid new : Funds) (o q : Outcome) → old ≡ mid → EndsAs f n old (Ok o) new → o ≡ q → EndsAs f n mid (Ok q) new
ends_at f n old mid new o q from k is = subst (λ z. EndsAs f n mid (Ok z) new) is (subst (λ z. EndsAs f n z (Ok o) new) from k)

pub decided_at : (f : Form) (n : ℕ) (old mid new : Funds) (d q : Decided) → old ≡ mid → DecidesAs f n old (Ok d) new → d ≡ q → DecidedEnds f n mid q new
decided_at f n old mid new d q from k is = subst (λ z. DecidedEnds f n mid z new) is (decided_ends f n mid d new (subst (λ z. DecidesAs f n z (Ok d) new) from k))

-- ---- what is told of an outcome

-- a constraint that was found is one of the problem, and there is a value for each existential constant
pub fitting : (budget : ℕ) (p : Problem) (e : Encoded) → IsEncoded p e → (d : List (List Literal)) (vs : List ℤ) (t : Tree) (new : Funds) → EndsAs (form e.root) e.constants (start budget) (Ok (Valid d vs t)) new
    → AreOver (length p.existentials) d × (length vs ≡ length p.existentials)
fitting budget p e h d vs t new k =
    let found = tells budget p (subst (IsFormOver (length p.existentials)) h.root h.over) (run.valid vs k.1) (at new k.0) (sym (run_is budget p e h) ∙ k.2) in (subst (AreOver (length p.existentials)) (sym k.3) found.over, found.best.names)

-- and a problem without existential constants holds
pub valid_holds : (budget : ℕ) (p : Problem) (e : Encoded) → IsEncoded p e → IsWellFormed p → (d : List (List Literal)) (vs : List ℤ) (t : Tree) (new : Funds)
    → EndsAs (form e.root) e.constants (start budget) (Ok (Valid d vs t)) new → p.existentials ≡ [] → (w : Meaning) → Holds w p []
valid_holds budget p e h formed d vs t new k none w =
    let found = tells budget p (subst (IsFormOver (length p.existentials)) h.root h.over) (run.valid vs k.1) (at new k.0) (sym (run_is budget p e h) ∙ k.2) in
    closed_holds w p (given k.1) vs formed (covers p k.1 vs found) none

pub valid_told : (budget : ℕ) (p : Problem) (e : Encoded) → IsEncoded p e → (d : List (List Literal)) (vs : List ℤ) (t : Tree) (new : Funds) (a : Answer) → EndsAs (form e.root) e.constants (start budget) (Ok (Valid d vs t)) new
    → IsValidTold p new d vs a → AnswersRun budget p a
valid_told budget p e h d vs t new a k (alone none ls) = closed vs k.1 (at new k.0) ls.0 (sym (run_is budget p e h) ∙ k.2) none ls.1 ls.2
valid_told budget p e h d vs t new a k (lines text some ls is) =
    valid vs k.1 (at new k.0) ls.0 (sym (run_is budget p e h) ∙ k.2) some (subst (λ d. IsTextOf p d ls.0) k.3 ls.1) (is ∙ ap (λ x. record { status = 0; text = x }) ls.2)

pub invalid_told : (budget : ℕ) (p : Problem) (e : Encoded) → IsEncoded p e → (d : List (List Literal)) (t : Tree) (new : Funds) (a : Answer) → EndsAs (form e.root) e.constants (start budget) (Ok (Invalid d t)) new
    → a ≡ says_line 1 (codes "INVALID") → AnswersRun budget p a
invalid_told budget p e h d t new a k is = invalid (k.1).entries k.2 (at new k.0) (sym (run_is budget p e h) ∙ k.3) is

-- how a run ends whose outcome is saturated
pub saturated_end : (budget : ℕ) (p : Problem) (e : Encoded) → IsEncoded p e → (d : List (List Literal)) (t : Tree) (new : Funds) → EndsAs (form e.root) e.constants (start budget) (Ok (Saturated d t)) new
    → (log : List Entry) × (ms : List Mark) × (run_end budget p ≡ ends_with (run.saturated log (proof_of t.root)) (at new ms))
saturated_end budget p e h d t new k = ((k.1).entries, k.0, sym (run_is budget p e h) ∙ k.3 ∙ ap (λ x. ends_with (run.saturated (k.1).entries x) (at new k.0)) (sym (k.5).root))

pub saturated_told : (budget : ℕ) (p : Problem) (e : Encoded) → IsEncoded p e → (d : List (List Literal)) (t : Tree) (new : Funds) (a : Answer) → EndsAs (form e.root) e.constants (start budget) (Ok (Saturated d t)) new
    → AnswersSaturated p (proof_of t.root) new a → AnswersRun budget p a
saturated_told budget p e h d t new a k told = let s = saturated_end budget p e h d t new k in saturated s.0 (proof_of t.root) (at new s.1) s.2 told

-- the reason of a run that is cut
pub cut_by : (budget : ℕ) (p : Problem) (e : Encoded) → IsEncoded p e → (y : Why) (r : Run) (new : Funds) → EndsAs (form e.root) e.constants (start budget) (Ok (Unknown y r)) new → IsCutBy y (run_end budget p)
cut_by budget p e h why.Branch r new k = (at new k.0, sym (run_is budget p e h) ∙ k.1)
cut_by budget p e h why.Steps r new k = (at new k.0, sym (run_is budget p e h) ∙ k.1)
cut_by budget p e h (why.Overflow place) r new k = (k.1, at new k.0, sym (run_is budget p e h) ∙ k.2)

pub unknown_told : (budget : ℕ) (p : Problem) (y : Why) (a : Answer) → IsCutBy y (run_end budget p) → a ≡ unknown_answer (cause_text y) → AnswersRun budget p a
unknown_told budget p why.Branch a k is = branch k.0 k.1 is
unknown_told budget p why.Steps a k is = steps k.0 k.1 is
unknown_told budget p (why.Overflow place) a k is = overflow k.0 k.1 k.2 is

-- ---- the budget after a run

-- where a run stands at its end
abbrev last : Ending run.RunAnswer → At
last (ends_with a s) = s
last (out_of_steps s) = s
last (overflows numbers s) = s

last_is : (a : run.RunAnswer) (e : End) → last (ended a e) ≡ stand e
last_is a (done s) = refl
last_is a (refused s) = refl
last_is a (out_of_range numbers s) = refl

end_budget : (f : Form) (k budget : ℕ) (e : Ending run.RunAnswer) → ending (canonical_run f k budget) (at (start budget) []) ≡ e → (last e).funds.budget ≡ budget
end_budget f k budget e is =
    let work = canonical_run f k budget in
    ap (λ x. (last x).funds.budget) (sym is) ∙ ap (λ (s : At). s.funds.budget) (last_is work.value (cut work.events (at (start budget) []))) ∙ cut_budget work.events (at (start budget) [])

-- a run keeps the budget
pub run_budget : (f : Form) (k budget : ℕ) (o : Outcome) (new : Funds) → EndsAs f k (start budget) (Ok o) new → new.budget ≡ budget
run_budget f k budget (Valid d vs t) new h = end_budget f k budget _ h.2
run_budget f k budget (Invalid d t) new h = end_budget f k budget _ h.3
run_budget f k budget (Saturated d t) new h = end_budget f k budget _ h.3
run_budget f k budget (Unknown why.Branch r) new h = end_budget f k budget _ h.1
run_budget f k budget (Unknown why.Steps r) new h = end_budget f k budget _ h.1
run_budget f k budget (Unknown (why.Overflow place) r) new h = end_budget f k budget _ h.2

pub run_below : (f : Form) (k budget n : ℕ) (o : Outcome) (new : Funds) → EndsAs f k (start budget) (Ok o) new → budget < n → new.budget < n
run_below f k budget n o new h lt = let same : new.budget ≡ budget = run_budget f k budget o new h in subst (λ m. m < n) (sym same) lt
