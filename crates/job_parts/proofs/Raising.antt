-- A run that ends within a limit ends the same with a greater budget.
use Rattle.std.proofs.Common.{◌≡◌, ◌≤◌, ◌<◌, ◌+◌, ℕ, suc, List, [], length, refl, sym, ◌∙◌, ap, arith}
use Rattle.base_budget.specs.Trace.{Event, Funds, Mark, At, at, End, done, refused, out_of_range, cut, Traced}
use Rattle.base_budget.specs.Runs.{RunsThrough, total}
use Rattle.base_budget.specs.Ending.{Ending, ended, ending, ends_with}
use Rattle.base_budget.proofs.Meaning.{passes_where_runs}
use Rattle.form_encoding.specs.Problems.{problem_root}
use Rattle.formula.specs.Form.{Form}
use Rattle.job_parts.specs.Parts.{raised}
use Rattle.model_runs.specs.Ends.{run_end}
use Rattle.pri_typing.specs.declared.problem.Problem.{Problem}
use Rattle.search.specs.Run.{RunAnswer, canonical_run, rounds}
use Rattle.search.proofs.Endings.{one_end}

abbrev start : ℕ → Funds
start budget = record { budget = budget; spent = 0 }

-- where the run stands, with another budget
abbrev stands_raised : ℕ → At → At
stands_raised budget a = at (raised budget a.funds) a.marks

cut_raised : (es : List Event) (a b : At) (budget : ℕ) → a.funds.spent ≤ a.funds.budget → a.funds.budget ≤ budget → cut es a ≡ done b → cut es (stands_raised budget a) ≡ done (stands_raised budget b)
cut_raised es a b budget within most is =
    let r : RunsThrough es a b = (passes_where_runs es a b within).0 is in
    let inside : a.funds.spent + total es ≤ a.funds.budget = r.within in
    (passes_where_runs es (stands_raised budget a) (stands_raised budget b) (omega (arith, within, most))).1
    (record { within = omega (arith, inside, most); stay = r.stay; stands = ap (stands_raised budget) r.stands })

-- an end with a value comes of a run that passed
ended_done : {A : Type 0} (v w : A) (e : End) (s : At) → ended v e ≡ ends_with w s → (e ≡ done s) × (v ≡ w)
ended_done v w (done a) s h = (cc, cc)
ended_done v w (refused a) s h = absurd cc
ended_done v w (out_of_range ps a) s h = absurd cc

pub end_raised : (f : Form) (n limit budget : ℕ) (v : RunAnswer) (g : Funds) (ms : List Mark) → limit ≤ budget → ending (canonical_run f n limit) (at (start limit) []) ≡ ends_with v (at g ms)
    → ending (canonical_run f n budget) (at (start budget) []) ≡ ends_with v (at (raised budget g) ms)
unfolding canonical_run
end_raised f n limit budget v g ms most is =
    let work : Traced RunAnswer = rounds f n (suc budget) 0 in
    let same : ending work (at (start limit) []) ≡ ends_with v (at g ms) = one_end f n (start limit) (suc budget) (omega arith) (omega (arith, most)) ∙ is in
    let both = ended_done work.value v (cut work.events (at (start limit) [])) (at g ms) same in
    ap (ended work.value) (cut_raised work.events (at (start limit) []) (at g ms) budget (omega arith) most both.0) ∙ ap (λ z. ends_with z (at (raised budget g) ms)) both.1

pub run_raised : (limit budget : ℕ) (p : Problem) (v : RunAnswer) (g : Funds) (ms : List Mark) → limit ≤ budget → run_end limit p ≡ ends_with v (at g ms) → run_end budget p ≡ ends_with v (at (raised budget g) ms)
run_raised limit budget p v g ms most is = end_raised (problem_root p).value (length p.existentials) limit budget v g ms most is
