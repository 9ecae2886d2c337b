-- What the call for a formula with the proofs of its obligations answers: one case for each step that may end early.
use Rattle.std.specs.Prelude.{◌≡◌, ℕ, false, List, [], length, Result, Ok, Err, Contains}
use Rattle.linear_term.specs.declared.range.Place.{Place}
use Rattle.linear_term.specs.Range.{stays}
use Rattle.base_budget.specs.Trace.{Funds, Mark, at}
use Rattle.form_typed.specs.Formula.{Formula}
use Rattle.form_typed.specs.Truth.{Meaning}
use Rattle.formula.specs.Tree.{form}
use Rattle.pri_typing.specs.Problems.{Holds}
use Rattle.pri_typing.specs.WellFormed.{IsWellFormed}
use Rattle.function_encoding.specs.declared.answer.Encoded.{Encoded}
use Rattle.pri_problem.specs.Encoded.{IsEncoded}
use Rattle.pri_typing.specs.declared.problem.Problem.{Problem}
use Rattle.proof_tree.specs.declared.node.Conclusion.TheVariants.{Solution}
use Rattle.proof_tree.specs.declared.node.Tree.{Tree}
use Rattle.proof_tree.specs.Proof.{Proof}
use Rattle.proof_tree.specs.declared.run.Why.{Why}
use Rattle.proof_tree.specs.declared.run.Why.TheVariants as why
use Rattle.search.specs.Outcomes.{IsTree}
use Rattle.base_budget.specs.Ending.{Ending, ending, ends_with, out_of_steps, overflows}
use Rattle.search.specs.Run.{RunAnswer, canonical_run, too_long, valid}
use Rattle.pred_interpolant.specs.declared.fault.MiddleFault.{MiddleFault}
use Rattle.pred_interpolant.specs.declared.fault.MiddleFault.TheVariants as fault
use Rattle.pred_interpolant.specs.declared.fault.Obligations.{Obligations}
use Rattle.pred_interpolant.specs.Made.{MakesObligations}
use Rattle.pred_interpolant.specs.Middle.{above, below, obligation_root}
use Rattle.itp_lines.specs.declared.proved.Middle.{Middle}
use Rattle.itp_lines.specs.declared.proved.Proved.{Proved}

-- how the canonical run on the encoding of a formula ends that has what is left of the funds
abbrev pub run_end : Problem → Formula → Funds → Ending RunAnswer
run_end p f old = ending (canonical_run (obligation_root p f).value (length p.existentials) old.budget) (at old [])

-- the run finds this tree, and leaves the funds so
abbrev pub FindsTree : Problem → Formula → Funds → Tree → Funds → Type 0
FindsTree p f old t new =
    (ms : List Mark) × (x : Proof) × (run_end p f old ≡ ends_with (valid [] x) (at new ms)) × IsTree (obligation_root p f).value (length p.existentials) x (Solution []) t

-- the run ends early with this fault: the budget ends, a number leaves the range, or a branch is too long; running out of memory alone may
-- come anywhere
abbrev pub StopsRun : Problem → Formula → Funds → MiddleFault → Funds → Type 0
StopsRun p f old fault.Steps new = (ms : List Mark) × (run_end p f old ≡ out_of_steps (at new ms))
StopsRun p f old (fault.Overflow q) new = (ms : List Mark) × (qs : List Place) × (run_end p f old ≡ overflows qs (at new ms)) × Contains qs q × (stays q ≡ false)
StopsRun p f old fault.Branch new = (ms : List Mark) × (run_end p f old ≡ ends_with too_long (at new ms))
StopsRun p f old fault.Memory new = Unit {0}
StopsRun p f old fault.Symbols new = ⊥
StopsRun p f old fault.Large new = ⊥

-- what ends early with this fault: the obligations; the run of the first of them, on the purse that they left; or that of the second,
-- on the purse that the first run left
pub data MiddleEndsEarly (p : Problem) (cut at : ℕ) (old : Funds) (e : MiddleFault) (new : Funds) : Type 0 where
  obligations : MakesObligations p cut at old (Err e) new → MiddleEndsEarly p cut at old e new
  first_run : (o : Obligations) (made : Funds) → MakesObligations p cut at old (Ok o) made → StopsRun p (below p cut at o.formula) made e new → MiddleEndsEarly p cut at old e new
  second_run : (o : Obligations) (t : Tree) (made between : Funds) → MakesObligations p cut at old (Ok o) made → FindsTree p (below p cut at o.formula) made t between
      → StopsRun p (above p cut at o.formula) between e new → MiddleEndsEarly p cut at old e new

-- the obligations, and the tree of each run on the purse that went before left; or else the first step that ends early
abbrev pub MakesMiddle : Problem → ℕ → ℕ → Funds → Result Middle MiddleFault → Funds → Type 0
MakesMiddle p cut at old (Ok m) new =
    (made : Funds) × (between : Funds)
    × MakesObligations p cut at old (Ok (record { formula = m.formula; below = m.below.encoded; above = m.above.encoded })) made
    × FindsTree p (below p cut at m.formula) made m.below.tree between × FindsTree p (above p cut at m.formula) between m.above.tree new
MakesMiddle p cut at old (Err e) new = MiddleEndsEarly p cut at old e new

-- the encoding is that of a problem that holds in every interpretation, without existential constants
pub record IsSound (e : Encoded) : Type 0 where
  pub problem : Problem
  pub formed : IsWellFormed problem
  pub alone : problem.existentials ≡ []
  pub encoded : IsEncoded problem e
  pub holds : (w : Meaning) → Holds w problem []

-- how the canonical run on an encoding ends
abbrev pub root_end : Encoded → Funds → Ending RunAnswer
root_end e old = ending (canonical_run (form e.root) e.constants old.budget) (at old [])

-- the run on the encoding finds the tree; or it ends early with this fault
abbrev pub Runs : Encoded → Funds → Result Proved MiddleFault → Funds → Type 0
Runs e old (Ok m) new =
    (m.encoded ≡ e) × ((ms : List Mark) × (x : Proof) × (root_end e old ≡ ends_with (valid [] x) (at new ms)) × IsTree (form e.root) e.constants x (Solution []) m.tree)
Runs e old (Err fault.Steps) new = (ms : List Mark) × (root_end e old ≡ out_of_steps (at new ms))
Runs e old (Err (fault.Overflow q)) new = (ms : List Mark) × (qs : List Place) × (root_end e old ≡ overflows qs (at new ms)) × Contains qs q × (stays q ≡ false)
Runs e old (Err fault.Branch) new = (ms : List Mark) × (root_end e old ≡ ends_with too_long (at new ms))
Runs e old (Err fault.Memory) new = Unit {0}
Runs e old (Err fault.Symbols) new = ⊥
Runs e old (Err fault.Large) new = ⊥

-- why a run has no answer, as a fault
abbrev pub fault_of : Why → MiddleFault
fault_of why.Steps = fault.Steps
fault_of (why.Overflow p) = fault.Overflow p
fault_of why.Branch = fault.Branch
