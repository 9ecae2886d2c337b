-- What a search answers: the end of the canonical run, with its tree, or where the run was cut.
use Rattle.std.specs.Prelude.{◌≡◌, ℕ, ◌-◌, Bool, false, List, [], Result, Ok, Err, Contains}
use Rattle.linear_term.specs.declared.range.Memory.{Memory}
use Rattle.linear_term.specs.declared.range.Place.{Place}
use Rattle.linear_term.specs.Range.{stays}
use Rattle.base_budget.specs.declared.fault.StepFault.{StepFault}
use Rattle.base_budget.specs.declared.fault.StepFault.TheVariants as step_fault
use Rattle.base_budget.specs.declared.log.ElimLog.{ElimLog}
use Rattle.base_budget.specs.Followed.{after_notes}
use Rattle.base_budget.specs.Runs.{total}
use Rattle.base_budget.specs.Trace.{Funds, Mark, At, at}
use Rattle.base_budget.specs.Work.{Reaches}
use Rattle.formula.specs.Form.{Form}
use Rattle.proof_tree.specs.declared.node.Conclusion.{Conclusion}
use Rattle.proof_tree.specs.declared.node.Conclusion.TheVariants.{Solution, Nothing}
use Rattle.proof_tree.specs.declared.node.Tree.{Tree}
use Rattle.proof_tree.specs.declared.run.Run.{Run}
use Rattle.proof_tree.specs.declared.run.Why.{Why}
use Rattle.proof_tree.specs.declared.run.Why.TheVariants as why
use Rattle.proof_tree.specs.Proof.{Proof, given}
use Rattle.proof_tree.specs.Proves.{proof_walk}
use Rattle.proof_tree.specs.Views.{proof_of}
use Rattle.search.specs.declared.course.Course.{Course}
use Rattle.search.specs.declared.judge.Decided.{Decided}
use Rattle.search.specs.declared.judge.Decided.TheVariants as decided
use Rattle.search.specs.declared.judge.Found.{Found}
use Rattle.search.specs.declared.judge.Outcome.{Outcome}
use Rattle.search.specs.declared.judge.Outcome.TheVariants.{Valid, Invalid, Saturated, Unknown}
use Rattle.search.specs.Course.{no_log, noted}
use Rattle.search.specs.Rounds.{IsAnswer}
use Rattle.search.specs.Walking.{Gets}
use Rattle.base_budget.specs.Ending.{ending, ends_with, out_of_steps, overflows}
use Rattle.search.specs.Run.{canonical_run, valid, invalid, saturated, too_long}

abbrev pub no_course : Course
no_course = record { round = 0; nodes = 0; log = no_log }

-- where a run stands at a whose purse held this before: its round, the nodes entered in it, the elimination in progress, and
-- what it charged itself
abbrev pub run_of : Funds → At → Run
run_of old a = let c = after_notes noted no_course a.marks in record { round = c.round; nodes = c.nodes; log = c.log; spent = a.funds.spent - old.spent }

-- why a run is cut
abbrev pub stopped_by : StepFault → Result Why Memory
stopped_by step_fault.Steps = Ok why.Steps
stopped_by (step_fault.Overflow p) = Ok (why.Overflow p)
stopped_by step_fault.Memory = Err (record {})

-- t is this proof with this conclusion, and its charges are those of the walk that checks it
pub record IsTree (f : Form) (n : ℕ) (x : Proof) (c : Conclusion) (t : Tree) : Type 0 where
  pub root : proof_of t.root ≡ x
  pub conclusion : t.conclusion ≡ c
  pub charges : t.charges ≡ total (proof_walk f n x c).events

-- this is the canonical run for f over n names from old on, and it stood there at its end
abbrev pub IsRun : Bool → Form → ℕ → Funds → Result Found StepFault → Run → Funds → Type 0
IsRun keeps f n old r run new =
    (c : Course) × Gets (IsAnswer keeps f n) (canonical_run f n old.budget) old no_course r new c × (run ≡ record { round = c.round; nodes = c.nodes; log = c.log; spent = new.spent - old.spent })

-- the outcome is the end of the canonical run for f over n names from old on, or out of memory before the end
abbrev pub EndsAs : Form → ℕ → Funds → Result Outcome Memory → Funds → Type 0
EndsAs f n old (Ok (Valid d vs t)) new =
    (ms : List Mark) × (x : Proof) × (ending (canonical_run f n old.budget) (at old []) ≡ ends_with (valid vs x) (at new ms)) × (d ≡ given x) × IsTree f n x (Solution vs) t
EndsAs f n old (Ok (Invalid d t)) new =
    (ms : List Mark) × (log : ElimLog) × (x : Proof) × (ending (canonical_run f n old.budget) (at old []) ≡ ends_with (invalid log.entries x) (at new ms)) × (d ≡ given x)
    × IsTree f n x (Nothing log) t
EndsAs f n old (Ok (Saturated d t)) new =
    (ms : List Mark) × (log : ElimLog) × (x : Proof) × (ending (canonical_run f n old.budget) (at old []) ≡ ends_with (saturated log.entries x) (at new ms)) × (d ≡ given x)
    × IsTree f n x (Nothing log) t
EndsAs f n old (Ok (Unknown why.Branch run)) new = (ms : List Mark) × (ending (canonical_run f n old.budget) (at old []) ≡ ends_with too_long (at new ms)) × (run ≡ run_of old (at new ms))
EndsAs f n old (Ok (Unknown why.Steps run)) new = (ms : List Mark) × (ending (canonical_run f n old.budget) (at old []) ≡ out_of_steps (at new ms)) × (run ≡ run_of old (at new ms))
EndsAs f n old (Ok (Unknown (why.Overflow p) run)) new =
    (ms : List Mark) × (ps : List Place) × (ending (canonical_run f n old.budget) (at old []) ≡ overflows ps (at new ms)) × Contains ps p × (stays p ≡ false) × (run ≡ run_of old (at new ms))
EndsAs f n old (Err m) new = (ms : List Mark) × Reaches (canonical_run f n old.budget).events (at old []) (at new ms)

-- an outcome without its tree
abbrev pub bare : Outcome → Decided
bare (Valid d vs t) = decided.Valid d vs
bare (Invalid d t) = decided.Invalid d
bare (Saturated d t) = decided.Saturated d
bare (Unknown y run) = decided.Unknown y run

abbrev pub bare_result : Result Outcome Memory → Result Decided Memory
bare_result (Ok o) = Ok (bare o)
bare_result (Err m) = Err m

-- the answer is an outcome of the canonical run for f over n names from old on, without its tree
abbrev pub DecidesAs : Form → ℕ → Funds → Result Decided Memory → Funds → Type 0
DecidesAs f n old r new = (o : Result Outcome Memory) × EndsAs f n old o new × (r ≡ bare_result o)
