-- How the rounds of a run end, as the code tells it.
use Rattle.std.specs.Prelude.{◌≡◌, ℕ, ℤ, Bool, cond, List, Option, Some, None, IsSome}
use Rattle.base_budget.specs.Runs.{total}
use Rattle.base_budget.specs.Trace.{Traced, just, next}
use Rattle.clause_set.specs.declared.literal.Literal.{Literal}
use Rattle.elim_laws.specs.Logs.{entries_of}
use Rattle.elim_laws.specs.Whole.{names_out}
use Rattle.formula.specs.Form.{Form, is_pure}
use Rattle.parameter_solver.specs.declared.solving.Solved.{Solved}
use Rattle.parameter_solver.specs.declared.solving.Solved.TheVariants as solved
use Rattle.solve_laws.specs.Solutions.{solving}
use Rattle.proof_tree.specs.declared.node.Conclusion.{Conclusion}
use Rattle.proof_tree.specs.declared.node.Conclusion.TheVariants.{Solution, Nothing}
use Rattle.proof_tree.specs.declared.node.Node.{Node}
use Rattle.proof_tree.specs.declared.run.Run.{Run}
use Rattle.proof_tree.specs.declared.run.Why.TheVariants as why
use Rattle.proof_tree.specs.Proof.{Proof, given}
use Rattle.proof_tree.specs.Proves.{proof_walk}
use Rattle.proof_tree.specs.Walk.{in_new_log}
use Rattle.search.specs.declared.judge.Decided.{Decided}
use Rattle.search.specs.declared.judge.Decided.TheVariants as decided
use Rattle.search.specs.declared.judge.Found.{Found}
use Rattle.search.specs.declared.judge.Found.TheVariants as found
use Rattle.search.specs.declared.judge.Outcome.{Outcome}
use Rattle.search.specs.declared.judge.Outcome.TheVariants as outcome
use Rattle.search.specs.declared.walk.Built.{Built}
use Rattle.search.specs.Run.{RunAnswer, valid, invalid, saturated, too_long}
use Rattle.search.specs.Walking.{IsKeptNode}

-- what solving d for n names finds
abbrev pub solved_of : ℕ → List (List Literal) → Option (List ℤ) → Solved
solved_of n d (Some vs) = solved.Values vs
solved_of n d None = solved.None (record { entries = entries_of (names_out n d).events })

-- d is solved in a log of its own
abbrev pub solving_of : ℕ → List (List Literal) → Traced Solved
solving_of n d = next (in_new_log (solving n d)) (λ a. just (solved_of n d a))

-- what a round finds that built this tree, with this many charges, and this many together with solving its constraint; none where
-- a further round is to come
abbrev pub found_by : Form → Built → ℕ → ℕ → Solved → Option Found
found_by f tree charged spent (solved.Values vs) = Some (found.Valid tree charged vs)
found_by f tree charged spent (solved.None log) = cond (is_pure f) (Some (found.Invalid tree spent log)) (cond tree.has_open None (Some (found.Saturated tree charged log)))

-- the tree x of the run, kept or not, has its constraint, and is charged what the walk over it with this conclusion is
pub record IsTreeOf (keeps : Bool) (f : Form) (n : ℕ) (x : Proof) (c : Conclusion) (tree : Built) (charges : ℕ) : Type 0 where
  pub root : IsKeptNode keeps x tree.root
  pub constraint : tree.constraint ≡ given x
  pub charges_are : charges ≡ total (proof_walk f n x c).events

-- the answer is what was found
abbrev pub IsAnswer : Bool → Form → ℕ → RunAnswer → Found → Type 0
IsAnswer keeps f n a (found.Valid tree charges vs) = (x : Proof) × (a ≡ valid vs x) × IsTreeOf keeps f n x (Solution vs) tree charges
IsAnswer keeps f n a (found.Invalid tree charges log) = (x : Proof) × (a ≡ invalid log.entries x) × IsTreeOf keeps f n x (Nothing log) tree charges
IsAnswer keeps f n a (found.Saturated tree charges log) = (x : Proof) × (a ≡ saturated log.entries x) × IsTreeOf keeps f n x (Nothing log) tree charges
IsAnswer keeps f n a found.Branch = a ≡ too_long

-- a tree that was found is kept
abbrev pub HasRoot : Found → Type 0
HasRoot (found.Valid tree charges vs) = IsSome tree.root
HasRoot (found.Invalid tree charges log) = IsSome tree.root
HasRoot (found.Saturated tree charges log) = IsSome tree.root
HasRoot found.Branch = Unit {0}

-- the outcome of a run that found this, and stood there
abbrev pub IsOutcome : Found → Run → Outcome → Type 0
IsOutcome (found.Valid tree charges vs) run o = (x : Node) × (tree.root ≡ Some x) × (o ≡ outcome.Valid tree.constraint vs (record { charges = charges; root = x; conclusion = Solution vs }))
IsOutcome (found.Invalid tree charges log) run o = (x : Node) × (tree.root ≡ Some x) × (o ≡ outcome.Invalid tree.constraint (record { charges = charges; root = x; conclusion = Nothing log }))
IsOutcome (found.Saturated tree charges log) run o = (x : Node) × (tree.root ≡ Some x) × (o ≡ outcome.Saturated tree.constraint (record { charges = charges; root = x; conclusion = Nothing log }))
IsOutcome found.Branch run o = o ≡ outcome.Unknown why.Branch run

-- the same without its tree
abbrev pub decided_of : Found → Run → Decided
decided_of (found.Valid tree charges vs) run = decided.Valid tree.constraint vs
decided_of (found.Invalid tree charges log) run = decided.Invalid tree.constraint
decided_of (found.Saturated tree charges log) run = decided.Saturated tree.constraint
decided_of found.Branch run = decided.Unknown why.Branch run
