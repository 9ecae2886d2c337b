-- The work of finding a counterexample.
use Rattle.std.specs.Prelude.{ℤ, List, length, Option, Some, Result, Ok, Err}
use Rattle.form_typed.specs.declared.world.Table.{Table}
use Rattle.base_budget.specs.declared.fault.StepFault.{StepFault}
use Rattle.base_budget.specs.Trace.{Traced, just, next}
use Rattle.proof_tree.specs.Proof.{Proof}
use Rattle.proof_tree.specs.Proves.{start}
use Rattle.proof_tree.specs.Walk.{on_some}
use Rattle.pri_typing.specs.declared.problem.Problem.{Problem}
use Rattle.form_encoding.specs.Problems.{problem_root}
use Rattle.model_trees.specs.Rows.{table_at}
use Rattle.model_trees.specs.Walk.{Stop, walk}
use Rattle.countermodel.specs.declared.explaining.Counterexample.{Counterexample}
-- the words of what `explain` answers, and of the runs that it explains
pub use Rattle.countermodel.specs.Doing.{DoesWork}
pub use Rattle.model_runs.specs.Ends.{run_end}
pub use Rattle.model_runs.specs.Refuting.{IsCounterexample, found_at, universals_of}

-- what there is at a leaf: its table, and the values of the universal constants
abbrev pub at_leaf : Problem → Stop → Traced (Option (Table × List ℤ))
at_leaf p stop = next (table_at stop) (λ t. just (Some (found_at p stop)))

-- what the walk through the tree x of the encoded problem finds from the values e of its existential constants
abbrev pub explaining : Problem → Proof → List ℤ → Traced (Option (Table × List ℤ))
explaining p x e = next (walk (start (problem_root p).value (length p.existentials)) x e) (on_some (at_leaf p))

-- a counterexample of the code, or why there is none
abbrev pub explained_as : Result Counterexample StepFault → Result (Option (Table × List ℤ)) StepFault
explained_as (Ok c) = Ok (Some (c.table, c.universals))
explained_as (Err e) = Err e
