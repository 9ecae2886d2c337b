use Rattle.std.proofs.Common.{[], drop}
use Rattle.base_budget.specs.Trace.{each}
use Rattle.base_budget.proofs.Charging.{Left}
use Rattle.model_trees.specs.Rows as rows
use Rattle.sequent.specs.Views.{members_of}
use Rattle.countermodel.proofs.rows.truth_rows.Given as goal

abbrev pub invariant-loop-m : goal.invariant-loop-m
invariant-loop-m l = Left (each (λ m. rows.truth_row l.e m.formula) (members_of (drop l.m-index l.members)) l.out) (each (λ m. rows.truth_row l.e m.formula) (members_of l.members) [])
