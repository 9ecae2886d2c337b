-- What the walk through an open tree finds.
use Rattle.std.specs.Prelude.{◌≡◌, ℤ, List, ◌++◌, Option, Some}
use Rattle.base_budget.specs.Trace.{Traced}
use Rattle.form_typed.specs.declared.world.Table.{Table}
use Rattle.sequent.specs.Sequent.{Sequent, AreFalse}
use Rattle.form_typed.specs.Table.{meaning_of}
use Rattle.model_trees.specs.Rows.{table_at}
use Rattle.model_trees.specs.Walk.{Stop}

-- a finite table makes every member of the sequent false at v
pub record IsRefutedBy (s : Sequent) (v : List ℤ) : Type 0 where
  pub table : Table
  pub fails : AreFalse (meaning_of table) v s.members

-- the work finds where the walk from s and v ends: its values begin with v, and the table of its leaf makes every member of the leaf
-- false at them, and every member of s at v
pub record RefutesSequent (s : Sequent) (v : List ℤ) (work : Traced (Option Stop)) : Type 0 where
  pub stop : Stop
  pub is : work.value ≡ Some stop
  pub more : List ℤ
  pub values : stop.values ≡ v ++ more
  pub leaf : AreFalse (meaning_of (table_at stop).value) stop.values stop.members
  pub root : AreFalse (meaning_of (table_at stop).value) v s.members
