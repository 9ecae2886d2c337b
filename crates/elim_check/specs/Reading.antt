-- Elimination by a log, read from a place on.
use Rattle.std.specs.Prelude.{ℕ, suc, ◌≤◌, List, length, map, take, drop, Option, Some, None, Result, Ok, Err}
use Rattle.base_budget.specs.declared.fault.StepFault.{StepFault}
use Rattle.base_budget.specs.declared.log.Entry.{Entry}
use Rattle.base_budget.specs.Trace.{Funds, Mark, entry, at}
use Rattle.base_budget.specs.Work.{ChargedAt}
use Rattle.clause_set.specs.declared.literal.Literal.{Literal}
use Rattle.formula.specs.Form.{Form}
use Rattle.formula.specs.Sizes.{depth}
use Rattle.elim_laws.specs.Logs.{Rest, rest, Reader, by_log}
use Rattle.elim_check.specs.declared.fault.Stop.{Stop}
use Rattle.elim_check.specs.declared.fault.Stop.TheVariants as stop

-- the elimination of a formula over n, by a log
unfoldable pub reading : ℕ → Form → Reader (List (List Literal))
reading n f = by_log (suc (depth f)) n f

-- the notes of the first n entries of a log
abbrev pub noted : List Entry → ℕ → List Mark
noted log n = map entry (take n log)

-- an answer as work by a log has it: no value where the entry is wrong
abbrev pub outcome : {A : Type 0} → Result A Stop → Result (Option A) StepFault
outcome (Ok v) = Ok (Some v)
outcome (Err stop.Entry) = Ok None
outcome (Err (stop.Step e)) = Err e

-- the same, with what is left of the log
abbrev pub with_rest : {A : Type 0} → List Entry → Result A Stop → Result (Option (Rest A)) StepFault
with_rest log (Ok v) = Ok (Some (rest v log))
with_rest log (Err stop.Entry) = Ok None
with_rest log (Err (stop.Step e)) = Err e

-- the call did m by the entries of the log from i up to j, with the answer r
pub record ReadAt {A : Type 0} (m : Reader A) (log : List Entry) (i : ℕ) (old : Funds) (r : Result A Stop) (j : ℕ) (new : Funds) : Type 0 where
  pub did : ChargedAt (m (drop i log)) (at old (noted log i)) (with_rest (drop j log) r) (at new (noted log j))
  pub within : j ≤ length log
