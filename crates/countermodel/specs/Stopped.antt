-- Where a walk ends, as the definition has it.
use Rattle.std.specs.Prelude.{Option, Some, None, Result, Ok, Err}
use Rattle.base_budget.specs.declared.fault.StepFault.{StepFault}
use Rattle.sequent.specs.Views.{members_of}
use Rattle.countermodel.specs.declared.walking.Stop as code
use Rattle.model_trees.specs.Walk.{Stop}

abbrev pub stop_of : code.Stop → Stop
stop_of s = record { values = s.values; members = members_of s.members }

abbrev pub maybe_stop : Option code.Stop → Option Stop
maybe_stop None = None
maybe_stop (Some s) = Some (stop_of s)

abbrev pub stopped : Result (Option code.Stop) StepFault → Result (Option Stop) StepFault
stopped (Ok o) = Ok (maybe_stop o)
stopped (Err e) = Err e
