use Rattle.std.proofs.Common.{◌≡◌, ◌+◌, take}
use Rattle.smt_terms.specs.Evaluation.{texts_of}
use Rattle.smt_names.specs.Scopes.{BoundNames, named_onto}
use Rattle.smt_names.specs.Slots.{slots_onto}
use Rattle.smt_names.proofs.resolving.next_names.Given as goal

abbrev pub invariant-loop-variable : goal.invariant-loop-variable
invariant-loop-variable l = (l.next ≡ l.count + l.variable-index)
    × ((outer : BoundNames) → named_onto l.names.items outer ≡ slots_onto l.count (texts_of (take l.variable-index l.variables)) outer)
