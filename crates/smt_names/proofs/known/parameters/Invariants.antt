use Rattle.std.proofs.Common.{◌≡◌, take}
use Rattle.smt_names.specs.Scopes.{BoundNames, named_onto}
use Rattle.smt_names.specs.Slots.{slots_onto}
use Rattle.smt_names.proofs.known.parameters.Given as goal

abbrev pub invariant-loop-name : goal.invariant-loop-name
invariant-loop-name l = (l.next ≡ l.name-index) × ((outer : BoundNames) → named_onto l.out.items outer ≡ slots_onto 0 (take l.name-index l.names) outer)
