use Rattle.std.proofs.Common.{◌≡◌, take}
use Rattle.std.specs.List.{flat_map}
use Rattle.pri_typing.specs.Faults.{least}
use Rattle.pri_typing.specs.Parts.{all_components, component_faults}
use Rattle.pri_typing.specs.Phrase.{phrases_of}
use Rattle.pri_typing.proofs.parts.+components.Given as goal

abbrev pub invariant-members_fault-loop-expr : goal.invariant-members_fault-loop-expr
invariant-members_fault-loop-expr l = l.least ≡ least (flat_map (λ c. component_faults c.what) (all_components l.plus (phrases_of (take l.expr-index l.exprs))))
