use Rattle.std.proofs.Common.{◌≡◌, drop, map}
use Rattle.smt_terms.specs.Term.{bound}
use Rattle.smt_typing.specs.Reading.{are_new, are_proper}
use Rattle.smt_typing.proofs.Collecting.{symbols}
use Rattle.smt_typing.proofs.reading.are_proper.Given as goal

abbrev pub invariant-loop-binding : goal.invariant-loop-binding
invariant-loop-binding l = are_new l.seen (symbols (drop l.binding-index l.bindings)) ≡ are_proper (map bound l.bindings)
