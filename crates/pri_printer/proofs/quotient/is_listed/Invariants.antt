use Rattle.std.proofs.Common.{◌≡◌, drop}
use Rattle.base_texts.specs.Texts.{is_among}
use Rattle.pri_printer.proofs.quotient.is_listed.Given as goal

abbrev pub invariant-loop-other : goal.invariant-loop-other
invariant-loop-other l = is_among l.name (drop l.other-index l.names) ≡ is_among l.name (l.names)
