use Rattle.std.proofs.Common.{◌≡◌, drop}
use Rattle.pri_typing.specs.Faults.{are_numerals}
use Rattle.pri_typing.specs.Phrase.{addends_of}
use Rattle.pri_typing.proofs.faults.+numerals.Given as goal

abbrev pub invariant-are_built_of_numbers-loop-added : goal.invariant-are_built_of_numbers-loop-added
invariant-are_built_of_numbers-loop-added l = are_numerals (addends_of (drop l.added-index l.terms)) ≡ are_numerals (addends_of l.terms)
