use Rattle.std.proofs.Common.{◌≡◌, drop}
use Rattle.smt_terms.specs.Term.{phrases_of}
use Rattle.smt_typing.specs.Faults.{are_numerals}
use Rattle.smt_typing.proofs.numerals.+numerals.Given as goal

abbrev pub invariant-are_numerals-loop-term : goal.invariant-are_numerals-loop-term
invariant-are_numerals-loop-term l = are_numerals (phrases_of (drop l.term-index l.terms)) ≡ are_numerals (phrases_of l.terms)
