use Rattle.std.proofs.Common.{◌≡◌, ◌≤◌, ◌+◌, drop}
use Rattle.smt_terms.specs.Term.{phrases_of}
use Rattle.smt_typing.specs.Faults.{others}
use Rattle.smt_typing.proofs.numerals.others.Given as goal

abbrev pub invariant-loop-term : goal.invariant-loop-term
invariant-loop-term l = record {
  counted : l.count + others (phrases_of (drop l.term-index l.terms)) ≡ others (phrases_of l.terms);
  few : l.count ≤ l.term-index;
}
