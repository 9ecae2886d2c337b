use Rattle.std.proofs.Common.{◌≡◌, map, take}
use Rattle.smt_lists.specs.Expressions.{expr}
use Rattle.smt_terms.specs.Term.{phrase}
use Rattle.smt_typing.specs.Reading.{phrase_of}
use Rattle.smt_reader.proofs.effects.read_terms.Given as goal

abbrev pub invariant-loop-term : goal.invariant-loop-term
invariant-loop-term l = map phrase l.read ≡ map phrase_of (map expr (take l.term-index l.terms))
