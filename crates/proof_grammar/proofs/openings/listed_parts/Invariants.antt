use Rattle.proof_grammar.proofs.Standing.{Parting}
use Rattle.proof_grammar.proofs.openings.listed_parts.Given as goal

abbrev pub invariant-loop-i : goal.invariant-loop-i
invariant-loop-i l = Parting l.found l.count l._i l.text l.rest
