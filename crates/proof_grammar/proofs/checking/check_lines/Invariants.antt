use Rattle.std.proofs.Common.{length}
use Rattle.proof_grammar.specs.Walks.{owed_of}
use Rattle.proof_grammar.proofs.Standing.{Inside}
use Rattle.proof_grammar.proofs.checking.check_lines.Given as goal

abbrev pub invariant-lines : goal.invariant-lines
invariant-lines l = Inside l.opening.parts l.opening.charges (owed_of l.walk) l.text l.rest

abbrev pub decreases-lines : goal.decreases-lines
decreases-lines l = length l.rest
