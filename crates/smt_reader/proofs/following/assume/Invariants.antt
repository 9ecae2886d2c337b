use Rattle.std.proofs.Common.{List, ◌++◌, length, map}
use Rattle.smt_terms.specs.Scripts.{Command, claim}
use Rattle.smt_terms.specs.Term.{phrase}
use Rattle.smt_reader.specs.Commands.{state_of}
use Rattle.smt_reader.specs.Following.{FollowsState}
use Rattle.smt_reader.specs.Taking.{IsAssumed}
use Rattle.smt_reader.proofs.following.assume.Given as goal

abbrev pub invariant-loop-term : goal.invariant-loop-term
invariant-loop-term l = (cs : List Command) → FollowsState l.initial.reading (state_of cs) → IsAssumed l.reading (map claim (map phrase l.rest)) (cs ++ map claim (map phrase l.terms))

abbrev pub decreases-loop-term : goal.decreases-loop-term
decreases-loop-term l = length l.rest
