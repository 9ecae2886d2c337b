use Rattle.std.proofs.Common.{◌≡◌, List, map, take}
use Rattle.form_typed.specs.Formula.{formula}
use Rattle.smt_terms.specs.Scripts as scripts
use Rattle.smt_terms.specs.Translation.{asserted}
use Rattle.smt_reader.specs.Following.{AreClaims}
use Rattle.smt_reader.proofs.posing.assertions.Given as goal

abbrev pub invariant-loop-claim : goal.invariant-loop-claim
invariant-loop-claim l = (cs : List scripts.Claim) → AreClaims l.definitions l.claims cs → map formula l.members ≡ map (λ c. asserted c.globals l.constants c.term) (take l.claim-index cs)
