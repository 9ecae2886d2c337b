use Rattle.smt_division.proofs.Euclid.{quotient_only, quotient_some}
use Rattle.smt_division.proofs.laws.quotient_law.Goals as goal

pub returns-clause-only : goal.returns-clause-only
returns-clause-only c = λ v n p q h f g. quotient_only v n p q h f g

pub returns-clause-some : goal.returns-clause-some
returns-clause-some c = λ v n holds h. quotient_some v n holds h
