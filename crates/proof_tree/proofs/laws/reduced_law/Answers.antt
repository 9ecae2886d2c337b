use Rattle.proof_tree.proofs.Premises.{reduced_by}
use Rattle.sequent.specs.Rules.{place}
use Rattle.proof_tree.proofs.laws.reduced_law.Goals as goal

pub returns : goal.returns
returns c = λ s p h. reduced_by s (place p) h
