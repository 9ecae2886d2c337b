use Rattle.smt_terms.proofs.Scripts.{checks_law}
use Rattle.smt_terms.proofs.laws.checks_law.Goals as goal

pub returns : goal.returns
returns c = checks_law
