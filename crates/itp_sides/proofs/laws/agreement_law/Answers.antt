use Rattle.itp_sides.proofs.Agreeing.{agree_true}
use Rattle.itp_sides.proofs.laws.agreement_law.Goals as goal

pub returns : goal.returns
returns c = agree_true
