use Rattle.formula.specs.Tree.{form}
use Rattle.elim_laws.proofs.Reduced.{presburger_of}
use Rattle.quant_elim.proofs.knowing.know_terms.Goals as goal

pub returns : goal.returns
returns c = record { known = λ p. presburger_of (form c.args.f.now) p c.know_reduced.ensures }
