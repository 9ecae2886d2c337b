use Rattle.model_formulas.proofs.Members.{boths_all}
use Rattle.model_formulas.proofs.connecting.both.Goals as goal

pub returns : goal.returns
returns c = boths_all c.args.f c.args.g c.all.result c.new-out.result c.push_all.new.out c.push_all-2.new.out c.new-out.ensures c.in_ok-push_all.ensures c.in_ok-push_all-2.ensures c.all.ensures
