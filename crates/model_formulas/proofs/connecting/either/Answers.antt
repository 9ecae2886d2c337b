use Rattle.model_formulas.proofs.Members.{boths_any}
use Rattle.model_formulas.proofs.connecting.either.Goals as goal

pub returns : goal.returns
returns c = boths_any c.args.f c.args.g c.any.result c.new-out.result c.push_any.new.out c.push_any-2.new.out c.new-out.ensures c.in_ok-push_any.ensures c.in_ok-push_any-2.ensures c.any.ensures
