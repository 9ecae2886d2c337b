use Rattle.std.proofs.Common.{◌∙◌}
use Rattle.std.proofs.lemmas.Result.{IfOk-weaker}
use Rattle.smt_sizes.specs.Linear.{sum}
use Rattle.smt_sizes.proofs.Rests.{pairs-made}
use Rattle.smt_sizes.proofs.pairs.pairs.Goals as goal

pub returns : goal.returns
returns c = IfOk-weaker c.by_kind.result _ _ (λ l h.
    h ∙ pairs-made c.args.kinds.now (sum c.new-all.result) c.inside-below.result c.joint.result c.of_pairs.result c.plus.result c.in_pairs.result c.in_pairs-2.result
    c.inside-below.ensures c.new-all.ensures c.plus.ensures c.joint.ensures c.of_pairs.ensures c.in_pairs.ensures c.in_pairs-2.ensures) c.by_kind.ensures
