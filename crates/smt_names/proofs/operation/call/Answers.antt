use Rattle.std.proofs.Common.{◌∙◌}
use Rattle.std.proofs.lemmas.Result.{IfOk-weaker}
use Rattle.smt_names.specs.Body.{shapes_of}
use Rattle.smt_names.specs.Saying.{calls_of, shapes_said}
use Rattle.smt_names.specs.declared.body.Body.TheVariants as b
use Rattle.smt_names.specs.declared.body.Leaf.TheVariants as l
use Rattle.smt_names.proofs.Using.{call-trimmed}
use Rattle.smt_names.proofs.operation.call.Goals as goal

pub returns-then-k-definitions : goal.returns-then-k-definitions
returns-then-k-definitions c = IfOk-weaker c.short_call.result _ _ (λ r h uses e n.
    let D = calls_of c.args.definitions.now in
    h e n
    ∙ call-trimmed c.args.used.now c.args.definitions.now c.args.k c.as_slice.result.now c.index-used-k.result (b.Leaf (l.Constant 0)) e (shapes_said D e (shapes_of c.trimmed-trimmed.result))
    (shapes_said D e (shapes_of c.args.arguments)) n uses c.if-k-definitions.true (c.as_slice.ensures ∙ c.index-used-k.is) (λ t marked C m. c.trimmed-trimmed.ensures t marked C D e m)) c.short_call.ensures
