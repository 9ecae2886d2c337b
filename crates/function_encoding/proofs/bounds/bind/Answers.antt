use Rattle.std.proofs.Common.{map, ap, ◌∙◌}
use Rattle.base_budget.specs.Trace.{just}
use Rattle.formula.specs.Tree.{form}
use Rattle.formula.proofs.Making.{made_ok, made_err, made_just, made_memory}
use Rattle.form_encoding.specs.Encoding.{bounds, limits, quantified, restricted}
use Rattle.function_encoding.proofs.Bounding.{alone}
use Rattle.function_encoding.proofs.bounds.bind.Goals as goal

pub returns-in_err-limits : goal.returns-in_err-limits
returns-in_err-limits c =
    made_err (λ hs. map form hs) form _ (λ hs. just (quantified c.args.all (restricted c.args.all hs (form c.args.body)))) _ c.from_residual.ensures.1
    (alone (limits c.args.all c.args.x (bounds c.args.sort.now)) c.new.result _ c.new.ensures c.in_err-limits.ensures)

pub returns-in_err-whole : goal.returns-in_err-whole
returns-in_err-whole c = made_memory form _ c.from_residual-in_err-whole.ensures.1

pub returns-in_err-quantified : goal.returns-in_err-quantified
returns-in_err-quantified c = made_memory form _ c.from_residual-in_err-quantified.ensures.1

pub returns : goal.returns
returns c =
    made_ok (λ hs. map form hs) form _ (λ hs. just (quantified c.args.all (restricted c.args.all hs (form c.args.body))))
    (alone (limits c.args.all c.args.x (bounds c.args.sort.now)) c.new.result _ c.new.ensures c.in_ok-limits.ensures)
    (made_just form _ _ (c.in_ok-quantified.ensures ∙ ap (quantified c.args.all) c.in_ok-whole.ensures))
