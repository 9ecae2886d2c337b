use Rattle.std.proofs.Common.{sym, ◌∙◌}
use Rattle.function_encoding.specs.Counted.{counted}
use Rattle.function_encoding.proofs.Limits.{without_bounds, with_bounds}
use Rattle.function_encoding.proofs.largeness.with_conditions.Goals as goal

pub returns-then-has_bounds : goal.returns-then-has_bounds
returns-then-has_bounds c = with_bounds c.args.sorts.now (counted c.args.e) _ _ _ (sym c.has_bounds.ensures ∙ c.if-has_bounds.true) c.beside.ensures c.behind_conditions.ensures c.above.ensures

pub returns : goal.returns
returns c = without_bounds c.args.sorts.now (counted c.args.e) (sym c.has_bounds.ensures ∙ c.if-has_bounds.false)
