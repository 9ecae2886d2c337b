use Rattle.std.proofs.Common.{map}
use Rattle.formula.specs.Tree.{form}
use Rattle.function_encoding.proofs.Kept.{is_kept_limits, not_kept}
use Rattle.function_encoding.proofs.conditions.with_kept.Goals as goal

pub returns-then-kept : goal.returns-then-kept
returns-then-kept c = is_kept_limits c.args.x c.args.sort.now c.args.kept (map form c.args.out) _ c.if-kept.true c.limits.ensures

pub returns : goal.returns
returns c = not_kept c.args.x c.args.sort.now c.args.kept c.args.out c.if-kept.false
