use Rattle.std.proofs.Common.{◌∙◌}
use Rattle.function_encoding.proofs.Bounding.{not_empty, unrestricted, restricted_more}
use Rattle.function_encoding.proofs.bounds.restricted.Goals as goal

pub returns : goal.returns
returns c = c.junction.ensures ∙ restricted_more c.args.all c.args.limits _ c.args.f (not_empty _ c.args.limits c.if-is_empty.false c.is_empty.ensures) c.in_ok-push.ensures.ok
