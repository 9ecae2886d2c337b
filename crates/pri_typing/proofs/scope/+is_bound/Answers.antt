use Rattle.std.proofs.Common.{rules}
use Rattle.pri_typing.proofs.Scopes.{bound_is}
use Rattle.pri_typing.proofs.scope.+is_bound.Goals as goal

pub returns-then-is_some : goal.returns-then-is_some
returns-then-is_some t c = search (rules, bound_is)

pub returns-else-is_some : goal.returns-else-is_some
returns-else-is_some t c = search (rules, bound_is)
