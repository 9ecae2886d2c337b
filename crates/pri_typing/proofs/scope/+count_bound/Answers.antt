use Rattle.std.proofs.Common.{rules, arith}
use Rattle.pri_typing.specs.declared.scope.BoundNames.TheViews.{the_lemmas}
use Rattle.pri_typing.proofs.Scopes.{bound_more}
use Rattle.pri_typing.proofs.scope.+count_bound.Goals as goal

pub overflow_cast-result : goal.overflow_cast-result
overflow_cast-result t c = omega (arith, bound_more c.args.bound.now c.in-More.names c.in-More.outer c.in-More.is, c.requires)

pub count_bound-requires : goal.count_bound-requires
count_bound-requires t c = (search (rules, the_lemmas), omega (arith, bound_more c.args.bound.now c.in-More.names c.in-More.outer c.in-More.is, c.requires))
