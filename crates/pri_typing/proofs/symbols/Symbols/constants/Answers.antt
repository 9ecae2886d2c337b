use Rattle.std.proofs.Common.{arith, ap, length}
use Rattle.pri_typing.proofs.Tables.{constants_fit}
use Rattle.pri_typing.proofs.symbols.Symbols.constants.Goals as goal

pub overflow_cast-result : goal.overflow_cast-result
overflow_cast-result c = omega (arith, c.requires, ap length c.self.view_is, constants_fit c.self.inside.builder.lists c.self.inside.builder.declarations c.self.invariant.listed)

pub overflow_cast-result-2 : goal.overflow_cast-result-2
overflow_cast-result-2 c = omega (arith, c.requires, ap length c.self.view_is, constants_fit c.self.inside.builder.lists c.self.inside.builder.declarations c.self.invariant.listed)

pub overflow_add-result : goal.overflow_add-result
overflow_add-result c = omega (arith, c.requires, ap length c.self.view_is, constants_fit c.self.inside.builder.lists c.self.inside.builder.declarations c.self.invariant.listed)
