use Rattle.std.proofs.Common.{map}
use Rattle.smt_lists.specs.Expressions.{expr}
use Rattle.smt_commands.specs.Views.{symbol_is}
use Rattle.smt_commands.proofs.Fitting.{declarable}
use Rattle.smt_commands.proofs.declaration.declare.Goals as goal

pub declare-requires-clause-new : goal.declare-requires-clause-new
declare-requires-clause-new c = (declarable c.args.table.entries (symbol_is c.args.name) (map expr c.args.sorts.now) (expr c.args.sort.now) c.in_default.ensures.exact).0

pub declare-requires-clause-few : goal.declare-requires-clause-few
declare-requires-clause-few c = (declarable c.args.table.entries (symbol_is c.args.name) (map expr c.args.sorts.now) (expr c.args.sort.now) c.in_default.ensures.exact).1
