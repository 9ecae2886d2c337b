use Rattle.std.proofs.Common.{true, map}
use Rattle.std.specs.List.{flat_map}
use Rattle.smt_lists.specs.Expressions.{expr}
use Rattle.smt_commands.specs.Faults.{name_faults, argument_faults, sort_faults}
use Rattle.smt_commands.specs.Views.{symbol_is}
use Rattle.smt_commands.proofs.Least.{three}
use Rattle.smt_commands.proofs.declaration.with_definition_faults.Goals as goal

pub returns : goal.returns
returns c = record {
  exact = three c.args.found (name_faults c.args.table.now.entries (symbol_is c.args.name)) (flat_map argument_faults (map expr c.args.arguments.now)) (sort_faults true (expr c.args.sort.now))
      c.with_name_fault-found.result c.with_argument_faults-found.result c.with_sort_fault.result
      c.with_name_fault-found.ensures.exact c.with_argument_faults-found.ensures.exact c.with_sort_fault.ensures.exact;
}
