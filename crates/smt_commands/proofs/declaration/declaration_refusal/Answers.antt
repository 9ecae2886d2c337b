use Rattle.std.proofs.Common.{None, false, true, map, refl}
use Rattle.std.specs.List.{flat_map}
use Rattle.smt_lists.specs.Expressions.{expr}
use Rattle.smt_commands.specs.Faults.{name_faults, many_faults, sort_faults}
use Rattle.smt_commands.specs.Views.{symbol_is}
use Rattle.smt_commands.proofs.Least.{four}
use Rattle.smt_commands.proofs.declaration.declaration_refusal.Goals as goal

pub returns : goal.returns
returns c =
    let table = c.args.table.now.entries in
    let x = symbol_is c.args.name in
    record {
      exact = four None (name_faults table x) (many_faults table x) (flat_map (sort_faults false) (map expr c.args.sorts.now)) (sort_faults true (expr c.args.sort.now))
          c.with_name_fault-found.result c.with_many_fault-found.result c.with_sort_faults-found.result c.with_sort_fault.result
          c.with_name_fault-found.ensures.exact (c.with_many_fault-found.ensures.exact x refl) c.with_sort_faults-found.ensures.exact c.with_sort_fault.ensures.exact;
    }
