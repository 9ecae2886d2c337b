use Rattle.std.proofs.Common.{map, refl}
use Rattle.smt_lists.specs.Expressions.{expr}
use Rattle.smt_commands.specs.Views.{symbol_is}
use Rattle.smt_commands.specs.Faults.{TermFaults}
use Rattle.smt_typing.proofs.CommandForms.{found_of, found_stops, found_new, found_passes}
use Rattle.smt_typing.proofs.commands.define.Goals as goal

pub returns-in-Some-clause-refused : goal.returns-in-Some-clause-refused
returns-in-Some-clause-refused g c =
    let terms : TermFaults = record { faults = g.T.Terms.faults; uses = g.T.Terms.occurs } in
    let x = symbol_is c.args.name in
    found_stops terms c.args.scopes c.args.at x (map expr c.args.arguments.now) (expr c.args.sort.now) (expr c.args.term.now) c.in-Ok.found c.in-Some.e
    (found_of terms c.args.scopes c.args.at x (map expr c.args.arguments.now) (expr c.args.sort.now) (expr c.args.term.now) c.read_sort.result c.table-table.result.now.entries
    c.with_definition_faults-found.result c.in-Ok.found c.table-table.ensures c.with_definition_faults-found.ensures.exact c.read_sort.ensures.exact c.in-Ok.ensures) c.in-Some.is

pub define-requires : goal.define-requires
define-requires g c =
    let terms : TermFaults = record { faults = g.T.Terms.faults; uses = g.T.Terms.occurs } in
    let x = symbol_is c.args.name in
    record {
      new = found_new terms c.args.scopes c.args.at x (map expr c.args.arguments.now) (expr c.args.sort.now) (expr c.args.term.now) c.in-Ok.found
          (found_of terms c.args.scopes c.args.at x (map expr c.args.arguments.now) (expr c.args.sort.now) (expr c.args.term.now) c.read_sort.result c.table-table.result.now.entries
          c.with_definition_faults-found.result c.in-Ok.found c.table-table.ensures c.with_definition_faults-found.ensures.exact c.read_sort.ensures.exact c.in-Ok.ensures) c.in_default-found.is;
    }

pub returns-clause-fits : goal.returns-clause-fits
returns-clause-fits g c =
    let terms : TermFaults = record { faults = g.T.Terms.faults; uses = g.T.Terms.occurs } in
    let x = symbol_is c.args.name in
    found_passes terms c.args.scopes c.args.at x c.args.arguments.now (expr c.args.sort.now) (expr c.args.term.now) c.in-Ok.found _ c.sort_or_int.result c.in-Ok-define.scopes
    (found_of terms c.args.scopes c.args.at x (map expr c.args.arguments.now) (expr c.args.sort.now) (expr c.args.term.now) c.read_sort.result c.table-table.result.now.entries
    c.with_definition_faults-found.result c.in-Ok.found c.table-table.ensures c.with_definition_faults-found.ensures.exact c.read_sort.ensures.exact c.in-Ok.ensures)
    c.in_default-found.is refl c.sort_or_int.ensures.exact c.in-Ok-define.ensures
