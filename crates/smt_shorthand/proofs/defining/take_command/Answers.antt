use Rattle.std.proofs.Common.{◌∙◌, sym, ap}
use Rattle.smt_shorthand.specs.Resolving.{resolved}
use Rattle.smt_shorthand.specs.Table.{after}
use Rattle.smt_shorthand.proofs.Commands.{command_told}
use Rattle.smt_shorthand.specs.declared.places.Part.TheVariants as part
use Rattle.smt_shorthand.specs.declared.places.Row.TheVariants as row
use Rattle.smt_lists.specs.Expressions.{expr}
use Rattle.smt_shorthand.proofs.defining.take_command.Goals as goal

pub returns-in_ok-table-in-None : goal.returns-in_ok-table-in-None
returns-in_ok-table-in-None c es =
    let t = c.args.progress.table in
    command_told t c.in_ok-table-in-None.table c.args.progress.out c.push.new.self c.args.e.now c.in_ok-command-in-None.command es
    (sym c.in_ok-sort.ensures ∙ c.in-None.is) c.in_ok-push-in-None.ensures.ok
    (c.in_ok-command-in-None.ensures ∙ ap (λ z. resolved z (part.Members row.Command) (expr c.args.e.now)) c.as_slice.ensures)
    (c.in_ok-table-in-None.ensures ∙ ap (after t) c.command_in.ensures)
