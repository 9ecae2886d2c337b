use Rattle.std.proofs.Common.{rules, ◌≡◌, true}
use Rattle.std.specs.List.{list_any}
use Rattle.pri_typing.specs.Parts.{is_cut}
use Rattle.pri_typing.specs.Phrase.{phrase}
use Rattle.pri_typing.proofs.Resolving.{parts_least}
use Rattle.pri_typing.proofs.resolution.parts_fault.Goals as goal

pub returns : goal.returns
returns c =
    let asks : list_any is_cut c.args.blocks.now ≡ true = search rules in
    parts_least c.args.parts.now c.args.existential c.args.blocks.now (phrase c.args.expr.now) asks c.in_ok-own.ensures c.in_ok-of_blocks.ensures c.earlier_of.ensures
