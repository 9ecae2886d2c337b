use Rattle.std.proofs.Common.{◌∙◌, ap}
use Rattle.base_texts.specs.Texts.{is_among}
use Rattle.base_texts.proofs.Kept.{among_is}
use Rattle.smt_commands.proofs.table.Table.contains.Goals as goal

pub returns : goal.returns
returns c = c.contains.ensures ∙ among_is c.args.text.now c.args.self.now.texts.keys ∙ ap (is_among c.args.text.now) c.args.self.now.same_texts
