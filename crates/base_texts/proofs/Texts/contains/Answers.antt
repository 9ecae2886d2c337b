use Rattle.std.proofs.Common.{◌∙◌, ap}
use Rattle.base_texts.specs.Texts.{is_among}
use Rattle.base_texts.proofs.Kept.{among_is}
use Rattle.base_texts.proofs.Texts.contains.Goals as goal

pub returns : goal.returns
returns c = c.contains.ensures ∙ among_is c.args.text.now c.self.inside.set.keys ∙ ap (is_among c.args.text.now) c.self.view_is
