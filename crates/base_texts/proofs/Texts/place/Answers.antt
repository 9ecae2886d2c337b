use Rattle.std.proofs.Common.{◌∙◌, ap, position}
use Rattle.base_texts.specs.Texts.{is_text}
use Rattle.base_texts.proofs.Kept.{position_is}
use Rattle.base_texts.proofs.Texts.place.Goals as goal

pub returns-clause-place : goal.returns-clause-place
returns-clause-place c = c.get_index_of.ensures.index ∙ position_is c.args.text.now c.self.inside.set.keys ∙ ap (position (is_text c.args.text.now)) c.self.view_is
