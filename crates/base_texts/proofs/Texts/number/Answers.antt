use Rattle.std.proofs.Common.{sym, ◌∙◌}
use Rattle.base_texts.proofs.Kept.{place_missing}
use Rattle.base_texts.proofs.Texts.number.Goals as goal

pub returns-in-None : goal.returns-in-None
returns-in-None c = c.len.ensures ∙ sym (place_missing c.args.text.now c.args.self.now (sym c.place.ensures.place ∙ c.in-None.is))
