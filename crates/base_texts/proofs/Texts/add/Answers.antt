use Rattle.std.proofs.Common.{◌∙◌, ap, not}
use Rattle.base_texts.specs.Texts.{is_among, with_text}
use Rattle.base_texts.proofs.Kept.{among_is, inserted_is, texts_of}
use Rattle.base_texts.proofs.Texts.add.Goals as goal

pub returns-clause-is_new : goal.returns-clause-is_new
returns-clause-is_new c = c.in_ok-insert.ensures.added
    ∙ ap not (among_is c.in_ok-key.key.items c.self.inside.set.keys ∙ ap (λ z. is_among z (texts_of c.self.inside.set.keys)) c.in_ok-key.ensures.items ∙ ap (is_among c.args.text.now) c.self.view_is)

pub returns-clause-texts : goal.returns-clause-texts
returns-clause-texts c = ap texts_of c.in_ok-insert.ensures.keys ∙ inserted_is c.self.inside.set.keys c.in_ok-key.key
    ∙ ap (λ z. with_text z (texts_of c.self.inside.set.keys)) c.in_ok-key.ensures.items ∙ ap (with_text c.args.text.now) c.self.view_is
