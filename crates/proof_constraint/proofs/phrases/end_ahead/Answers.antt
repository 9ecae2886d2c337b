use Rattle.proof_constraint.proofs.Skimming.{no_end}
use Rattle.proof_constraint.proofs.phrases.end_ahead.Goals as goal

pub returns-in_default-line_feed : goal.returns-in_default-line_feed
returns-in_default-line_feed c = λ rest is cut. no_end c.args.text.now c.in_default-line_feed.field-0 c.in_default-line_feed.ensures.lacks rest cut
