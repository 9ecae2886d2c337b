use Rattle.std.proofs.Common.{rules}
use Rattle.clause_text.proofs.ExactHead.{label_given, label_missing}
use Rattle.clause_text.proofs.head.label.Goals as goal

pub returns-then-eq : goal.returns-then-eq
returns-then-eq c = label_given c.args.label.now c.args.text.now c.split_word.result.0.now c.split_word.result.1.now c.split_word.ensures.parts c.split_word.ensures.plain c.requires (search rules)

pub returns-else-eq : goal.returns-else-eq
returns-else-eq c = label_missing c.args.label.now c.args.text.now c.split_word.result.0.now c.split_word.result.1.now c.split_word.ensures.parts c.split_word.ensures.plain c.split_word.ensures.stops (search rules)
