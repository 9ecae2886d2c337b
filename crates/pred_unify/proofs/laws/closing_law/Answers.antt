use Rattle.pred_unify.proofs.Clashes.{pairs_true, closing_true}
use Rattle.pred_unify.proofs.laws.closing_law.Goals as goal

pub returns-clause-pairs : goal.returns-clause-pairs
returns-clause-pairs c = pairs_true

pub returns-clause-closing : goal.returns-clause-closing
returns-clause-closing c = closing_true
