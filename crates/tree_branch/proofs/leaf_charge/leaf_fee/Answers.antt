use Rattle.sequent.specs.Views.{sequent_of}
use Rattle.pred_unify.specs.Reading.{sequent_at}
use Rattle.tree_branch.proofs.Pairings.{close_charge}
use Rattle.tree_branch.proofs.leaf_charge.leaf_fee.Goals as goal

pub returns : goal.returns
returns c = close_charge (sequent_of (sequent_at c.args.leaf.now)) _ _ c.closing_size.ensures c.saturating_add.ensures
