use Rattle.proof_tree.specs.Rules.{first_given}
use Rattle.search.proofs.Closing.{just_made}
use Rattle.search.proofs.constraint.constraint.Goals as goal

pub returns-in-Alpha : goal.returns-in-Alpha
returns-in-Alpha c = rw c.in-Alpha.is (just_made (first_given c.args.ds) c.into_first.result c.args.purse.now c.unlogged.ensures c.into_first.ensures)
