use Rattle.proof_tree.specs.Rules.{first_given}
use Rattle.tree_checker.proofs.Redoing.{every_followed}
use Rattle.tree_checker.proofs.constraints.delta.Goals as goal

pub returns : goal.returns
returns c = λ n. every_followed c.args.count c.first_of-d.result (first_given c.args.given) c.args.log.now.entries c.check_forall.result n c.check_forall.ensures.work c.outcome.ensures c.first_of-d.ensures
