use Rattle.formula.specs.Tree.{form}
use Rattle.test_proofs.proofs.Limits.{asked_searchable}
use Rattle.test_proofs.proofs.telling.told_of_tree.Goals as goal

pub check-requires-clause-searchable : goal.check-requires-clause-searchable
check-requires-clause-searchable c = asked_searchable c.args.asked (form c.in-Ok.root) c.constants.result c.in-Ok.ensures c.constants.ensures
