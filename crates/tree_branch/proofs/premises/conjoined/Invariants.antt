use Rattle.std.proofs.Common.{[], drop}
use Rattle.base_budget.specs.Trace.{at}
use Rattle.base_budget.specs.Work.{Remains}
use Rattle.clause_set.specs.Dnfs.{top}
use Rattle.proof_tree.specs.Rules.{conjoined}
use Rattle.tree_branch.proofs.premises.conjoined.Given as goal

abbrev pub invariant-loop-d : goal.invariant-loop-d
invariant-loop-d l = Remains (conjoined (drop l.d-index l.ds) l.all) (at l.purse []) (conjoined l.ds top) (at l.fn.purse [])
