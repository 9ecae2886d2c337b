use Rattle.std.proofs.Common.{◌≡◌, [], drop, true}
use Rattle.base_budget.specs.Trace.{at}
use Rattle.base_budget.specs.Work.{Remains}
use Rattle.clause_set.specs.Dnfs.{top}
use Rattle.proof_tree.specs.Rules.{conjoined}
use Rattle.search.specs.Trues.{are_top}
use Rattle.search.proofs.constraint.all_true.Given as goal

abbrev pub invariant-loop-d : goal.invariant-loop-d
invariant-loop-d l = Remains (conjoined (drop l.d-index l.all) top) (at l.purse []) (conjoined l.fn.ds top) (at l.fn.purse []) × (are_top (drop l.d-index l.all) ≡ true)
