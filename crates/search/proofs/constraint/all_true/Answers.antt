use Rattle.std.proofs.Common.{◌∙◌, List, [], ap, arith, subst, sym}
use Rattle.base_budget.specs.Trace.{at}
use Rattle.base_budget.specs.Work.{Remains}
use Rattle.base_budget.proofs.Charging.{remains_all}
use Rattle.clause_set.specs.declared.literal.Literal.{Literal}
use Rattle.clause_set.specs.Dnfs.{top}
use Rattle.proof_tree.specs.Rules.{conjoined}
use Rattle.search.specs.Trues.{are_top}
use Rattle.search.proofs.Trues.{true_end, true_paid, true_unpaid}
use Rattle.search.proofs.constraint.all_true.Goals as goal

pub loop-d-init : goal.loop-d-init
loop-d-init c =
    let a = at c.args.purse.now [] in (
      subst (λ (l : List (List (List Literal))). Remains (conjoined l top) a (conjoined c.args.ds top) a) (sym c.as_slice-all.ensures) (remains_all (conjoined c.args.ds top) a),
      ap are_top c.as_slice-all.ensures ∙ c.requires.all,
    )

pub returns-in_err-pay_for_true : goal.returns-in_err-pay_for_true
returns-in_err-pay_for_true c =
    true_unpaid c.as_slice-all.result.now c.loop-d.d-index c.d-item.result c.from_residual.result (omega arith) c.d-item.is c.loop-d.invariant.1 c.loop-d.invariant.0 c.from_residual.ensures.1 c.in_err-pay_for_true.ensures

pub loop-d-preserved : goal.loop-d-preserved
loop-d-preserved c = true_paid c.as_slice-all.result.now c.loop-d.d-index c.d-item.result (omega arith) c.d-item.is c.loop-d.invariant.1 c.loop-d.invariant.0 c.in_ok-pay_for_true.ensures

pub returns : goal.returns
returns c = true_end c.as_slice-all.result.now c.loop-d.d-index c.into_first.result (omega arith) (c.into_first.ensures ∙ c.requires.first) c.loop-d.invariant.0
