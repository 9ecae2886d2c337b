use Rattle.std.proofs.Common.{arith}
use Rattle.base_budget.proofs.Charging.{work_memory}
use Rattle.model_trees.specs.Rows as rows
use Rattle.sequent.specs.Sequent.{Member}
use Rattle.countermodel.proofs.Asking.{rows_cut, rows_done, rows_next}
use Rattle.countermodel.proofs.rows.value_rows.Goals as goal

pub returns-in_err-value_row : goal.returns-in_err-value_row
returns-in_err-value_row c =
    rows_cut (λ (m : Member). rows.value_row c.args.e.now m.formula) c.args.members.now c.loop-m.m-index c.m-item.result c.loop-m.out c.from_residual.result (omega arith) c.m-item.is c.loop-m.invariant c.in_err-value_row.ensures
    c.from_residual.ensures.1

pub returns-in_err-append : goal.returns-in_err-append
returns-in_err-append c = work_memory c.from_residual-in_err-append.result c.from_residual-in_err-append.ensures.1

pub loop-m-preserved : goal.loop-m-preserved
loop-m-preserved c =
    rows_next (λ (m : Member). rows.value_row c.args.e.now m.formula) c.args.members.now c.loop-m.m-index c.m-item.result c.loop-m.out _ _ (omega arith) c.m-item.is c.loop-m.invariant c.in_ok-value_row.ensures c.in_ok-append.ensures

pub returns : goal.returns
returns c = rows_done (λ (m : Member). rows.value_row c.args.e.now m.formula) c.args.members.now c.loop-m.m-index c.loop-m.out (omega arith) c.loop-m.invariant
