use Rattle.std.proofs.Common.{◌+◌, ◌^◌, arith}
use Rattle.clause_set.specs.Dnfs.{negation}
use Rattle.elim_laws.specs.Elimination.{exists_name}
use Rattle.elim_laws.specs.Whole.{eliminating}
use Rattle.formula.specs.Sizes.{size}
use Rattle.formula.specs.Tree.{form}
use Rattle.base_budget.proofs.Charging.{then_ok, then_err, unnoted, drop-item, remains_next}
use Rattle.quant_elim.proofs.Arms.{arm_Pred, arm_NotPred, arm_NotFun, some_ok, some_err, every_refused, every_ok, every_err, dual_deep}
use Rattle.quant_elim.proofs.Atomic.{atom_Eq, atom_Neq, atom_Geq, work_atom}
use Rattle.quant_elim.proofs.Budgets.{below_budget}
use Rattle.quant_elim.proofs.Unfolded.{member_depth}
use Rattle.quant_elim.proofs.wholes.+elimination.Goals as goal

pub eliminate_form-returns-in-Eq : goal.eliminate_form-returns-in-Eq
eliminate_form-returns-in-Eq t c = work_atom c.args.names (form c.args.f.now) _ (atom_Eq c.args.f.now c.in-Eq.field-0 c.in-Eq.is) c.atom.ensures.charged

pub eliminate_form-returns-in-Neq : goal.eliminate_form-returns-in-Neq
eliminate_form-returns-in-Neq t c = work_atom c.args.names (form c.args.f.now) _ (atom_Neq c.args.f.now c.in-Neq.field-0 c.in-Neq.is) c.atom-in-Neq.ensures.charged

pub eliminate_form-returns-in-Geq : goal.eliminate_form-returns-in-Geq
eliminate_form-returns-in-Geq t c = work_atom c.args.names (form c.args.f.now) _ (atom_Geq c.args.f.now c.in-Geq.field-0 c.in-Geq.is) c.atom-in-Geq.ensures.charged

pub eliminate_form-returns-in-Pred : goal.eliminate_form-returns-in-Pred
eliminate_form-returns-in-Pred t c = arm_Pred c.args.names c.args.f.now c.in-Pred.field-0 c.in-Pred.field-1 c.bottom.result c.in-Pred.is c.bottom.ensures

pub eliminate_form-returns-in-NotPred : goal.eliminate_form-returns-in-NotPred
eliminate_form-returns-in-NotPred t c = arm_NotPred c.args.names c.args.f.now c.in-NotPred.field-0 c.in-NotPred.field-1 c.bottom-in-NotPred.result c.in-NotPred.is c.bottom-in-NotPred.ensures

pub eliminate_form-returns-in-NotFun : goal.eliminate_form-returns-in-NotFun
eliminate_form-returns-in-NotFun t c = arm_NotFun c.args.names c.args.f.now c.in-NotFun.field-0 c.in-NotFun.field-1 c.in-NotFun.field-2 c.bottom-in-NotFun.result c.in-NotFun.is c.bottom-in-NotFun.ensures

pub conjunction_of-eliminate_form-requires : goal.conjunction_of-eliminate_form-requires
conjunction_of-eliminate_form-requires t c =
    let item = drop-item c.args.members.now c.loop-f.f-index c.f-item.result (omega arith) c.f-item.is in
    let d = member_depth c.args.members.now c.loop-f.f-index c.f-item.result _ item in
    (omega (arith, d), (omega (arith, d), c.loop-f.invariant.budget))

pub conjunction_of-loop-f-preserved : goal.conjunction_of-loop-f-preserved
conjunction_of-loop-f-preserved t c =
    let item = drop-item c.args.members.now c.loop-f.f-index c.f-item.result (omega arith) c.f-item.is in
    record {
      work = remains_next _ _ (remains_next _ _ (rw item at c.loop-f.invariant.work) c.in_ok-member.ensures) (unnoted _ c.in_ok-all-2.ensures.charged);
      budget = below_budget (2 ^ 32) c.in_ok-all-2.ensures.charged (below_budget (2 ^ 32) c.in_ok-member.ensures c.loop-f.invariant.budget);
    }

pub disjunction_of-eliminate_form-requires : goal.disjunction_of-eliminate_form-requires
disjunction_of-eliminate_form-requires t c =
    let item = drop-item c.args.members.now c.loop-f.f-index c.f-item.result (omega arith) c.f-item.is in
    let d = member_depth c.args.members.now c.loop-f.f-index c.f-item.result _ item in
    (omega (arith, d), (omega (arith, d), c.loop-f.invariant.budget))

pub disjunction_of-loop-f-preserved : goal.disjunction_of-loop-f-preserved
disjunction_of-loop-f-preserved t c =
    let item = drop-item c.args.members.now c.loop-f.f-index c.f-item.result (omega arith) c.f-item.is in
    record {
      work = remains_next _ _ (remains_next _ _ (rw item at c.loop-f.invariant.work) c.in_ok-member.ensures) (unnoted _ c.in_ok-any.ensures.charged);
      budget = below_budget (2 ^ 32) c.in_ok-any.ensures.charged (below_budget (2 ^ 32) c.in_ok-member.ensures c.loop-f.invariant.budget);
    }

pub every_value-returns-in_err-step : goal.every_value-returns-in_err-step
every_value-returns-in_err-step t c = every_refused c.args.names (form c.args.body.now) _ c.from_residual.result c.from_residual.ensures.1 (c.in_err-step.ensures (size (form c.args.body.now)) c.size.ensures)

pub every_value-returns-in_err-negation : goal.every_value-returns-in_err-negation
every_value-returns-in_err-negation t c =
    every_err c.args.names (form c.args.body.now) _ c.from_residual-in_err-negation.result c.from_residual-in_err-negation.ensures.1 (c.in_ok-step.ensures (size (form c.args.body.now)) c.size.ensures) c.in_err-negation.ensures

pub every_value-eliminate_form-requires : goal.every_value-eliminate_form-requires
every_value-eliminate_form-requires t c =
    let same = dual_deep (form c.args.body.now) c.in_ok-negation.negation c.in_ok-negation.ensures in
    (omega (arith, same), (omega (arith, same), below_budget (2 ^ 32) (c.in_ok-step.ensures (size (form c.args.body.now)) c.size.ensures) c.requires.budget))

pub every_value-returns-in_err-fails : goal.every_value-returns-in_err-fails
every_value-returns-in_err-fails t c =
    every_ok c.args.names (form c.args.body.now) _ c.in_ok-negation.negation (c.in_ok-step.ensures (size (form c.args.body.now)) c.size.ensures) c.in_ok-negation.ensures
    (then_err (eliminating (c.args.names + 1) (form c.in_ok-negation.negation)) _ c.from_residual-in_err-fails.result c.from_residual-in_err-fails.ensures.1 c.in_err-fails.ensures)

pub every_value-take_name_out-requires : goal.every_value-take_name_out-requires
every_value-take_name_out-requires t c = below_budget (2 ^ 32) c.in_ok-fails.ensures (below_budget (2 ^ 32) (c.in_ok-step.ensures (size (form c.args.body.now)) c.size.ensures) c.requires.budget)

pub every_value-returns-in_err-some : goal.every_value-returns-in_err-some
every_value-returns-in_err-some t c =
    every_ok c.args.names (form c.args.body.now) _ c.in_ok-negation.negation (c.in_ok-step.ensures (size (form c.args.body.now)) c.size.ensures) c.in_ok-negation.ensures
    (then_ok (eliminating (c.args.names + 1) (form c.in_ok-negation.negation)) _ c.in_ok-fails.ensures (then_err (exists_name c.args.names c.in_ok-fails.fails) negation c.from_residual-in_err-some.result c.from_residual-in_err-some.ensures.1 c.in_err-some.ensures))

pub every_value-returns : goal.every_value-returns
every_value-returns t c =
    every_ok c.args.names (form c.args.body.now) _ c.in_ok-negation.negation (c.in_ok-step.ensures (size (form c.args.body.now)) c.size.ensures) c.in_ok-negation.ensures
    (then_ok (eliminating (c.args.names + 1) (form c.in_ok-negation.negation)) _ c.in_ok-fails.ensures (then_ok (exists_name c.args.names c.in_ok-fails.fails) negation c.in_ok-some.ensures (unnoted _ c.not.ensures.charged)))

pub some_value-returns-in_err-d : goal.some_value-returns-in_err-d
some_value-returns-in_err-d t c = some_err c.args.names (form c.args.body.now) c.from_residual.result c.from_residual.ensures.1 c.in_err-d.ensures

pub some_value-take_name_out-requires : goal.some_value-take_name_out-requires
some_value-take_name_out-requires t c = below_budget (2 ^ 32) c.in_ok-d.ensures c.requires.budget

pub some_value-returns : goal.some_value-returns
some_value-returns t c = some_ok c.args.names (form c.args.body.now) c.in_ok-d.ensures c.take_name_out.ensures
